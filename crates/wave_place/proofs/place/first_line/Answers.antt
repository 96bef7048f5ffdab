use Rattle.std.proofs.Common.{ℕ, ◌≡◌, List, [], ◌∷◌, ◌++◌, ◌⊎◌, Some, None, arith, suc, take, drop, sym, ap, ◌∙◌, subst}
use Rattle.std.proofs.lemmas.Str.Pattern.{find_char}
use Rattle.std.proofs.lemmas.List.{take-append-drop}
use Rattle.wave_place.specs.Places.{IsInOneLine, EndsWithReturn, IsBehindLine}
use Rattle.wave_place.proofs.Lines.{none_of, none_before, drop_at, without_end}
use Rattle.wave_place.proofs.place.first_line.Goals as goal

-- the line before the first line feed, without its line end
cut : (text line shorter : List ℕ) (at : ℕ) → IsInOneLine (take at text) → drop at text ≡ 10 ∷ drop (suc at) text
    → line ≡ take at text → (line ≡ shorter ++ 13 ∷ []) ⊎ (line ≡ shorter) × (EndsWithReturn line → ⊥)
    → IsInOneLine shorter × ((behind : List ℕ) × (text ≡ shorter ++ behind) × IsBehindLine shorter behind)
cut text line shorter at one feed prefix short =
    without_end text line shorter (drop (suc at) text) (subst IsInOneLine (sym prefix) one)
    (sym (take-append-drop at text) ∙ (ap (λ (x : List ℕ). x ++ drop at text) (sym prefix) ∙ ap (λ (x : List ℕ). line ++ x) feed)) short

whole : (c : goal.After-without_return) → IsInOneLine c.without_return.result.now × ((behind : List ℕ) × (c.args.text.now ≡ c.without_return.result.now ++ behind) × IsBehindLine c.without_return.result.now behind)
whole c =
    let found = find_char 10 c.args.text.now (Some c.in-Some.at) c.in-Some.ensures.cases (omega arith) in
    cut c.args.text.now c.split_at.result.0.now c.without_return.result.now c.in-Some.at
    (none_before 10 c.args.text.now c.in-Some.at found.0 found.2) (drop_at 10 c.args.text.now c.in-Some.at found.0 found.1) c.split_at.ensures.front c.without_return.ensures

pub returns-in-Some-clause-line : goal.returns-in-Some-clause-line
returns-in-Some-clause-line c = (whole c).0

pub returns-in-Some-clause-split : goal.returns-in-Some-clause-split
returns-in-Some-clause-split c = (whole c).1

pub returns-in-None-clause-line : goal.returns-in-None-clause-line
returns-in-None-clause-line c = none_of 10 c.args.text.now (find_char 10 c.args.text.now None c.in-None.ensures.cases (omega arith))
