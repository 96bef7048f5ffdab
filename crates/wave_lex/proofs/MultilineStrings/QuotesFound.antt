-- The longest multiline string at the start of a text, by the first later three quotes.
use Rattle.std.proofs.Common.{◌≡◌, ◌≢◌, ℕ, ◌≤◌, ◌<◌, ◌+◌, ◌-◌, suc, List, ◌∷◌, ◌++◌, inl, inr, refl, sym, ap, ◌∙◌, length, take, drop, arith, get_or, Some, None, append_assoc, length-append, length-take-le}
use Rattle.std.specs.Prelude.{codes, encode_utf8_all}
use Rattle.std.specs.Str.{IsUtf8, chars, IsCharBoundary}
use Rattle.std.proofs.lemmas.Bool.{cases_lt}
use Rattle.std.proofs.lemmas.List.{append_cancel_left, take-append-drop}
use Rattle.std.proofs.lemmas.Str.{encodes-append, encodes-chars, IsUtf8-take, IsCharBoundary-before_ascii}
use Rattle.std.proofs.Math.Seq.{take-append_seam}
use Rattle.memchr.specs.Find.{OccursAt, Nowhere, NoneBefore}
use Rattle.memchr.proofs.lemmas.MatchLemmas.{OccursAt-from_part, OccursAt-part, OccursAt-split}
use Rattle.wave_lex.specs.LongestMatch.{Greatest, IsPrefixOf}
use Rattle.wave_lex.specs.Tokens.{multiline_string}
use Rattle.wave_lex.specs.Tokenization.{three_quotes, HasNoThreeQuotes}
use Rattle.wave_lex.proofs.Tokenization.Classes.{multiline_begins}
use Rattle.wave_lex.proofs.QuickScan.Prefixes.{take_plus}
use Rattle.wave_lex.proofs.LongestPrefix.ByComputing.{ascii_spelled}
use Rattle.wave_lex.proofs.MultilineStrings.FirstThreeQuotes.{through_into, through_from}
use Rattle.wave_lex.proofs.LongestPrefix.MachineWalks.{begins}

-- where no three quotes stand, no multiline string does
pub none_unquoted : (s : List ℕ) → ((rest : List ℕ) → s ≢ three_quotes ++ rest) → Greatest (IsPrefixOf multiline_string s) None
none_unquoted s h = λ k f. let m = multiline_begins s k (f, tt) in h m.0 m.1

-- ---- where three quotes stand

-- what stands between two parts of a text occurs after the first of them
occurs_between : (x needle y s : List ℕ) → s ≡ x ++ (needle ++ y) → OccursAt s needle (length x)
occurs_between x needle y s e =
    let long : length s ≡ length x + (length needle + length y) = ap length e ∙ (length-append x (needle ++ y) ∙ ap (λ (z : ℕ). length x + z) (length-append needle y)) in
    let same : take (length x) s ++ drop (length x) s ≡ x ++ (needle ++ y) = take-append-drop (length x) s ∙ e in
    let prefix : take (length x) s ≡ x = ap (λ (z : List ℕ). take (length x) z) e ∙ take-append_seam x (needle ++ y) in
    let behind : drop (length x) s ≡ needle ++ y =
    append_cancel_left x (drop (length x) s) (needle ++ y) (sym (ap (λ (z : List ℕ). z ++ drop (length x) s) prefix) ∙ same) in
    OccursAt-from_part s needle (length x) (omega arith) (ap (λ (z : List ℕ). take (length needle) z) behind ∙ take-append_seam needle y)

-- the bytes of scalars and three quotes
quoted_behind : (u : List ℕ) → encode_utf8_all (u ++ three_quotes) ≡ encode_utf8_all u ++ three_quotes
quoted_behind u = encodes-append u three_quotes ∙ ap (λ (z : List ℕ). encode_utf8_all u ++ z) (ascii_spelled three_quotes refl)

-- the bytes of scalars between three quotes
quoted_around : (u : List ℕ) → encode_utf8_all (three_quotes ++ (u ++ three_quotes)) ≡ three_quotes ++ (encode_utf8_all u ++ three_quotes)
quoted_around u =
    encodes-append three_quotes (u ++ three_quotes)
    ∙ (ap (λ (z : List ℕ). z ++ encode_utf8_all (u ++ three_quotes)) (ascii_spelled three_quotes refl) ∙ ap (λ (z : List ℕ). three_quotes ++ z) (quoted_behind u))

-- the inside of a prefix of j bytes: its scalars, and what follows their bytes
pub record Closed (inside : List ℕ) (j : ℕ) : Type 0 where
  pub scalars : List ℕ
  pub rest : List ℕ
  pub none : HasNoThreeQuotes (scalars ++ codes "\"\"")
  pub cut : inside ≡ encode_utf8_all scalars ++ (three_quotes ++ rest)
  pub long : j ≡ length (encode_utf8_all scalars) + 6

-- a prefix ends with three quotes of the inside
closed : (s inside : List ℕ) (j : ℕ) → s ≡ three_quotes ++ inside → IsPrefixOf multiline_string s j → Closed inside j
closed s inside j e f =
    let (u, split, none) = through_into f.scalars f.has in
    let bytes : three_quotes ++ (encode_utf8_all u ++ three_quotes) ≡ take j s = sym (quoted_around u) ∙ (sym (ap encode_utf8_all split) ∙ f.spelled) in
    let whole : three_quotes ++ inside ≡ three_quotes ++ ((encode_utf8_all u ++ three_quotes) ++ drop j s) =
    sym e ∙ (sym (take-append-drop j s) ∙ ap (λ (z : List ℕ). z ++ drop j s) (sym bytes)) in
    let fits : j ≤ length s = f.fits in
    let count : length (three_quotes ++ (encode_utf8_all u ++ three_quotes)) ≡ j = ap length bytes ∙ length-take-le j s fits in
    record {
      scalars = u;
      rest = drop j s;
      none = none;
      cut = append_cancel_left three_quotes inside ((encode_utf8_all u ++ three_quotes) ++ drop j s) whole ∙ append_assoc (encode_utf8_all u) three_quotes (drop j s);
      long = omega (arith, length-append (encode_utf8_all u) three_quotes);
    }

-- where no later three quotes stand, no multiline string does
pub none_unclosed : (s inside : List ℕ) → s ≡ three_quotes ++ inside → Nowhere (OccursAt inside three_quotes) 0 (length inside + 1) → Greatest (IsPrefixOf multiline_string s) None
none_unclosed s inside e h = λ j f.
    let c = closed s inside j e f in
    let there : OccursAt inside three_quotes (length (encode_utf8_all c.scalars)) = occurs_between (encode_utf8_all c.scalars) three_quotes c.rest inside c.cut in
    let fits : length (encode_utf8_all c.scalars) + 3 ≤ length inside = there.fits in
    h (length (encode_utf8_all c.scalars)) (omega arith) (omega arith) there

-- ---- the first later three quotes

-- a text is what stands before three quotes, those quotes and the rest
first_part : (inside : List ℕ) (n : ℕ) → OccursAt inside three_quotes n → inside ≡ take n inside ++ (three_quotes ++ drop (n + 3) inside)
first_part inside n there = sym (take-append-drop n inside) ∙ ap (λ (z : List ℕ). take n inside ++ z) (OccursAt-split inside three_quotes n there)

-- the bytes of scalars and two quotes
two_quotes : (u : List ℕ) → encode_utf8_all (u ++ codes "\"\"") ≡ encode_utf8_all u ++ codes "\"\""
two_quotes u = encodes-append u (codes "\"\"") ∙ ap (λ (z : List ℕ). encode_utf8_all u ++ z) (ascii_spelled (codes "\"\"") refl)

-- three quotes stand neither before the first ones nor across their first two
none_earlier : (inside cs : List ℕ) (n : ℕ) → encode_utf8_all cs ≡ take n inside → NoneBefore (OccursAt inside three_quotes) 0 (length inside + 1) n → OccursAt inside three_quotes n
    → HasNoThreeQuotes (cs ++ codes "\"\"")
none_earlier inside cs n spelled first there x y e =
    let fits : n + 3 ≤ length inside = there.fits in
    let bytes : take n inside ++ codes "\"\"" ≡ encode_utf8_all x ++ (three_quotes ++ encode_utf8_all y) =
    sym (two_quotes cs ∙ ap (λ (z : List ℕ). z ++ codes "\"\"") spelled)
    ∙ (ap encode_utf8_all e ∙ (encodes-append x (three_quotes ++ y)
    ∙ ap (λ (z : List ℕ). encode_utf8_all x ++ z) (encodes-append three_quotes y ∙ ap (λ (z : List ℕ). z ++ encode_utf8_all y) (ascii_spelled three_quotes refl)))) in
    let whole : inside ≡ encode_utf8_all x ++ (three_quotes ++ (encode_utf8_all y ++ 34 ∷ drop (n + 3) inside)) =
    first_part inside n there ∙ (sym (append_assoc (take n inside) (codes "\"\"") (34 ∷ drop (n + 3) inside))
    ∙ (ap (λ (z : List ℕ). z ++ 34 ∷ drop (n + 3) inside) bytes ∙ append_assoc (encode_utf8_all x) (three_quotes ++ encode_utf8_all y) (34 ∷ drop (n + 3) inside))) in
    let here : OccursAt inside three_quotes (length (encode_utf8_all x)) =
    occurs_between (encode_utf8_all x) three_quotes (encode_utf8_all y ++ 34 ∷ drop (n + 3) inside) inside whole in
    let left : length (take n inside ++ codes "\"\"") ≡ n + 2 = length-append (take n inside) (codes "\"\"") ∙ ap (λ (z : ℕ). z + 2) (length-take-le n inside (omega arith)) in
    let right : length (take n inside ++ codes "\"\"") ≡ length (encode_utf8_all x) + length (three_quotes ++ encode_utf8_all y) =
    ap length bytes ∙ length-append (encode_utf8_all x) (three_quotes ++ encode_utf8_all y) in
    let less : length (encode_utf8_all x) < n = omega arith in
    first.before (length (encode_utf8_all x)) (omega arith) less here

-- no prefix goes on after the first three quotes
no_further : (inside cs : List ℕ) (n j : ℕ) → encode_utf8_all cs ≡ take n inside → OccursAt inside three_quotes n → Closed inside j → j ≤ n + 6
no_further inside cs n j spelled there c = elim (cases_lt n (length (encode_utf8_all c.scalars))) as (λ _. j ≤ n + 6) [
  | inr l ↦ let long : j ≡ length (encode_utf8_all c.scalars) + 6 = c.long in omega arith
  | inl l ↦
      let whole : inside ≡ (encode_utf8_all c.scalars ++ codes "\"\"") ++ 34 ∷ c.rest = c.cut ∙ sym (append_assoc (encode_utf8_all c.scalars) (codes "\"\"") (34 ∷ c.rest)) in
      let two : length (encode_utf8_all c.scalars ++ codes "\"\"") ≡ length (encode_utf8_all c.scalars) + 2 = length-append (encode_utf8_all c.scalars) (codes "\"\"") in
      let fits : n + 3 ≤ length inside = there.fits in
      let more : length (encode_utf8_all c.scalars) + 2 ≡ n + 3 + (length (encode_utf8_all c.scalars) - n - 1) = omega arith in
      let prefix : take (length (encode_utf8_all c.scalars) + 2) inside ≡ encode_utf8_all c.scalars ++ codes "\"\"" =
      ap (λ (z : ℕ). take z inside) (sym two)
      ∙ (ap (λ (z : List ℕ). take (length (encode_utf8_all c.scalars ++ codes "\"\"")) z) whole ∙ take-append_seam (encode_utf8_all c.scalars ++ codes "\"\"") (34 ∷ c.rest)) in
      let through : take (n + 3) inside ≡ encode_utf8_all (cs ++ three_quotes) =
      take_plus inside n 3 (omega arith) ∙ (ap (λ (z : List ℕ). take n inside ++ z) (OccursAt-part inside three_quotes n there)
      ∙ sym (quoted_behind cs ∙ ap (λ (z : List ℕ). z ++ three_quotes) spelled)) in
      let parts : encode_utf8_all (c.scalars ++ codes "\"\"") ≡ encode_utf8_all (cs ++ three_quotes) ++ take (length (encode_utf8_all c.scalars) - n - 1) (drop (n + 3) inside) =
      two_quotes c.scalars ∙ (sym prefix ∙ (ap (λ (z : ℕ). take z inside) more ∙ (take_plus inside (n + 3) (length (encode_utf8_all c.scalars) - n - 1) fits
      ∙ ap (λ (z : List ℕ). z ++ take (length (encode_utf8_all c.scalars) - n - 1) (drop (n + 3) inside)) through))) in
      let b = begins (cs ++ three_quotes) (c.scalars ++ codes "\"\"") (take (length (encode_utf8_all c.scalars) - n - 1) (drop (n + 3) inside)) parts in
      absurd (c.none cs (drop (length (cs ++ three_quotes)) (c.scalars ++ codes "\"\""))
      (sym (take-append-drop (length (cs ++ three_quotes)) (c.scalars ++ codes "\"\""))
      ∙ (ap (λ (z : List ℕ). z ++ drop (length (cs ++ three_quotes)) (c.scalars ++ codes "\"\"")) (sym b.1)
      ∙ append_assoc cs three_quotes (drop (length (cs ++ three_quotes)) (c.scalars ++ codes "\"\"")))))
]

-- a text may be split before three quotes
before_quote : (inside : List ℕ) (n : ℕ) → OccursAt inside three_quotes n → IsCharBoundary inside n
before_quote inside n there =
    let fits : n + 3 ≤ length inside = there.fits in
    let none : n ≡ n + 0 = omega arith in
    let quote : get_or inside n 0 ≡ 34 = ap (λ (z : ℕ). get_or inside z 0) none ∙ there.reads 0 (omega arith) in
    IsCharBoundary-before_ascii inside n (omega arith) (omega arith)

-- the multiline string goes through the first later three quotes
pub greatest_through : (s inside : List ℕ) (n : ℕ) → s ≡ three_quotes ++ inside → IsUtf8 inside
    → NoneBefore (OccursAt inside three_quotes) 0 (length inside + 1) n × OccursAt inside three_quotes n → Greatest (IsPrefixOf multiline_string s) (Some (n + 6))
greatest_through s inside n e u (first, there) =
    let fits : n + 3 ≤ length inside = there.fits in
    let long : length s ≡ length (three_quotes ++ inside) = ap length e in
    let spelled : encode_utf8_all (chars (take n inside)) ≡ take n inside = encodes-chars (take n inside) (IsUtf8-take inside n u (before_quote inside n there)) in
    let six : n + 6 ≡ suc (suc (suc (n + 3))) = omega arith in
    let prefix : take (n + 6) s ≡ three_quotes ++ (take n inside ++ three_quotes) =
    ap (λ (z : ℕ). take z s) six ∙ (ap (λ (z : List ℕ). take (suc (suc (suc (n + 3)))) z) e ∙ ap (λ (z : List ℕ). three_quotes ++ z)
    (take_plus inside n 3 (omega arith) ∙ ap (λ (z : List ℕ). take n inside ++ z) (OccursAt-part inside three_quotes n there))) in (
      record {
        scalars = three_quotes ++ (chars (take n inside) ++ three_quotes);
        fits = omega arith;
        spelled = quoted_around (chars (take n inside)) ∙ (ap (λ (z : List ℕ). three_quotes ++ (z ++ three_quotes)) spelled ∙ sym prefix);
        has = through_from _ (chars (take n inside), refl, none_earlier inside (chars (take n inside)) n spelled first there);
      },
      λ j f. no_further inside (chars (take n inside)) n j spelled there (closed s inside j e f),
    )
