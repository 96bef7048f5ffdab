use Rattle.std.proofs.Common.{◌≡◌, ◌<◌, ◌+◌, suc, ◌∙◌, List, ◌++◌, Some, String, Global, Vec, string_bytes, map, take, drop, get_or, length, refl, sym, ap, subst, arith}
use Rattle.std.specs.Prelude.{remove}
use Rattle.std.specs.Str.{bytes_eq}
use Rattle.wave_files.specs.Options.{value_of, without_value}
use Rattle.wave_files.proofs.TakenOut.{IsLookedForFrom, text_at, length_texts, looked_more, next_of, both_removed, value_here, pair_left}
use Rattle.wave_files.proofs.options.take_value.Goals as goal

pub returns-then-eq-clause-value : goal.returns-then-eq-clause-value
returns-then-eq-clause-value c =
    let words = c.loop-place.words.items in
    let place = c.loop-place.place in
    let less : suc place < length words = omega arith in
    let here = text_at words place c.index.result.now c.as_str.result.now (omega (arith, less)) c.index.ensures c.as_str.ensures.value in
    let next = text_at words (suc place) c.remove-then-eq.result (string_bytes c.remove-then-eq.result) less (c.remove-then-eq.ensures.value ∙ (ap (λ ws. get_or ws place c.remove-then-eq.result) c.remove.ensures.items ∙ next_of words place c.remove-then-eq.result)) refl in
    subst (λ (w : Vec (String Global) Global). Some (string_bytes c.remove-then-eq.result) ≡ value_of c.args.option.now (map string_bytes w.items)) c.loop-place.invariant.1
    (ap (λ t. Some t) (sym next) ∙ value_here c.args.option.now (map string_bytes words) place c.loop-place.invariant.0 (omega (arith, less, length_texts words)) (ap (λ t. bytes_eq t c.args.option.now) here ∙ (sym c.eq.ensures ∙ c.if-eq.true)))

pub returns-then-eq-clause-left : goal.returns-then-eq-clause-left
returns-then-eq-clause-left c =
    let words = c.loop-place.words.items in
    let place = c.loop-place.place in
    let less : suc place < length words = omega arith in
    let here = text_at words place c.index.result.now c.as_str.result.now (omega (arith, less)) c.index.ensures c.as_str.ensures.value in
    ap (map string_bytes) (c.remove-then-eq.ensures.items ∙ ap (λ (ws : List (String Global)). remove ws place) c.remove.ensures.items)
    ∙ (both_removed words place
    ∙ subst (λ (w : Vec (String Global) Global). take place (map string_bytes words) ++ drop (suc (suc place)) (map string_bytes words) ≡ without_value c.args.option.now (map string_bytes w.items)) c.loop-place.invariant.1
    (pair_left c.args.option.now (map string_bytes words) place c.loop-place.invariant.0 (omega (arith, less, length_texts words)) (ap (λ t. bytes_eq t c.args.option.now) here ∙ (sym c.eq.ensures ∙ c.if-eq.true))))

pub loop-place-preserved : goal.loop-place-preserved
loop-place-preserved c =
    let less : c.loop-place.place < length c.loop-place.words.items = omega arith in
    let here = text_at c.loop-place.words.items c.loop-place.place c.index.result.now c.as_str.result.now less c.index.ensures c.as_str.ensures.value in
    let next : suc c.loop-place.place ≡ c.loop-place.place + 1 = omega arith in
    let more = looked_more c.args.option.now (map string_bytes c.loop-place.words.items) c.loop-place.place c.loop-place.invariant.0 (omega (arith, less, length_texts c.loop-place.words.items)) (ap (λ t. bytes_eq t c.args.option.now) here ∙ (sym c.eq.ensures ∙ c.if-eq.false)) in
    (subst (IsLookedForFrom c.args.option.now (map string_bytes c.loop-place.words.items)) next more, c.loop-place.invariant.1)
