use Rattle.std.proofs.Common.{◌≡◌, ◌<◌, ◌+◌, suc, true, ◌∙◌, String, Global, Vec, string_bytes, map, length, sym, ap, subst, arith}
use Rattle.std.specs.Prelude.{remove}
use Rattle.std.specs.Str.{bytes_eq}
use Rattle.wave_files.specs.Options.{is_given, without}
use Rattle.wave_files.proofs.TakenOut.{text_at, length_texts}
use Rattle.wave_files.proofs.TakenOut.{IsSearchedFrom, searched_more, given_here, taken_here}
use Rattle.wave_files.proofs.options.take_option.Goals as goal

pub returns-then-eq-clause-given : goal.returns-then-eq-clause-given
returns-then-eq-clause-given c =
    let less : c.loop-place.place < length c.loop-place.words.items = omega arith in
    let here = text_at c.loop-place.words.items c.loop-place.place c.index.result.now c.as_str.result.now less c.index.ensures c.as_str.ensures.value in
    subst (λ (w : Vec (String Global) Global). true ≡ is_given c.args.option.now (map string_bytes w.items)) c.loop-place.invariant.1
    (given_here c.args.option.now (map string_bytes c.loop-place.words.items) c.loop-place.place c.loop-place.invariant.0 (omega (arith, less, length_texts c.loop-place.words.items)) (ap (λ t. bytes_eq t c.args.option.now) here ∙ (sym c.eq.ensures ∙ c.if-eq.true)))

pub returns-then-eq-clause-left : goal.returns-then-eq-clause-left
returns-then-eq-clause-left c =
    let less : c.loop-place.place < length c.loop-place.words.items = omega arith in
    let here = text_at c.loop-place.words.items c.loop-place.place c.index.result.now c.as_str.result.now less c.index.ensures c.as_str.ensures.value in
    ap (map string_bytes) c.remove.ensures.items
    ∙ subst (λ (w : Vec (String Global) Global). map string_bytes (remove c.loop-place.words.items c.loop-place.place) ≡ without c.args.option.now (map string_bytes w.items)) c.loop-place.invariant.1
    (taken_here c.args.option.now c.loop-place.words.items c.loop-place.place c.loop-place.invariant.0 (omega (arith, less, length_texts c.loop-place.words.items)) (ap (λ t. bytes_eq t c.args.option.now) here ∙ (sym c.eq.ensures ∙ c.if-eq.true)))

pub loop-place-preserved : goal.loop-place-preserved
loop-place-preserved c =
    let less : c.loop-place.place < length c.loop-place.words.items = omega arith in
    let here = text_at c.loop-place.words.items c.loop-place.place c.index.result.now c.as_str.result.now less c.index.ensures c.as_str.ensures.value in
    let next : suc c.loop-place.place ≡ c.loop-place.place + 1 = omega arith in
    let more = searched_more c.args.option.now (map string_bytes c.loop-place.words.items) c.loop-place.place c.loop-place.invariant.0 (omega (arith, less, length_texts c.loop-place.words.items)) (ap (λ t. bytes_eq t c.args.option.now) here ∙ (sym c.eq.ensures ∙ c.if-eq.false)) in
    (subst (IsSearchedFrom c.args.option.now (map string_bytes c.loop-place.words.items)) next more, c.loop-place.invariant.1)
