use Rattle.std.proofs.Common.{◌<◌, get_or, length, sym, ap, ◌∙◌, arith}
use Rattle.std.proofs.lemmas.Str.{IsCharBoundary-after_ascii}
use Rattle.std.proofs.lemmas.Bool.Decides.{nat_tests}
use Rattle.wave_grammar.proofs.label.label_name.Goals as goal

pub range_from-requires : goal.range_from-requires
range_from-requires c = λ _.
    let first = ap (λ z. get_or z 0 0) (sym c.as_bytes-bytes.ensures.value) ∙ c.if-bytes-ne37.false in
    let some : 0 < length c.as_bytes-bytes.result.now = grind (arith, nat_tests, sym c.is_empty.ensures ∙ c.if-is_empty.false) in
    let same = ap length c.as_bytes-bytes.ensures.value in
    IsCharBoundary-after_ascii c.args.text.now 0 c.utf8.text (omega arith) (omega (arith, first))
