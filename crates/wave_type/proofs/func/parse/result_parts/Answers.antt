use Rattle.std.proofs.Common.{◌≡◌, Err, None, ◌∷◌, ◌∙◌, rules, sym, ap, codes}
use Rattle.wave_type.specs.Private.TypeReading.{after}
use Rattle.wave_type.specs.Private.TypeTokens.{Fails}
use Rattle.wave_type.specs.TypeFaults.{type_expected, result_expected, refused}
use Rattle.wave_type.proofs.TypeFaults.TokenSteps.{fails_onward, result_is_type}
use Rattle.wave_type.proofs.TypeReading.ReaderSteps.{answers_err}
use Rattle.wave_type.proofs.func.parse.result_parts.Goals as goal

pub returns-in_err-ty : goal.returns-in_err-ty
returns-in_err-ty c =
    let n = c.args.levels in
    let old = c.args.reader.now in
    let m = c.takes.new.self in
    let kind = c.in_err-ty.field-0.0 in
    let none : after (codes "(") old ≡ None = c.if-takes.ensures.0 in
    let h : Fails (λ expectations. result_expected n ∷ expectations) old kind c.ty.new.self =
    fails_onward (λ expectations. result_expected n ∷ expectations) (λ expectations. type_expected n ∷ expectations) old m c.ty.new.self kind (λ expectations. result_is_type n old expectations none ∙ ap (λ us. refused us (type_expected n ∷ expectations)) (sym c.if-takes.ensures.1)) c.in_err-ty.ensures
    in
    let same : c.from_residual.result ≡ Err kind = search rules in
    answers_err _ _ _ _ _ _ _ same h
