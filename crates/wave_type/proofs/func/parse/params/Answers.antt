use Rattle.std.proofs.Common.{◌≡◌, None, [], ◌∷◌, ◌∙◌, sym, ap, codes}
use Rattle.wave_wasm.specs.Borrowed.{named}
use Rattle.wave_type.specs.Private.FunctionReading.{params_read}
use Rattle.wave_type.specs.Private.TypeReading.{after, fields_read, type_read}
use Rattle.wave_type.specs.TypeFaults.{last_expected, part_expected, more_fields, refused}
use Rattle.wave_type.proofs.TypeFaults.TokenSteps.{last_goes_on}
use Rattle.wave_type.proofs.TypeReading.ReaderSteps.{answers_onward}
use Rattle.wave_type.proofs.func.parse.params.Goals as goal

pub returns : goal.returns
returns c =
    let n = c.args.levels in
    let old = c.args.reader.now in
    let m = c.takes.new.self in
    let none : after (codes ")") old ≡ None = c.if-takes.ensures.0 in
    let same : m ≡ old = c.if-takes.ensures.1 in
    answers_onward (λ v. named v.items) c.fields.result old m c.fields.new.self (params_read (type_read n) old (after (codes ")") old)) (fields_read (type_read n) (codes ")") m) (λ expectations. last_expected (codes ")") (more_fields n []) ∷ expectations) (λ expectations. part_expected (codes ")") (more_fields n []) ∷ expectations) (ap (params_read (type_read n) old) none ∙ ap (fields_read (type_read n) (codes ")")) (sym same)) (λ expectations. last_goes_on (codes ")") (more_fields n []) old expectations none ∙ ap (λ us. refused us (part_expected (codes ")") (more_fields n []) ∷ expectations)) (sym same)) c.fields.ensures
