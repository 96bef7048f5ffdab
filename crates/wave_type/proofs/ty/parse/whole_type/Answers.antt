use Rattle.std.proofs.Common.{[], ◌∷◌, rules, arith, ◌≡◌, Err}
use Rattle.wave_type.specs.Private.TypeTokens.{IsRefusal}
use Rattle.wave_type.specs.TypeFaults.{type_expected, expected_of_type}
use Rattle.wave_type.proofs.TypeReading.SpelledNames.{spelled_labelled}
use Rattle.wave_type.proofs.TypeReading.WholeTexts.{whole_sound}
use Rattle.wave_type.proofs.TypeFaults.WholeTexts.{err_if, fails_alone, type_left}
use Rattle.wave_type.proofs.TypeReading.Levels.{read_low}
use Rattle.wave_type.proofs.ty.parse.whole_type.Goals as goal

pub returns-in_err-ty-clause-refused : goal.returns-in_err-ty-clause-refused
returns-in_err-ty-clause-refused c =
    let kind = c.in_err-ty.field-0.0 in
    let same : c.from_residual.result ≡ Err kind = search rules in
    err_if (λ kind. IsRefusal (expected_of_type c.args.levels) c.args.reader.now kind c.ty.new.self) c.from_residual.result kind same (fails_alone (λ expectations. type_expected c.args.levels ∷ expectations) c.args.reader.now c.ty.new.self kind c.in_err-ty.ensures)

pub returns-then-count-gt0-clause-refused : goal.returns-then-count-gt0-clause-refused
returns-then-count-gt0-clause-refused c =
    type_left c.args.levels c.args.reader.now c.ty.new.self c.in_ok-ty.ty c.in_ok-ty.ensures (λ none. omega (arith, none, c.count.ensures, c.if-count-gt0.true))

pub returns-clause-spelled : goal.returns-clause-spelled
returns-clause-spelled c = whole_sound c.args.levels c.args.reader.now c.ty.new.self c.in_ok-ty.ty c.in_ok-ty.ensures (omega (arith, c.count.ensures, c.if-count-gt0.false))

pub returns-clause-levels : goal.returns-clause-levels
returns-clause-levels c = read_low c.args.levels c.args.reader.now (c.in_ok-ty.ty, c.ty.new.self) c.in_ok-ty.ensures

pub returns-clause-labels : goal.returns-clause-labels
returns-clause-labels c =
    spelled_labelled c.in_ok-ty.ty c.args.reader.now [] (whole_sound c.args.levels c.args.reader.now c.ty.new.self c.in_ok-ty.ty c.in_ok-ty.ensures (omega (arith, c.count.ensures, c.if-count-gt0.false)))
