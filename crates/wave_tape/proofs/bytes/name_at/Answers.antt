use Rattle.std.specs.Int.{w64}
use Rattle.std.proofs.lemmas.Result.{err_from_is_err_and}
use Rattle.wave_tape.specs.Reading.{number_at, name_at}
use Rattle.wave_tape.proofs.Fields.{name_stop}
use Rattle.wave_tape.proofs.Readings.{fault_on}
use Rattle.wave_tape.proofs.bytes.name_at.Goals as goal

pub returns-in_err-count : goal.returns-in_err-count
returns-in_err-count c =
    let p = err_from_is_err_and c.from_residual.result c.from_residual.ensures.1 in
    rw (p.1, p.2) (fault_on c.in_err-count.field-0.0 (number_at w64 c.args.bytes.now) (name_at c.args.bytes.now) (name_stop c.args.bytes.now) c.in_err-count.ensures)
