use Rattle.std.proofs.Common.{◌∙◌, ap, sym, ℕ}
use Rattle.std.specs.Int.{w32}
use Rattle.std.proofs.lemmas.Result.{err_from_is_err_and}
use Rattle.wave_tape.specs.Reading.{number_at, char_at}
use Rattle.wave_tape.proofs.Fields.{char_read, char_fault, char_stop}
use Rattle.wave_tape.proofs.Readings.{fault_on, read_as}
use Rattle.wave_tape.proofs.bytes.char_at.Goals as goal

pub returns-in_err-number : goal.returns-in_err-number
returns-in_err-number c =
    let p = err_from_is_err_and c.from_residual.result c.from_residual.ensures.1 in
    rw (p.1, p.2) (fault_on c.in_err-number.field-0.0 (number_at w32 c.args.bytes.now) (char_at c.args.bytes.now) (char_stop c.args.bytes.now) c.in_err-number.ensures)

pub returns-in-Some : goal.returns-in-Some
returns-in-Some c =
    char_read c.args.bytes.now c.in_ok-number.number c.in_ok-number.rest.now c.in_ok-number.ensures c.in-Some.ensures.value.0 ∙ ap (λ (n : ℕ). read_as n c.in_ok-number.rest.now) (sym c.in-Some.ensures.value.1)

pub returns-in-None : goal.returns-in-None
returns-in-None c = char_fault c.args.bytes.now c.in_ok-number.number c.in_ok-number.rest.now c.in_ok-number.ensures c.in-None.ensures.value
