use Rattle.std.proofs.Common.{◌∙◌, sym, ap, List, ℕ}
use Rattle.std.proofs.lemmas.Result.{err_from_is_err_and}
use Rattle.wave_tape.specs.Reading.{name_at, text_at}
use Rattle.wave_tape.proofs.Fields.{text_read, text_fault, text_stop}
use Rattle.wave_tape.proofs.Readings.{fault_on, read_as}
use Rattle.wave_tape.proofs.bytes.text_at.Goals as goal

pub returns-in_err-text : goal.returns-in_err-text
returns-in_err-text c =
    let p = err_from_is_err_and c.from_residual.result c.from_residual.ensures.1 in
    rw (p.1, p.2) (fault_on c.in_err-text.field-0.0 (name_at c.args.bytes.now) (text_at c.args.bytes.now) (text_stop c.args.bytes.now) c.in_err-text.ensures)

pub returns-in-Ok : goal.returns-in-Ok
returns-in-Ok c =
    text_read c.args.bytes.now c.in_ok-text.text.now c.in_ok-text.rest.now c.in_ok-text.ensures c.in-Ok.ensures.cases.1 ∙ ap (λ (s : List ℕ). read_as s c.in_ok-text.rest.now) (sym c.in-Ok.ensures.cases.0)

pub returns-in-Err : goal.returns-in-Err
returns-in-Err c = text_fault c.args.bytes.now c.in_ok-text.text.now c.in_ok-text.rest.now c.in_ok-text.ensures c.in-Err.ensures.cases.0
