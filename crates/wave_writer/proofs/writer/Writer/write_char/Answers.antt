use Rattle.std.proofs.Common.{refl}
use Rattle.std.proofs.lemmas.Result.{err_from_is_err_and}
use Rattle.wave_writer.proofs.CanonicalText.WrittenParts.{writing_more, writing_refused_text, writing_last, start_refused, start_written}
use Rattle.wave_writer.proofs.writer.Writer.write_char.Goals as goal

pub returns-in_err-write_text : goal.returns-in_err-write_text
returns-in_err-write_text g c =
    let p = err_from_is_err_and c.from_residual.result c.from_residual.ensures.1 in
    rw (p.1, p.2) (start_refused _ refl c.in_err-write_text.ensures)

pub returns-in_err-write_scalar : goal.returns-in_err-write_scalar
returns-in_err-write_scalar g c =
    let p = err_from_is_err_and c.from_residual-in_err-write_scalar.result c.from_residual-in_err-write_scalar.ensures.1 in
    rw (p.1, p.2) (writing_refused_text _ (start_written _ refl c.in_ok-write_text.ensures.ok) c.in_err-write_scalar.ensures)

pub returns : goal.returns
returns g c =
    writing_last (writing_more (start_written _ refl c.in_ok-write_text.ensures.ok) c.in_ok-write_scalar.ensures.ok) refl c.write_text-2.ensures
