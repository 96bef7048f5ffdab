use Rattle.std.proofs.Common.{refl}
use Rattle.std.proofs.lemmas.Result.{err_from_is_err_and}
use Rattle.wave_writer.proofs.CanonicalText.Labels.{keyword_labelled, name_labelled}
use Rattle.wave_writer.proofs.CanonicalText.WrittenParts.{start_refused, start_written, writing_last}
use Rattle.wave_writer.proofs.writer.Writer.write_case.Goals as goal

pub returns-in_err-write_text-in-Some : goal.returns-in_err-write_text-in-Some
returns-in_err-write_text-in-Some g c =
    let p = err_from_is_err_and c.from_residual.result c.from_residual.ensures.1 in
    rw (p.1, p.2) (start_refused _ (keyword_labelled _ _ _ c.decode.ensures c.in-Some.is) c.in_err-write_text-in-Some.ensures)

pub returns-in-None : goal.returns-in-None
returns-in-None g c = rw (name_labelled _ _ c.decode.ensures c.in-None.is) c.write_text-in-None.ensures

pub returns-in_ok-write_text-in-Some : goal.returns-in_ok-write_text-in-Some
returns-in_ok-write_text-in-Some g c = writing_last (start_written _ (keyword_labelled _ _ _ c.decode.ensures c.in-Some.is) c.in_ok-write_text-in-Some.ensures.ok) refl c.write_text-in-Some.ensures
