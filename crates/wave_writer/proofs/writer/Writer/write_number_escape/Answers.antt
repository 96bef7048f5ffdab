use Rattle.std.proofs.Common.{◌<◌, ◌^◌, ap, arith, refl, take, drop}
use Rattle.std.proofs.Math.Utf8.{encodes}
use Rattle.std.proofs.lemmas.Result.{err_from_is_err_and}
use Rattle.wave_writer.proofs.Escapes.NumberEscapes.{escape_start, escape_next}
use Rattle.wave_writer.proofs.CanonicalText.WrittenParts.{writing_as, writing_more, writing_refused_text, all_written}
use Rattle.wave_writer.proofs.writer.Writer.write_number_escape.Goals as goal

pub loop-part-init : goal.loop-part-init
loop-part-init g c =
    let e = c.into_iter-part-iterator.ensures.into_iter_gives in
    let small : c.args.c < 16 ^ 6 = (let s = c.ranges.c in omega (arith, s)) in
    let escape = c.escape_unicode-part-items.ensures in
    rw e (record { bound = escape.bound; writing = escape_start c.args.c _ _ small escape.rest })

pub returns-in_err-write_text : goal.returns-in_err-write_text
returns-in_err-write_text g c =
    let p = err_from_is_err_and c.from_residual.result c.from_residual.ensures.1 in
    let step = c.in-Some.ensures.steps in
    rw (p.1, p.2) (writing_refused_text _ (escape_next _ _ _ c.in-Some.part step.1.0 c.encode_utf8.ensures.value c.loop-part.invariant.writing) c.in_err-write_text.ensures)

pub loop-part-preserved : goal.loop-part-preserved
loop-part-preserved g c =
    let step = c.in-Some.ensures.steps in
    record {
      bound = rw step.0 c.loop-part.invariant.bound;
      writing = writing_more (escape_next _ _ _ c.in-Some.part step.1.0 c.encode_utf8.ensures.value c.loop-part.invariant.writing) c.in_ok-write_text.ensures.ok;
    }

pub returns : goal.returns
returns g c =
    let step = c.in-None.ensures.steps in
    let left = drop c.loop-part.part-iterator.from c.loop-part.part-iterator.chars in
    all_written (writing_as (ap (λ n. encodes (take n left)) step.1.0) c.loop-part.invariant.writing) refl
