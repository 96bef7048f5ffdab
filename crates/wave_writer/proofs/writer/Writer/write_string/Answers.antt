use Rattle.std.proofs.Common.{refl, sym, ap, ◌∙◌, ◌+◌, length}
use Rattle.std.proofs.lemmas.Result.{err_from_is_err_and}
use Rattle.wave_writer.proofs.Escapes.StringRuns.{running_start, running_boundary, running_plain, running_plains, running_written, running_again, running_end}
use Rattle.wave_writer.proofs.CanonicalText.WrittenParts.{writing_more, writing_refused_text, writing_last, start_refused, start_written}
use Rattle.wave_writer.proofs.writer.Writer.write_string.Goals.{then-not-is_plain+in_ok-write_run+in_ok-write_scalar, else-not-is_plain}
use Rattle.wave_writer.proofs.writer.Writer.write_string.Goals as goal

pub returns-in_err-write_text : goal.returns-in_err-write_text
returns-in_err-write_text g c =
    let p = err_from_is_err_and c.from_residual.result c.from_residual.ensures.1 in
    rw (p.1, p.2) (start_refused _ refl c.in_err-write_text.ensures)

pub loop-c-init : goal.loop-c-init
loop-c-init g c =
    let r = running_start c.args.s.now c.utf8.s (start_written _ refl c.in_ok-write_text.ensures.ok) in
    running_plains _ _ _ _ _ r c.as_bytes.ensures.value c.plain_end-at.ensures.within c.plain_end-at.ensures.plain

pub range_from-requires : goal.range_from-requires
range_from-requires g c = λ z. running_boundary _ _ _ c.loop-c.invariant

pub range-requires-clause-end_boundary : goal.range-requires-clause-end_boundary
range-requires-clause-end_boundary g c = running_boundary _ _ _ c.loop-c.invariant

pub returns-in_err-write_run : goal.returns-in_err-write_run
returns-in_err-write_run g c =
    let p = err_from_is_err_and c.from_residual-in_err-write_run.result c.from_residual-in_err-write_run.ensures.1 in
    let begins = sym (c.chars.ensures.rest ∙ c.range_from.ensures.value) ∙ c.in-Some.ensures.steps.0 in
    rw (p.1, p.2) (writing_refused_text _ (running_written _ _ _ c.in-Some.c _ _ c.loop-c.invariant begins c.range.ensures.value) c.in_err-write_run.ensures)

pub returns-in_err-write_scalar : goal.returns-in_err-write_scalar
returns-in_err-write_scalar g c =
    let p = err_from_is_err_and c.from_residual-in_err-write_scalar.result c.from_residual-in_err-write_scalar.ensures.1 in
    let begins = sym (c.chars.ensures.rest ∙ c.range_from.ensures.value) ∙ c.in-Some.ensures.steps.0 in
    let w = writing_more (running_written _ _ _ c.in-Some.c _ _ c.loop-c.invariant begins c.range.ensures.value) c.in_ok-write_run.ensures.ok in
    rw (p.1, p.2) (writing_refused_text _ w c.in_err-write_scalar.ensures)

pub loop-c-preserved : goal.loop-c-preserved
loop-c-preserved g c =
    let begins = sym (c.chars.ensures.rest ∙ c.range_from.ensures.value) ∙ c.in-Some.ensures.steps.0 in
    let next = ap (λ n. c.loop-c.at + n) c.len_utf8.ensures.len in
    elim c.if-not-is_plain.branch [
      | then-not-is_plain+in_ok-write_run+in_ok-write_scalar w ↦
          let written = writing_more (running_written _ _ _ c.in-Some.c _ _ c.loop-c.invariant begins w.range.ensures.value) w.in_ok-write_run.ensures.ok in
          let again = running_again _ _ _ c.in-Some.c _ _ c.loop-c.invariant begins next (writing_more written w.in_ok-write_scalar.ensures.ok) in
          rw (w.self-is, w.start-is) (running_plains _ _ _ _ _ again c.as_bytes-in-Some.ensures.value c.plain_end-at-in-Some.ensures.within c.plain_end-at-in-Some.ensures.plain)
      | else-not-is_plain w ↦
          let more = running_plain _ _ _ c.in-Some.c _ _ c.loop-c.invariant begins next (c.is_plain.ensures w.if-not-is_plain.false) in
          rw (w.self-is, w.start-is) (running_plains _ _ _ _ _ more c.as_bytes-in-Some.ensures.value c.plain_end-at-in-Some.ensures.within c.plain_end-at-in-Some.ensures.plain)
    ]

pub returns-in_err-write_run-2 : goal.returns-in_err-write_run-2
returns-in_err-write_run-2 g c =
    let p = err_from_is_err_and c.from_residual-in_err-write_run-2.result c.from_residual-in_err-write_run-2.ensures.1 in
    let none = ap length (sym (c.chars.ensures.rest ∙ c.range_from.ensures.value)) ∙ c.in_default.ensures.steps.0.0 in
    rw (p.1, p.2) (writing_refused_text _ (running_end _ _ _ _ c.loop-c.invariant none c.range_from-2.ensures.value) c.in_err-write_run-2.ensures)

pub returns : goal.returns
returns g c =
    let none = ap length (sym (c.chars.ensures.rest ∙ c.range_from.ensures.value)) ∙ c.in_default.ensures.steps.0.0 in
    let w = writing_more (running_end _ _ _ _ c.loop-c.invariant none c.range_from-2.ensures.value) c.in_ok-write_run-2.ensures.ok in
    writing_last w refl c.write_text-2.ensures
