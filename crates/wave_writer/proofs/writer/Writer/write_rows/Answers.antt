use Rattle.std.proofs.Common.{◌+◌, arith, refl}
use Rattle.std.proofs.lemmas.Result.{err_from_is_err_and}
use Rattle.wave_writer.proofs.CanonicalText.Rows.{taken_more, taken_refused}
use Rattle.wave_writer.proofs.writer.Writer.write_rows.Goals as goal

pub returns-in_err-write_row-clause-err : goal.returns-in_err-write_row-clause-err
returns-in_err-write_row-clause-err g c =
    let p = err_from_is_err_and c.from_residual.result c.from_residual.ensures.1 in
    rw (p.1, p.2) (taken_refused _ _ c.args.items.now c.loop-at.at (c.loop-at.at + c.min-count.result) _ c.loop-at.invariant refl c.in_err-write_row.ensures.err)

pub loop-at-preserved : goal.loop-at-preserved
loop-at-preserved g c =
    taken_more _ _ c.args.items.now c.loop-at.at (c.loop-at.at + c.min-count.result) _ c.loop-at.invariant (omega arith) (omega (arith, c.min-count.ensures, c.loop-at.invariant.within)) refl (rw c.if-not-branch.false at c.in_ok-write_row.ensures.ok) (c.in_ok-write_row.ensures.writable c.if-not-branch.false)
