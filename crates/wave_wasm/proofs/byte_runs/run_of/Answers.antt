use Rattle.std.proofs.Common.{◌∙◌, ◌-◌, length, sym, arith}
use Rattle.std.proofs.Math.Nat.{min-le_left, min-le_right}
use Rattle.wave_wasm.proofs.SetRuns.{run_through, run_ends}
use Rattle.wave_wasm.proofs.byte_runs.run_of.Goals as goal

pub returns-then-others-ne0 : goal.returns-then-others-ne0
returns-then-others-ne0 g c =
    let found = c.others-others.ensures in
    let s = c.args.bytes.now in
    let seen = min-le_left c.loop-at.at (length s - 16) in
    let room = min-le_right c.loop-at.at (length s - 16) in
    let start = c.min-start.ensures in
    rw (found) (run_ends g.S.ByteSet.holds s c.min-start.result (omega (arith, room, start)) (λ i l. c.loop-at.invariant.1 i (omega (arith, seen, start, l))) (omega (arith, sym found, c.if-others-ne0.true)))

pub loop-at-preserved : goal.loop-at-preserved
loop-at-preserved g c =
    let s = c.args.bytes.now in
    let seen = min-le_left c.loop-at.at (length s - 16) in
    let room = min-le_right c.loop-at.at (length s - 16) in
    let start = c.min-start.ensures in
    (omega (arith, room, start), run_through g.S.ByteSet.holds s c.min-start.result (omega (arith, room, start)) (λ i l. c.loop-at.invariant.1 i (omega (arith, seen, start, l))) (sym c.others-others.ensures ∙ c.if-others-ne0.false))
