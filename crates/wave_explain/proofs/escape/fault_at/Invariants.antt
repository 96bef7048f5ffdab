use Rattle.std.proofs.Common.{length, ◌-◌, ◌≤◌, take}
use Rattle.wave_explain.specs.EscapeMarks.{IsRun}
use Rattle.wave_explain.proofs.escape.fault_at.Given as goal

abbrev pub invariant-pieces : goal.invariant-pieces
invariant-pieces l = (l.at ≤ length l.text) × IsRun l.quote (take l.at l.text)

abbrev pub decreases-pieces : goal.decreases-pieces
decreases-pieces l = length l.text - l.at
