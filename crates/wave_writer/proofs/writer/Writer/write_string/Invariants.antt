use Rattle.std.proofs.Common.{◌-◌, length}
use Rattle.wave_writer.proofs.Escapes.StringRuns.{Running}
use Rattle.wave_writer.proofs.writer.Writer.write_string.Given as goal

abbrev pub invariant-loop-c : goal.invariant-loop-c
invariant-loop-c g l = Running l.s l.start l.at (g.W.TextWrite.output l.fn.self) (g.W.TextWrite.output l.self)

abbrev pub decreases-loop-c : goal.decreases-loop-c
decreases-loop-c g l = length l.s - l.at
