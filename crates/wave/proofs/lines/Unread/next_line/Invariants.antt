-- The line so far was taken of what the input had left.
use Rattle.wave.specs.Private.InputLines.{most_lines}
use Rattle.wave.proofs.LineReading.{IsGathered}
use Rattle.wave.proofs.lines.Unread.next_line.Given as goal

abbrev pub invariant-parts : goal.invariant-parts
invariant-parts g l = IsGathered g.R.Read.remaining l.initial.input l.initial.self l.input l.self l.line.items

abbrev pub decreases-parts : goal.decreases-parts
decreases-parts g l = most_lines l.input l.self
