-- The lines so far were answered.
use Rattle.std.specs.Prelude.{string_bytes}
use Rattle.wave.specs.Private.InputLines.{most_lines}
use Rattle.wave.proofs.LinesAnswered.{AreAnsweredSoFar}
use Rattle.wave.proofs.by_lines.answer_lines.Given as goal

abbrev pub invariant-lines : goal.invariant-lines
invariant-lines g l =
    AreAnsweredSoFar g.R.Read.remaining g.W.Write.contents g.E.Write.contents l.request l.initial.input l.input l.unread l.initial.output l.output (string_bytes l.held) l.initial.errors l.errors l.number l.is_refused l.is_shown

abbrev pub decreases-lines : goal.decreases-lines
decreases-lines g l = most_lines l.input l.unread
