-- The files so far are answered.
use Rattle.std.proofs.Common.{◌-◌, length}
use Rattle.wave_files.proofs.Entries.{AreAnsweredTo}
use Rattle.wave_files.proofs.answers.answer_files.Given as goal

abbrev pub invariant-loop-place : goal.invariant-loop-place
invariant-loop-place g l =
    AreAnsweredTo g.F.Folder.holds g.J.Job.answers l.job g.W.Write.contents g.E.Write.contents l.names l.initial.folder l.initial.output l.initial.errors l.folder l.output l.errors l.place l.tally l.is_shown

abbrev pub decreases-loop-place : goal.decreases-loop-place
decreases-loop-place g l = length l.names - l.place
