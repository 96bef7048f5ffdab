-- The words behind this place are left.
use Rattle.std.proofs.Common.{length, ◌-◌}
use Rattle.wave.proofs.file_arguments.names_file.Given as goal

abbrev pub decreases-loop-place : goal.decreases-loop-place
decreases-loop-place l = length l.words - l.place
