-- The files of the words so far are named.
use Rattle.std.proofs.Common.{length, ◌-◌, map, take, string_bytes}
use Rattle.wave.specs.FileArguments.{AreNamed}
use Rattle.wave.proofs.file_arguments.names_of.Given as goal

abbrev pub invariant-loop-place : goal.invariant-loop-place
invariant-loop-place l = AreNamed (take l.place (map string_bytes l.words)) l.names.items

abbrev pub decreases-loop-place : goal.decreases-loop-place
decreases-loop-place l = length l.words - l.place
