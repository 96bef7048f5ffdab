use Rattle.std.proofs.Common.{◌<◌, length}
use Rattle.std.specs.Str.{chars}
use Rattle.wave_lex.specs.Derive.{nullable}
use Rattle.wave_lex.specs.Machines.{rest, rest_at}
use Rattle.wave_lex.specs.Private.Machines.{longest_of}
use Rattle.wave_lex.proofs.LongestPrefix.LongestSoFar.{Seen}
use Rattle.wave_lex.proofs.machine.longest_prefix.Given as goal

abbrev pub invariant-loop-c : goal.invariant-loop-c
invariant-loop-c l = (l.row < 81) × Seen (rest l.fn.start) (rest_at l.row) (chars l.text) (length l.yielded) l.place (longest_of (nullable (rest_at l.first)) l.longest)
