use Rattle.std.proofs.Common.{◌≡◌, ◌<◌, ◌-◌, false, length, get_or}
use Rattle.wave_lex.specs.Private.Machines.{is_blank}
use Rattle.wave_lex.specs.Private.Reading.{LeadsTo}
use Rattle.wave_lex.specs.Tokens.{whitespace}
use Rattle.wave_lex.proofs.lex.scan.comments_end.Given as goal

abbrev pub invariant-loop-count : goal.invariant-loop-count
invariant-loop-count l = LeadsTo whitespace whitespace l.text l.place × (l.place < length l.text → is_blank (get_or l.text l.place 0) ≡ false)

abbrev pub decreases-loop-count : goal.decreases-loop-count
decreases-loop-count l = length l.text - l.place
