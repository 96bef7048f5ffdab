use Rattle.std.proofs.Common.{length, ◌-◌}
use Rattle.wave_lex.specs.Private.Reading.{LeadsTo}
use Rattle.wave_lex.specs.Tokens.{string}
use Rattle.wave_lex.specs.Machines.{rest}
use Rattle.wave_lex.specs.declared.machine.Start.TheVariants.{InString}
use Rattle.wave_lex.proofs.lex.scan.inside_end.Given as goal

abbrev pub invariant-loop-count : goal.invariant-loop-count
invariant-loop-count l = LeadsTo string (rest InString) l.text l.place

abbrev pub decreases-loop-count : goal.decreases-loop-count
decreases-loop-count l = length l.text - l.place
