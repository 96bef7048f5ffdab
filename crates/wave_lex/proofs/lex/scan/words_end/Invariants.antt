use Rattle.std.proofs.Common.{length, ◌-◌}
use Rattle.wave_lex.specs.Private.Reading.{EndsWord}
use Rattle.wave_lex.specs.Tokens.{label_or_keyword}
use Rattle.wave_lex.proofs.lex.scan.words_end.Given as goal

abbrev pub invariant-loop-count : goal.invariant-loop-count
invariant-loop-count l = EndsWord label_or_keyword l.text l.place

abbrev pub decreases-loop-count : goal.decreases-loop-count
decreases-loop-count l = length l.text - l.place
