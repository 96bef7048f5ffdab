use Rattle.std.proofs.Common.{length}
use Rattle.wave_lex.specs.Tokenization.{remainder_of}
use Rattle.wave_expected.proofs.ExpectedTokens.PlacedTokens.{IsReadTo}
use Rattle.wave_expected.proofs.expected.expected_from.Given as goal

abbrev pub invariant-loop-class : goal.invariant-loop-class
invariant-loop-class l = IsReadTo l.first l.at l.levels l.lexer l.automaton l.open_brackets.items

abbrev pub decreases-loop-class : goal.decreases-loop-class
decreases-loop-class l = length (remainder_of l.lexer)
