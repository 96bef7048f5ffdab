use Rattle.wave_tree.proofs.ParserCorrectness.LexerCalls.{few}
use Rattle.wave_tree.proofs.laws.lexer_calls_bounded.Goals as goal

pub returns : goal.returns
returns c = few
