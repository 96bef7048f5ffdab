use Rattle.wave_lex.proofs.Tokenization.LexerRuns.{tokens_cut}
use Rattle.wave_lex.proofs.laws.tokens_cut.Goals as goal

pub returns : goal.returns
returns c = tokens_cut
