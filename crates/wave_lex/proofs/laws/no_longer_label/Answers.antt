use Rattle.wave_lex.proofs.Tokenization.OneTokenization.{no_longer_label}
use Rattle.wave_lex.proofs.laws.no_longer_label.Goals as goal

pub returns : goal.returns
returns c = no_longer_label
