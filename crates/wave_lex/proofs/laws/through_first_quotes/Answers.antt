use Rattle.wave_lex.proofs.MultilineStrings.FirstThreeQuotes.{through_first_quotes}
use Rattle.wave_lex.proofs.laws.through_first_quotes.Goals as goal

pub returns : goal.returns
returns c = through_first_quotes
