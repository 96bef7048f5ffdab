use Rattle.wave_lex.proofs.StringDecoding.Parts.{joins}
use Rattle.wave_lex.proofs.laws.parts_join.Goals as goal

pub returns : goal.returns
returns c = joins
