use Rattle.wave_lex.proofs.StringDecoding.Faults.{decoding_functional}
use Rattle.wave_lex.proofs.laws.decoding_functional.Goals as goal

pub returns : goal.returns
returns c = decoding_functional
