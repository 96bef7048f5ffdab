use Rattle.wave_json.proofs.Texts.{text_again}
use Rattle.wave_json.proofs.laws.text_reads_back.Goals as goal

pub returns : goal.returns
returns c = text_again
