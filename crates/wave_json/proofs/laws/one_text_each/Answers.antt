use Rattle.wave_json.proofs.Texts.{one_text}
use Rattle.wave_json.proofs.laws.one_text_each.Goals as goal

pub returns : goal.returns
returns c = one_text
