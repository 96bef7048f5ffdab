use Rattle.wave_type.proofs.TypeTexts.ReadBack.{text_spells}
use Rattle.wave_type.proofs.laws.type_text_spells.Goals as goal

pub returns : goal.returns
returns c = text_spells
