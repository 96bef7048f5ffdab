use Rattle.wave_type.proofs.TypeTexts.Injective.{text_tells}
use Rattle.wave_type.proofs.laws.type_text_injective.Goals as goal

pub returns : goal.returns
returns c = text_tells
