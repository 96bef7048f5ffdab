use Rattle.wave_type.proofs.TypeTexts.FunctionReadBack.{function_spells}
use Rattle.wave_type.proofs.laws.function_text_spells.Goals as goal

pub returns : goal.returns
returns c = function_spells
