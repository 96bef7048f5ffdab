use Rattle.std.proofs.Common.{[], subst}
use Rattle.wave_type.specs.TypeSpelling.{Spells}
use Rattle.wave_type.proofs.TypeReading.Complete.{one_spelling}
use Rattle.wave_type.proofs.TypeReading.TextTokens.{one_cut}
use Rattle.wave_type.proofs.laws.one_type_of_text.Goals as goal

pub returns : goal.returns
returns c = λ text T U h k. (one_spelling T U h.0 [] [] h.2 (subst (λ ts. Spells U ts []) (one_cut k.0 h.0 text k.1 h.1) k.2)).0
