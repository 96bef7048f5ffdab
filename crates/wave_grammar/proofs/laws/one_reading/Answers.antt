use Rattle.wave_grammar.proofs.Unambiguity.OneReading.{one_reading}
use Rattle.wave_grammar.proofs.laws.one_reading.Goals as goal

pub returns : goal.returns
returns c = one_reading
