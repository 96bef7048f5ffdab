use Rattle.wave_grammar.proofs.Unambiguity.OneReading.{one_reading}
use Rattle.wasm_wave.proofs.MainTheorem.{one_value_of}
use Rattle.wasm_wave.proofs.laws.one_value.Goals as goal

pub returns-clause-reading : goal.returns-clause-reading
returns-clause-reading c = one_reading

pub returns-clause-value : goal.returns-clause-value
returns-clause-value c = one_value_of
