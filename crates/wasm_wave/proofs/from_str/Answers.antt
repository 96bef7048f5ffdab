use Rattle.wave_grammar.proofs.RoundTrip.ReadsBack.{reads_back_within_twice}
use Rattle.wave_grammar.proofs.Unambiguity.OneReading.{one_reading}
use Rattle.wasm_wave.proofs.MainTheorem.{one_value_of}
use Rattle.wasm_wave.proofs.from_str.Goals as goal

pub returns-clause-one : goal.returns-clause-one
returns-clause-one g c = one_value_of _

pub returns-clause-reading : goal.returns-clause-reading
returns-clause-reading g c = one_reading _

pub returns-clause-twice : goal.returns-clause-twice
returns-clause-twice g c = λ labelled representable. reads_back_within_twice _ labelled representable
