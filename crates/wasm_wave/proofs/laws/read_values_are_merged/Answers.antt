use Rattle.wave_grammar.proofs.RoundTrip.ReadsBack.{reads_merged}
use Rattle.wasm_wave.proofs.laws.read_values_are_merged.Goals as goal

pub returns : goal.returns
returns c = reads_merged
