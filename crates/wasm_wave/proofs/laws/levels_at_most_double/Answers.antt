use Rattle.wave_grammar.proofs.RoundTrip.ReadsBack.{reads_back_within_twice}
use Rattle.wasm_wave.proofs.laws.levels_at_most_double.Goals as goal

pub returns : goal.returns
returns c = reads_back_within_twice
