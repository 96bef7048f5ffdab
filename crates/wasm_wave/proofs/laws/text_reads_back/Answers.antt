use Rattle.wave_grammar.proofs.RoundTrip.ReadsBack.{reads_back}
use Rattle.wasm_wave.proofs.laws.text_reads_back.Goals as goal

pub returns : goal.returns
returns c = reads_back
