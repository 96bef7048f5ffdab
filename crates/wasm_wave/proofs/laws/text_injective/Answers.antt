use Rattle.wave_grammar.proofs.RoundTrip.ReadsBack.{equal_texts}
use Rattle.wasm_wave.proofs.laws.text_injective.Goals as goal

pub returns : goal.returns
returns c = equal_texts
