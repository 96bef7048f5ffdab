use Rattle.wasm_wave.proofs.OneExplanation as text
use Rattle.wasm_wave.proofs.laws.one_explanation.Goals as goal

pub returns : goal.returns
returns c = text.one_explanation
