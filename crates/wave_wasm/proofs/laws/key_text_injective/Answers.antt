use Rattle.wave_wasm.proofs.Merging.KeyTexts.{leaves_apart}
use Rattle.wave_wasm.proofs.laws.key_text_injective.Goals as goal

pub returns : goal.returns
returns c = leaves_apart
