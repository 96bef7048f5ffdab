use Rattle.std.proofs.Common.{◌≡◌, map, take}
use Rattle.wave_wasm.specs.Fingerprints.{fingerprint}
use Rattle.wave_wasm.specs.Text.{text}
use Rattle.wave_writer.proofs.writer.key_fingerprints.Given as goal

abbrev pub invariant-loop-entry : goal.invariant-loop-entry
invariant-loop-entry g l = l.numbers.items ≡ map (λ e. fingerprint (text (g.V.WasmValue.tree e.0.now))) (take l.entry-index l.entry-items)
