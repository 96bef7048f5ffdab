use Rattle.std.proofs.Common.{◌≡◌, map, take}
use Rattle.std.specs.String.{string_bytes}
use Rattle.wave_wasm.specs.Fingerprints.{fingerprint}
use Rattle.wave_writer.proofs.writer.text_fingerprints.Given as goal

abbrev pub invariant-loop-entry : goal.invariant-loop-entry
invariant-loop-entry g l = l.numbers.items ≡ map (λ e. fingerprint (string_bytes e.0)) (take l.entry-index l.entry-items)
