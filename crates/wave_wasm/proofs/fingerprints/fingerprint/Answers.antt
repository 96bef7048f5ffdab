use Rattle.std.proofs.Common.{rules}
use Rattle.wave_wasm.specs.Fingerprints.{fingerprint}
use Rattle.wave_wasm.proofs.fingerprints.fingerprint.Goals as goal

pub returns : goal.returns
unfolding fingerprint
returns c = search rules
