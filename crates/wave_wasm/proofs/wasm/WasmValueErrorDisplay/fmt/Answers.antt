use Rattle.std.proofs.Common.{append_assoc, codes}
use Rattle.std.specs.String.{string_bytes}
use Rattle.wave_wasm.proofs.wasm.WasmValueErrorDisplay.fmt.Goals as goal

pub returns-in-MissingPayload-clause-writes : goal.returns-in-MissingPayload-clause-writes
returns-in-MissingPayload-clause-writes g c = λ p ok.
    rw c.in-MissingPayload.is (rw (append_assoc (string_bytes c.in-MissingPayload.name) (codes "\"") (codes " case")) (c.write-in-MissingPayload.ensures.writes p ok))
