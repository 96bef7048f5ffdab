-- The payload of `ok` or `err`.
use Rattle.std.specs.Prelude.{ℕ, Bool, true, false, List, Option, Result, Ok, Err, codes}
use Rattle.wave_wasm.specs.Names.{AreDistinct}
use Rattle.wave_wasm.specs.Types.{TypeTree, maybe_type, EachNamesOfMaybe}
use Rattle.wave_wasm.specs.ConstructorContracts.{PayloadIsOf}
use Rattle.wave_wasm.specs.ValueErrors.{Cause, missing_payload, unexpected_payload}

-- the name of the case
abbrev pub result_name : Bool → List ℕ
result_name true = codes "ok"
result_name false = codes "err"

-- the case with this payload
abbrev pub result_with : {V : Type 0} → Bool → Option V → Result (Option V) (Option V)
result_with true payload = Ok payload
result_with false payload = Err payload

-- what is wrong with a payload: it is expected and not there, or there and not expected
abbrev pub payload_cause : Bool → List ℕ → Cause
payload_cause true name = missing_payload name
payload_cause false name = unexpected_payload name

-- the payload is there exactly where it has a type, and is of it, where the type's names are distinct
abbrev pub IsOfPayloadType : {V : Type 0} → (V → TypeTree → Type 0) → Option TypeTree → Option V → Type 0
IsOfPayloadType of expected payload = EachNamesOfMaybe AreDistinct (maybe_type expected) → PayloadIsOf of expected payload
