-- Why reading stopped.
use Rattle.std.specs.Prelude.{ℕ, ◌≡◌, List, [], ◌++◌, Option, Some, None, string_bytes}
use Rattle.std.specs.Borrow.{Bor}
use Rattle.wave_wasm.specs.ConstructorContracts.{IsMemory}
use Rattle.wave_wasm.specs.declared.wasm.WasmValueError.{WasmValueError}
use Rattle.wave_json.specs.declared.error.JsonErrorKind.{JsonErrorKind}
use Rattle.wave_json.specs.declared.error.Stop.{Stop}
use Rattle.wave_json.specs.declared.error.Stop.TheVariants as stops
use Rattle.wave_json.specs.Reading.{item_step, member_step}

-- the text of the step to the item at this place, or to the member of this name
abbrev pub step_text : ℕ → Option (Bor (List ℕ)) → List ℕ
step_text place None = item_step place
step_text place (Some name) = member_step name.now

-- a fault of this kind in the part itself
abbrev pub IsHere : JsonErrorKind → Stop → Type 0
IsHere kind stops.Memory = ⊥
IsHere kind (stops.Refused trail) = ⊥
IsHere kind (stops.Fault other trail) = (other ≡ kind) × (string_bytes trail.path ≡ [])

-- memory, or a fault of this kind to which this step leads
abbrev pub IsAt : List ℕ → JsonErrorKind → Stop → Type 0
IsAt step kind stops.Memory = Unit {0}
IsAt step kind (stops.Refused trail) = ⊥
IsAt step kind (stops.Fault other trail) = (other ≡ kind) × (string_bytes trail.path ≡ step ++ [])

-- a refusal of the same kind
abbrev SameRefusal : Stop → Type 0
SameRefusal stops.Memory = Unit {0}
SameRefusal (stops.Refused trail) = Unit {0}
SameRefusal (stops.Fault kind trail) = ⊥

-- memory, or a fault of this kind, at this path
abbrev IsFaultAt : JsonErrorKind → List ℕ → Stop → Type 0
IsFaultAt kind path stops.Memory = Unit {0}
IsFaultAt kind path (stops.Refused trail) = ⊥
IsFaultAt kind path (stops.Fault other trail) = (other ≡ kind) × (string_bytes trail.path ≡ path)

-- memory, or what the first one says, seen from where the step begins
abbrev pub IsUnder : List ℕ → Stop → Stop → Type 0
IsUnder step stops.Memory new = new ≡ stops.Memory
IsUnder step (stops.Refused trail) new = SameRefusal new
IsUnder step (stops.Fault kind trail) new = IsFaultAt kind (step ++ string_bytes trail.path) new

-- a constructor's refusal
abbrev pub IsRefusal : WasmValueError → Stop → Type 0
IsRefusal e stops.Memory = Unit {0}
IsRefusal e (stops.Refused trail) = IsMemory e → ⊥
IsRefusal e (stops.Fault kind trail) = ⊥
