-- What each constructor of values accepts, what it makes, and what its refusals say.
use Rattle.std.specs.Prelude.{ℕ, ◌≡◌, ◌≢◌, Bool, true, false, List, Some, string_bytes}
use Rattle.wave_wasm.specs.TypeText.{type_text}
use Rattle.wave_wasm.specs.Types.{TypeTree, list_length}
use Rattle.wave_wasm.specs.declared.wasm.WasmTypeKind.{WasmTypeKind}
use Rattle.wave_wasm.specs.declared.wasm.WasmValueError.{WasmValueError}
use Rattle.wave_wasm.specs.declared.wasm.WasmValueError.TheVariants as error
use Rattle.wave_value.specs.TypedValue.{TypedValue, IsAt}

-- the answer of a test of the own type: true says also that the value is one of the type
abbrev pub Reports : Bool → TypeTree → TypedValue → Type 0
Reports true T v = IsAt T v
Reports false T v = v.own ≡ T → ⊥

-- the type is of another kind than this one
abbrev pub SaysKind : WasmTypeKind → TypeTree → WasmValueError → Type 0
SaysKind kind T (error.WrongTypeKind k t) = (k ≡ kind) × (string_bytes t ≡ type_text T)
SaysKind kind T (error.Memory e) = Unit {0}
SaysKind kind T _ = ⊥

-- the type is a fixed-length list of another length than this count
abbrev pub SaysLength : TypeTree → ℕ → WasmValueError → Type 0
SaysLength T count (error.WrongNumberOfElements want got) = (list_length T ≡ Some want) × (got ≡ count) × (want ≢ got)
SaysLength T count _ = ⊥

-- the value is of another type than this one
abbrev pub SaysType : (TypedValue → List ℕ) → TypeTree → TypedValue → WasmValueError → Type 0
SaysType words T v (error.WrongValueType t s) = (string_bytes t ≡ type_text T) × (string_bytes s ≡ words v)
SaysType words T v (error.Memory e) = Unit {0}
SaysType words T v _ = ⊥

-- the case is unknown
abbrev pub SaysCase : List ℕ → WasmValueError → Type 0
SaysCase name (error.UnknownCase n) = string_bytes n ≡ name
SaysCase name (error.Memory e) = Unit {0}
SaysCase name _ = ⊥

-- the payload is missing
abbrev pub SaysMissing : List ℕ → WasmValueError → Type 0
SaysMissing name (error.MissingPayload n) = string_bytes n ≡ name
SaysMissing name (error.Memory e) = Unit {0}
SaysMissing name _ = ⊥

-- the payload is unexpected
abbrev pub SaysUnexpected : List ℕ → WasmValueError → Type 0
SaysUnexpected name (error.UnexpectedPayload n) = string_bytes n ≡ name
SaysUnexpected name (error.Memory e) = Unit {0}
SaysUnexpected name _ = ⊥
