-- What the constructors ask for and refuse.
use Rattle.std.specs.Prelude.{ℕ, ◌≡◌, ◌≢◌, ◌⊎◌, List, Some, Result, Ok, Err}
use Rattle.wave_wasm.specs.Lists.{AllOf}
use Rattle.wave_wasm.specs.Types.{TypeTree, list_part, list_length}
use Rattle.wave_wasm.specs.Values.{Value}
use Rattle.wave_wasm.specs.HasType.{HasType}
use Rattle.wave_wasm.specs.TypeText.{kind_word}
use Rattle.wave_wasm.specs.ValueErrors.{cause_of, unsupported_type, wrong_length}
use Rattle.wave_wasm.specs.ConstructorContracts.{IsMemory}
use Rattle.wave_wasm.specs.declared.wasm.WasmTypeKind.{WasmTypeKind}
use Rattle.wave_wasm.specs.declared.wasm.WasmTypeKind.TheVariants as kinds
use Rattle.wave_wasm.specs.declared.wasm.WasmValueError.{WasmValueError}

-- the type has an element type, and each of the values is at it
abbrev pub AreElements : TypeTree → List Value → Type 0
AreElements T vs = (E : TypeTree) × (Some E ≡ list_part T) × AllOf (HasType E) vs

-- the kind is refused, by its word, or for lack of memory
abbrev pub RefusesKind : WasmTypeKind → WasmValueError → Type 0
RefusesKind kind e = IsMemory e ⊎ (cause_of e ≡ unsupported_type (kind_word kind))

-- lists are refused, or a number of items where a fixed-length list has another
abbrev pub RefusesList : TypeTree → ℕ → WasmValueError → Type 0
RefusesList T got e =
    RefusesKind kinds.List e ⊎ ((want : ℕ) × (list_length T ≡ Some want) × (got ≢ want) × (cause_of e ≡ wrong_length want got))

-- nothing of the kind is made
abbrev pub MakesNone : {A : Type 0} → WasmTypeKind → Result A WasmValueError → Type 0
MakesNone kind (Ok built) = ⊥
MakesNone kind (Err e) = RefusesKind kind e
