-- What `OrderedFlags` are of, where they are full, and what their constructors refuse.
use Rattle.std.specs.Prelude.{ℕ, ◌≡◌, List, string_bytes, codes}
use Rattle.wave_wasm.specs.Names.{IsOneOf, IsNoneOf, AreAllOf, AreDistinct}
use Rattle.wave_wasm.specs.Types as type
use Rattle.wave_wasm.specs.Types.{TypeTree}
use Rattle.wave_wasm.specs.Values as value
use Rattle.wave_wasm.specs.HasType.{HasType}
use Rattle.wave_wasm.specs.ConstructorContracts.{HasFullParts}
use Rattle.wave_wasm.specs.TypeText.{kind_word}
use Rattle.wave_wasm.specs.declared.wasm.WasmTypeKind.{WasmTypeKind}
use Rattle.wave_wasm.specs.declared.wasm.WasmValueError.{WasmValueError}
use Rattle.wave_wasm.specs.declared.wasm.WasmValueError.TheVariants as error

-- the flags of these names are a value at the type
abbrev pub AreFlagsOf : List (List ℕ) → TypeTree → Type 0
AreFlagsOf names T = HasType T (value.flags names)

-- flags whose names are distinct
abbrev pub IsFull : TypeTree → Type 0
IsFull (type.flags names) = AreDistinct names
IsFull _ = ⊥

-- flags have no parts
pub full_parts : HasFullParts IsFull
full_parts (type.simple S) full = absurd full
full_parts (type.unreadable kind) full = absurd full
full_parts (type.list E) full = absurd full
full_parts (type.fixed E n) full = absurd full
full_parts (type.record_type fs) full = absurd full
full_parts (type.tuple Ts) full = absurd full
full_parts (type.variant cs) full = absurd full
full_parts (type.enum names) full = absurd full
full_parts (type.option P) full = absurd full
full_parts (type.result A B) full = absurd full
full_parts (type.flags names) full = tt
full_parts (type.map K V) full = absurd full

-- names of the type, none of them twice
abbrev pub TakesNames : List (List ℕ) → List (List ℕ) → Type 0
TakesNames all handed = AreAllOf all handed × AreDistinct handed

-- one of the names is none of the type's, a name stands twice, or out of memory
abbrev pub RefusesNames : List (List ℕ) → List (List ℕ) → WasmValueError → Type 0
RefusesNames all handed (error.UnknownCase n) = IsOneOf handed (string_bytes n) × IsNoneOf all (string_bytes n)
RefusesNames all handed (error.Other words) = (string_bytes words ≡ codes "a name stands twice") × (AreDistinct handed → ⊥)
RefusesNames all handed (error.Memory e) = Unit {0}
RefusesNames all handed _ = ⊥

-- the type's kind is not supported, named by its word, or out of memory
abbrev pub RefusesKind : WasmTypeKind → WasmValueError → Type 0
RefusesKind kind (error.UnsupportedType word) = string_bytes word ≡ kind_word kind
RefusesKind kind (error.Memory e) = Unit {0}
RefusesKind kind _ = ⊥
