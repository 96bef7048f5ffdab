-- The fields that are handed in for a record, whose order is free: the last value under a name counts.
use Rattle.std.specs.Prelude.{ℕ, ◌≡◌, ◌≢◌, ◌⊎◌, List, [], ◌∷◌, map, Option, Some, None, string_bytes}
use Rattle.std.specs.Str.{bytes_eq}
use Rattle.wave_wasm.specs.Lists.{AllOf, SomeOf}
use Rattle.wave_wasm.specs.Merge.{value_at_last}
use Rattle.wave_wasm.specs.Names.{IsOneOf, AreDistinct, AreAllOf}
use Rattle.wave_wasm.specs.Types as type
use Rattle.wave_wasm.specs.Types.{TypeTree, kind_of, record_parts}
use Rattle.wave_wasm.specs.Values as value
use Rattle.wave_wasm.specs.Values.{field_values}
use Rattle.wave_wasm.specs.declared.wasm.WasmTypeKind.TheVariants as kinds
use Rattle.wave_wasm.specs.declared.wasm.WasmValueError.{WasmValueError}
use Rattle.wave_wasm.specs.declared.wasm.WasmValueError.TheVariants as error
use Rattle.wave_value.specs.TypedValue.{TypedValue}
use Rattle.wave_value.specs.ValueModel.{first_names, trees, beside}
use Rattle.wave_value.specs.ConstructorRules.{Built, TellsKind, TellsOther}

-- the last value under the name
abbrev pub last_under : {A : Type 0} → List (List ℕ × A) → List ℕ → Option A
last_under fs name = value_at_last (λ n other. bytes_eq other n) name fs

-- there is a value, whose own type is this one
abbrev pub HasOwn : TypeTree → Option TypedValue → Type 0
HasOwn T None = ⊥
HasOwn T (Some v) = v.own ≡ T

-- there is a value, whose own type is another one, and this is said of it
abbrev pub HasOther : (TypedValue → List ℕ) → List ℕ → List ℕ → TypeTree → Option TypedValue → Type 0
HasOther words t s T None = ⊥
HasOther words t s T (Some v) = TellsOther words t s T v

-- the name stands twice
abbrev pub IsRepeated : List (List ℕ) → List ℕ → Type 0
IsRepeated [] name = ⊥
IsRepeated (other ∷ others) name = (name ≡ other) × IsOneOf others name ⊎ IsRepeated others name

-- a record's names are distinct, those handed in are as a set the same, and the last value under each has its type
abbrev pub TakesRecord : TypeTree → List (List ℕ × TypedValue) → Type 0
TakesRecord (type.record_type fs) given =
    AreDistinct (first_names (type.field_list fs)) × AreAllOf (first_names (type.field_list fs)) (first_names given)
    × AllOf (λ f. HasOwn f.1 (last_under given f.0)) (type.field_list fs)
TakesRecord _ given = ⊥

-- a record of the last value under each name, in the type's order
pub record BuiltRecord (given : List (List ℕ × TypedValue)) (T : TypeTree) (v : TypedValue) : Type 0 where
  pub last : List TypedValue
  pub are_last : map (λ f. last_under given f.0) (record_parts T) ≡ map Some last
  pub built : Built (value.record_value (field_values (beside (first_names (record_parts T)) (trees last)))) T v

-- a field that is missing or repeated in the type, a name that no field has, a value of another type, or out of memory
abbrev pub RefusesFields : (TypedValue → List ℕ) → List (List ℕ × TypeTree) → (List ℕ → Option TypedValue) → WasmValueError → Type 0
RefusesFields words fs under (error.MissingField n) =
    IsOneOf (first_names fs) (string_bytes n) × ((under (string_bytes n) ≡ None) ⊎ IsRepeated (first_names fs) (string_bytes n))
RefusesFields words fs under (error.UnknownField n) = (under (string_bytes n) ≢ None) × (IsOneOf (first_names fs) (string_bytes n) → ⊥)
RefusesFields words fs under (error.WrongValueType t s) = SomeOf (λ f. HasOther words (string_bytes t) (string_bytes s) f.1 (under f.0)) fs
RefusesFields words fs under (error.Memory e) = Unit {0}
RefusesFields words fs under _ = ⊥

-- a type of another kind, or a refusal of the fields
abbrev pub RefusesRecord : (TypedValue → List ℕ) → TypeTree → List (List ℕ × TypedValue) → WasmValueError → Type 0
RefusesRecord words T given (error.WrongTypeKind k t) = TellsKind kinds.Record T k (string_bytes t)
RefusesRecord words T given (error.Memory e) = Unit {0}
RefusesRecord words T given e = (kind_of T ≡ kinds.Record) × RefusesFields words (record_parts T) (last_under given) e
