-- What the constructors of variants, flags and maps accept, and what their refusals say.
use Rattle.std.specs.Prelude.{ℕ, ◌≡◌, ◌≢◌, ◌⊎◌, List, [], ◌∷◌, map, Option, string_bytes}
use Rattle.wave_wasm.specs.Lists.{AllOf}
use Rattle.wave_wasm.specs.Names.{IsOneOf, IsNoneOf, AreAllOf}
use Rattle.wave_wasm.specs.Types as type
use Rattle.wave_wasm.specs.Types.{TypeTree, kind_of, variant_parts, flags_names}
use Rattle.wave_wasm.specs.Values as value
use Rattle.wave_wasm.specs.Values.{Leaf, Value, entries}
use Rattle.wave_wasm.specs.ConstructorContracts.{leaf_entries}
use Rattle.wave_wasm.specs.declared.wasm.WasmTypeKind.TheVariants as kinds
use Rattle.wave_wasm.specs.declared.wasm.WasmValueError.{WasmValueError}
use Rattle.wave_wasm.specs.declared.wasm.WasmValueError.TheVariants as error
use Rattle.wave_value.specs.TypedValue.{TypedValue}
use Rattle.wave_value.specs.ValueModel.{first_names}
use Rattle.wave_value.specs.ConstructorRules.{Built, PayloadOwn, TellsKind, RefusesPayload}

-- ---- variants

-- the first case of this name states this payload type, or none
abbrev pub IsFirstCase : List (List ℕ × Option TypeTree) → List ℕ → Option TypeTree → Type 0
IsFirstCase [] name P = ⊥
IsFirstCase (c ∷ cs) name P = ((name ≡ c.0) × (P ≡ c.1)) ⊎ ((name ≢ c.0) × IsFirstCase cs name P)

-- a case of the type, with the payload that its first case of this name states
abbrev pub TakesVariant : TypeTree → List ℕ → Option TypedValue → Type 0
TakesVariant T name payload = (P : Option TypeTree) × IsFirstCase (variant_parts T) name P × PayloadOwn P payload

-- a type of another kind, a name that is no case, a payload that the first case of this name doesn't take, or out of memory
abbrev pub RefusesVariant : (TypedValue → List ℕ) → TypeTree → List ℕ → Option TypedValue → WasmValueError → Type 0
RefusesVariant words T name payload (error.WrongTypeKind k t) = TellsKind kinds.Variant T k (string_bytes t)
RefusesVariant words T name payload (error.UnknownCase n) =
    (kind_of T ≡ kinds.Variant) × (string_bytes n ≡ name) × IsNoneOf (first_names (variant_parts T)) name
RefusesVariant words T name payload (error.Memory e) = Unit {0}
RefusesVariant words T name payload e =
    (kind_of T ≡ kinds.Variant) × (P : Option TypeTree) × IsFirstCase (variant_parts T) name P × RefusesPayload words name P payload e

-- ---- flags

-- one of the names handed over is none of these names, or out of memory
abbrev pub RefusesNames : List (List ℕ) → List (List ℕ) → WasmValueError → Type 0
RefusesNames names handed (error.UnknownCase n) = IsOneOf handed (string_bytes n) × IsNoneOf names (string_bytes n)
RefusesNames names handed (error.Memory e) = Unit {0}
RefusesNames names handed _ = ⊥

-- names of the type's flags, in whatever order and however often
abbrev pub TakesFlags : TypeTree → List (List ℕ) → Type 0
TakesFlags T handed = (kind_of T ≡ kinds.Flags) × AreAllOf (flags_names T) handed

-- a type of another kind, a name that is no flag, or out of memory
abbrev pub RefusesFlags : TypeTree → List (List ℕ) → WasmValueError → Type 0
RefusesFlags T handed (error.WrongTypeKind k t) = TellsKind kinds.Flags T k (string_bytes t)
RefusesFlags T handed (error.Memory e) = Unit {0}
RefusesFlags T handed e = (kind_of T ≡ kinds.Flags) × RefusesNames (flags_names T) handed e

-- ---- maps

-- the map has the entries as they are handed over, and is a value of the type, its own
abbrev pub BuiltMap : List (TypedValue × TypedValue) → TypeTree → TypedValue → Type 0
BuiltMap handed T v = (all : List (Leaf × Value)) × (map (λ e. (e.0.tree, e.1.tree)) handed ≡ leaf_entries all) × Built (value.map (entries all)) T v

-- each key's own type is the first, each value's the second
abbrev pub EntriesOwn : TypeTree → TypeTree → List (TypedValue × TypedValue) → Type 0
EntriesOwn K V es = AllOf (λ e. (e.0.own ≡ K) × (e.1.own ≡ V)) es

-- entries whose keys and values are of the stated types
abbrev pub TakesMap : TypeTree → List (TypedValue × TypedValue) → Type 0
TakesMap (type.map K V) es = EntriesOwn (type.simple K) V es
TakesMap _ es = ⊥

-- each key beside the key type, and each value beside the value type
abbrev pub entries_stated : TypeTree → TypeTree → List (TypedValue × TypedValue) → List (TypeTree × TypedValue)
entries_stated K V [] = []
entries_stated K V (e ∷ es) = (K, e.0) ∷ ((V, e.1) ∷ entries_stated K V es)

abbrev pub map_stated : TypeTree → List (TypedValue × TypedValue) → List (TypeTree × TypedValue)
map_stated (type.map K V) es = entries_stated (type.simple K) V es
map_stated _ es = []
