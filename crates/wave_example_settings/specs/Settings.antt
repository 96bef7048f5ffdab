-- The settings of a window: their type, their width, and the same settings with another width.
use Rattle.std.specs.Prelude.{ℕ, pos, ◌≡◌, ◌≢◌, ◌⊎◌, List, [], ◌∷◌, map, codes, if◌then◌else◌}
use Rattle.std.specs.Str.{bytes_eq}
use Rattle.wave_wasm.specs.Lists.{SomeOf}
use Rattle.wave_wasm.specs.Types as type
use Rattle.wave_wasm.specs.Types.{TypeTree, HasDistinctNames, fields_of, record_parts}
use Rattle.wave_wasm.specs.Values as value
use Rattle.wave_wasm.specs.Values.{Value, kind_of, field_values, record_fields}
use Rattle.wave_wasm.specs.ConstructorContracts.{IsMemory}
use Rattle.wave_writer.specs.WriterState.{IsOutOfMemory}
use Rattle.wave_wasm.specs.declared.wasm.WasmTypeKind.TheVariants as kinds
use Rattle.wave_wasm.specs.declared.wasm.WasmValueError.{WasmValueError}
use Rattle.wave_lex.specs.Errors.{Diagnostic}
use Rattle.wave_value.specs.FullTypes.{IsFull}
use Rattle.wave_grammar.specs.Denotes.{Means}
use Rattle.wave_tree.specs.FromStr.{RefusesText}
use Rattle.wave_example_settings.specs.declared.settings.Refusal.{Refusal}
use Rattle.wave_example_settings.specs.declared.settings.Refusal.TheVariants as refusal

-- record { title: string, width: u32, shown: bool }
abbrev pub settings : TypeTree
settings = type.record_type (fields_of (
    (codes "title", type.simple type.string)
    ∷ (codes "width", type.simple (type.whole type.u32))
    ∷ (codes "shown", type.simple type.bool)
    ∷ []
    ))

-- a number as a value
abbrev pub number : ℕ → Value
number n = value.leaf (value.whole type.u32 (pos n))

-- the record has a width, which is this number
abbrev pub HasWidth : Value → ℕ → Type 0
HasWidth v n = SomeOf (λ f. f ≡ (codes "width", number n)) (record_fields v)

-- records of the type have a width
abbrev pub TakesWidth : TypeTree → Type 0
TakesWidth T = SomeOf (λ f. f ≡ (codes "width", type.simple (type.whole type.u32))) (record_parts T)

-- the field; where it is the width, with this number
abbrev pub with_number : ℕ → List ℕ × Value → List ℕ × Value
with_number n f = (f.0, if bytes_eq (codes "width") f.0 then number n else f.1)

-- the record with this width
abbrev pub with_width : ℕ → Value → Value
with_width n v = value.record_value (field_values (map (with_number n) (record_fields v)))

-- the width can't be changed: the type has none, or out of memory
abbrev pub RefusesWidth : TypeTree → WasmValueError → Type 0
RefusesWidth T e = IsMemory e ⊎ (TakesWidth T → ⊥)

-- the text means these settings, where the names of their type are distinct
abbrev pub MeansSettings : TypeTree → List ℕ → Value → Type 0
MeansSettings T s v = HasDistinctNames T → Means T 100 s v

-- the value are the settings that the text means, with this width
abbrev pub AreResized : TypeTree → List ℕ → ℕ → Value → Type 0
AreResized T s n w = (v : Value) × MeansSettings T s v × (w ≡ with_width n v)

-- what `from_str` says of the text: where the names of their type are distinct, a fault of it, which means no settings; or out of memory
abbrev pub RefusesSettings : TypeTree → List ℕ → Diagnostic → Type 0
RefusesSettings T s e = RefusesText IsFull T 100 s e

-- why the settings of the text are not written with another width
abbrev pub RefusesResizing : TypeTree → List ℕ → Refusal → Type 0
RefusesResizing T s (refusal.Text e) = RefusesSettings T s e
RefusesResizing T s refusal.NoRecord = (v : Value) × MeansSettings T s v × (kind_of v ≢ kinds.Record)
RefusesResizing T s (refusal.Value e) = HasDistinctNames T → RefusesWidth T e
RefusesResizing T s (refusal.Write e) = IsOutOfMemory e
