-- The fields that are handed in for a record, whose order is free: the last value under a name counts.
use Rattle.std.specs.Prelude.{ℕ, ◌≡◌, ◌≢◌, List, [], ◌∷◌, Option, Some, None, string_bytes}
use Rattle.std.specs.Borrow.{Bor}
use Rattle.std.specs.BTreeMap.{BTreeMap, get_by}
use Rattle.std.specs.Cmp.Lexicographic.{slice_cmp}
use Rattle.std.specs.Ordering.{nat_cmp}
use Rattle.wave_wasm.specs.Names.{IsOneOf, AreDistinct}
use Rattle.wave_wasm.specs.Types.{TypeTree}
use Rattle.wave_wasm.specs.declared.wasm.WasmValueError.{WasmValueError}
use Rattle.wave_wasm.specs.declared.wasm.WasmValueError.TheVariants as error
use Rattle.wave_value.specs.TypedValue.{TypedValue, IsAt}
use Rattle.wave_value.specs.ValueModel.{first_names}
use Rattle.wave_value.specs.declared.value.refusals.NameErrorKind.{NameErrorKind}
use Rattle.wave_value.specs.declared.value.refusals.NameErrorKind.TheVariants as amiss
use Rattle.wave_value.specs.Private.ConstructorRules.{SaysCase, SaysMissing, SaysUnexpected}

-- the value that the map holds under the name
abbrev pub held : {A : Type 0} → BTreeMap (Bor (List ℕ)) A → List ℕ → Option A
held m name = get_by (λ k. slice_cmp nat_cmp name k.now) m

-- what is handed in has the names of the fields in their order, and they are distinct
pub record IsInTurn {A B : Type 0} (fs : List (List ℕ × A)) (given : List (List ℕ × B)) : Type 0 where
  pub same : first_names given ≡ first_names fs
  pub distinct : AreDistinct (first_names fs)

-- each value is at its field's type, and the one under the field's name
abbrev pub FieldsHeld : (List ℕ → Option TypedValue) → List (List ℕ × TypeTree) → List TypedValue → Type 0
FieldsHeld under [] [] = Unit {0}
FieldsHeld under (f ∷ fs) (v ∷ vs) = (under f.0 ≡ Some v) × IsAt f.1 v × FieldsHeld under fs vs
FieldsHeld under _ _ = ⊥

-- the values are those of the fields in their order, whose names are distinct, and there is none under another name
pub record InOrder (fs : List (List ℕ × TypeTree)) (under : List ℕ → Option TypedValue) (vs : List TypedValue) : Type 0 where
  pub held : FieldsHeld under fs vs
  pub distinct : AreDistinct (first_names fs)
  pub known : (name : List ℕ) → under name ≢ None → IsOneOf (first_names fs) name

-- the field is missing
abbrev pub SaysMissingField : List ℕ → WasmValueError → Type 0
SaysMissingField name (error.MissingField n) = string_bytes n ≡ name
SaysMissingField name (error.Memory e) = Unit {0}
SaysMissingField name _ = ⊥

-- there is no such field
abbrev pub SaysUnknownField : List ℕ → WasmValueError → Type 0
SaysUnknownField name (error.UnknownField n) = string_bytes n ≡ name
SaysUnknownField name (error.Memory e) = Unit {0}
SaysUnknownField name _ = ⊥

-- this is amiss with the case or the field of this name
abbrev pub SaysName : NameErrorKind → List ℕ → WasmValueError → Type 0
SaysName amiss.UnknownCase = SaysCase
SaysName amiss.MissingPayload = SaysMissing
SaysName amiss.UnexpectedPayload = SaysUnexpected
SaysName amiss.MissingField = SaysMissingField
SaysName amiss.UnknownField = SaysUnknownField
