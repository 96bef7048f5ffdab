-- Fields of a record while they are read, and once all are there.
use Rattle.std.specs.Prelude.{ℕ, ◌≡◌, ◌≢◌, ◌⊎◌, List, [], ◌∷◌, map, Option, Some, None, slice_get}
use Rattle.std.specs.Borrow.{Bor}
use Rattle.std.specs.declared.ops.Range.{Range}
use Rattle.wave_wasm.specs.Names.{IsNoneOf}
use Rattle.wave_wasm.specs.Types.{TypeTree, HasDistinctNames}
use Rattle.wave_wasm.specs.Values.{Value}
use Rattle.wave_wasm.specs.ValueErrors.{cause_of, missing_field}
use Rattle.wave_wasm.specs.ConstructorContracts.{IsMemory}
use Rattle.wave_wasm.specs.declared.wasm.WasmValueError.{WasmValueError}
use Rattle.wave_lex.specs.Errors.{Diagnostic, Says, field_label_expected, repeated_name}
use Rattle.wave_lex.specs.declared.error.ParserErrorKind.{ParserErrorKind}
use Rattle.wave_lex.specs.declared.error.ParserErrorKind.TheVariants.{InvalidType, InvalidValue, DuplicateField, OutOfMemory}
use Rattle.wave_grammar.specs.LeafTokens.{name_of}
use Rattle.wave_grammar.specs.TypedGrammar.{IsOption}
use Rattle.wave_grammar.specs.NodeTree.{NodeTree}
use Rattle.wave_grammar.specs.NodeFields.{IsLeftOut, IsMissing}
use Rattle.wave_grammar.specs.declared.form.NodeType.{NodeType}
use Rattle.wave_grammar.specs.declared.form.NodeType.TheVariants as kind
use Rattle.wave_leaf.specs.declared.fault.Fault.{Fault}
use Rattle.wave_leaf.specs.declared.fault.Fault.TheVariants as fault
use Rattle.wave_read.specs.declared.records.Field.{Field}
use Rattle.wave_leaf.specs.declared.error.Reason.TheVariants as reason
use Rattle.wave_read.specs.RecordParts.{IsUnread, field_name}

-- the field with this value
abbrev pub with_value : {S V : Type 0} → Field S V → V → Field S V
with_value f v = record f { value = Some v }

-- the field of this name stands at the place
abbrev pub IsNamedAt : {S V : Type 0} → List (Field S V) → List ℕ → ℕ → Type 0
IsNamedAt {S} {V} fields name i = (f : Field S V) × (slice_get fields i ≡ Some f) × (f.name.now ≡ name)

-- a key of this type and text is the label of a field that was not read yet, which has this place and type
abbrev pub IsFieldKey : {S V : Type 0} → List (Field S V) → NodeType → List ℕ → ℕ × Bor S → Type 0
IsFieldKey fields ty text expected = (ty ≡ kind.Label) × IsUnread fields (name_of text) expected

-- a field of this name was read
abbrev pub IsReadBefore : {S V : Type 0} → List (Field S V) → List ℕ → Type 0
IsReadBefore {S} {V} fields name = (i : ℕ) × (f : Field S V) × (v : V) × (slice_get fields i ≡ Some f) × (f.name.now ≡ name) × (f.value ≡ Some v)

-- the fault is a refusal of this kind, here, with these words
abbrev pub IsReportedAs : ParserErrorKind → Range ℕ → List ℕ → Fault → Type 0
IsReportedAs why p words (fault.Part e) = Says e why p (Some words)
IsReportedAs why p words _ = ⊥

-- a key that stands here is no label, or the label of no field, or that of one that was read
abbrev pub IsKeyFault : {S V : Type 0} → List (Field S V) → NodeType → Range ℕ → List ℕ → Fault → Type 0
IsKeyFault fields ty p text f =
    (ty ≢ kind.Label) × IsReportedAs InvalidType p field_label_expected f
    ⊎ (ty ≡ kind.Label) × IsNoneOf (map field_name fields) (name_of text) × (f ≡ fault.Whole (reason.Plain InvalidValue))
    ⊎ (ty ≡ kind.Label) × IsReadBefore fields (name_of text) × IsReportedAs DuplicateField p (repeated_name (name_of text)) f

-- that a field of this name is missing, or out of memory
abbrev pub IsMissingOrMemory : List ℕ → WasmValueError → Type 0
IsMissingOrMemory name cause = (cause_of cause ≡ missing_field name) ⊎ IsMemory cause

module _ {V : Type 0} (tree : V → Value) (of : V → TypeTree → Type 0) where
  -- the value of a field, which is `none` where it was left out
  abbrev pub IsFull : TypeTree → Option V → V → Type 0
  IsFull T None v = HasDistinctNames T → IsLeftOut tree of T v
  IsFull T (Some w) v = w ≡ v

module _ {S V : Type 0} (tree : V → Value) (of : V → TypeTree → Type 0) (type_tree : S → TypeTree) where
  -- so are these of these fields
  abbrev pub AreFull : List (Field S V) → List (Bor (List ℕ) × V) → Type 0
  AreFull [] [] = Unit {0}
  AreFull (f ∷ fields) (v ∷ vals) = (v.0.now ≡ f.name.now) × IsFull tree of (type_tree f.ty.now) f.value v.1 × AreFull fields vals
  AreFull _ _ = ⊥

module _ {S V : Type 0} (Full : TypeTree → Type 0) (type_tree : S → TypeTree) where
  -- the field was read, or may be left out
  abbrev pub IsFilled : Field S V → Type 0
  IsFilled f = HasDistinctNames (type_tree f.ty.now) → f.value ≡ None → IsOption (type_tree f.ty.now)

  -- the refusal of the first field that was left out of the record and may not be
  abbrev pub FirstUnfilled : List (Field S V) → NodeTree → Diagnostic → Type 0
  FirstUnfilled [] n e = ⊥
  FirstUnfilled (f ∷ more) n e =
      (f.value ≡ None) × (HasDistinctNames (type_tree f.ty.now) → IsMissing Full (type_tree f.ty.now) f.name.now n e)
      ⊎ IsFilled f × FirstUnfilled more n e

  -- so, or out of memory
  abbrev pub IsLeftUnfilled : List (Field S V) → NodeTree → Diagnostic → Type 0
  IsLeftUnfilled fields n e = (e.kind ≡ OutOfMemory) ⊎ FirstUnfilled fields n e
