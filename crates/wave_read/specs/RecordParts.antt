-- The fields of a record, whose keys and values are read in turn.
use Rattle.std.specs.Prelude.{ℕ, ◌≡◌, List, [], ◌∷◌, map, Option, Some, None, option_map, Ok, slice_get}
use Rattle.std.specs.Borrow.{Bor}
use Rattle.wave_wasm.specs.Lists.{AllOf}
use Rattle.wave_wasm.specs.Names.{IsOneOf, AreDistinct}
use Rattle.wave_wasm.specs.Types.{TypeTree, HasDistinctNames, kind_of, record_parts}
use Rattle.wave_wasm.specs.Values.{Value}
use Rattle.wave_wasm.specs.declared.wasm.WasmTypeKind.TheVariants as kinds
use Rattle.wave_grammar.specs.LeafTokens.{name_of}
use Rattle.wave_grammar.specs.TypedGrammar.{look_up, names_of}
use Rattle.wave_grammar.specs.FaultOrder.{Order}
use Rattle.wave_grammar.specs.NodeTree.{NodeTree, type_of}
use Rattle.wave_grammar.specs.NodeAccessors.{node_text, node_pairs}
use Rattle.wave_grammar.specs.NodeFields.{IsLabelled, fields_at}
use Rattle.wave_grammar.specs.declared.form.NodeType.TheVariants as kind
use Rattle.wave_leaf.specs.Reading.{IsReadAs}
use Rattle.wave_read.specs.declared.records.Field.{Field}
use Rattle.wave_read.specs.declared.records.Fields.{Fields}

-- ---- keys

-- the name of a field
abbrev pub field_name : {S V : Type 0} → Field S V → List ℕ
field_name f = f.name.now

-- the name and the place are those of a field of this type that was not read
abbrev pub IsUnread : {S V : Type 0} → List (Field S V) → List ℕ → ℕ × Bor S → Type 0
IsUnread {S} {V} fields name expected = (f : Field S V) × (slice_get fields expected.0 ≡ Some f) × (f.name.now ≡ name) × (f.ty ≡ expected.1) × (f.value ≡ None)

-- the key that stands last, where it has no value yet
abbrev pub last_key : List NodeTree → Option NodeTree
last_key [] = None
last_key (key ∷ []) = Some key
last_key (key ∷ val ∷ more) = last_key more

-- the type of the value that comes next
abbrev pub type_expected : {S V : Type 0} → Fields S V → Option (Bor S)
type_expected x = option_map (λ d. d.1) x.expected

-- the key that waits for its value is the label of the field that is expected
abbrev pub IsKeyExpected : {S V : Type 0} → List ℕ → List (Field S V) → Option NodeTree → Option (ℕ × Bor S) → Type 0
IsKeyExpected source fields None None = Unit {0}
IsKeyExpected source fields (Some key) (Some expected) = (type_of key ≡ kind.Label) × IsUnread fields (name_of (node_text source key)) expected
IsKeyExpected source fields _ _ = ⊥

-- ---- fields

-- a field's name and the tree of its type
abbrev pub part_of : {S V : Type 0} → (S → TypeTree) → Field S V → List ℕ × TypeTree
part_of type_tree f = (f.name.now, type_tree f.ty.now)

module _ {V : Type 0} (tree : V → Value) (of : V → TypeTree → Type 0) (Full : TypeTree → Type 0) (w : Order) where
  -- no entry is for the name; or the value is that of its entry
  abbrev pub IsKeptAs : TypeTree → List ℕ → Option NodeTree → Option V → Type 0
  IsKeptAs T source o None = o ≡ None
  IsKeptAs T source o (Some v) = (m : NodeTree) × (o ≡ Some m) × IsReadAs tree of Full w w T source m (Ok v)

module _ {S V : Type 0} (type_tree : S → TypeTree) (tree : V → Value) (of : V → TypeTree → Type 0) (Full : TypeTree → Type 0) (w : Order) where
  -- each field has the value of its entry, where one is for it
  abbrev pub AreKeptAs : List ℕ → List (List ℕ × NodeTree) → List (Field S V) → Type 0
  AreKeptAs source given fields = AllOf (λ f. IsKeptAs tree of Full w (type_tree f.ty.now) source (look_up given f.name.now) f.value) fields

  -- what was read of these nodes: entries of distinct names of the type's fields, and perhaps a key
  pub record AreBegun (T : TypeTree) (source : List ℕ) (children : List NodeTree) (x : Fields S V) : Type 0 where
    pub labels : AllOf IsLabelled (node_pairs children)
    pub known : AllOf (IsOneOf (map field_name x.fields.items)) (names_of (fields_at source children))
    pub expected : IsKeyExpected source x.fields.items (last_key children) x.expected
    pub distinct : HasDistinctNames T → AreDistinct (names_of (fields_at source children))
    pub kept : HasDistinctNames T → AreKeptAs source (fields_at source children) x.fields.items

  -- these are the fields of a record of the type
  pub record AreFields (T : TypeTree) (source : List ℕ) (children : List NodeTree) (x : Fields S V) : Type 0 where
    pub type_is : type_tree x.ty.now ≡ T
    pub of_kind : kinds.Record ≡ kind_of T
    pub parts : map (part_of type_tree) x.fields.items ≡ record_parts T
    pub begun : AreBegun T source children x
