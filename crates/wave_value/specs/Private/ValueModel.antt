-- What a value's content means at its type, and what holds of it.
use Rattle.std.specs.Prelude.{ℕ, zero, suc, ◌+◌, ◌≤◌, ◌<◌, ◌≡◌, ◌≢◌, List, [], ◌∷◌, map, length, Option, Some, None, string_bytes}
use Rattle.wave_wasm.specs.Lists.{AllOf}
use Rattle.wave_wasm.specs.Names.{AreDistinct}
use Rattle.wave_wasm.specs.Types as type
use Rattle.wave_wasm.specs.Types.{TypeTree, record_parts, variant_parts, enum_names, flags_names}
use Rattle.wave_wasm.specs.Values as value
use Rattle.wave_wasm.specs.Values.{Leaf, Value, leaf_type, IsSound, values, field_values, entries, maybe_value}
use Rattle.wave_wasm.specs.ConstructorContracts.{list_value}
use Rattle.wave_value.specs.declared.value.Content.{Content}
use Rattle.wave_value.specs.declared.value.Content.TheVariants as contents
use Rattle.wave_value.specs.TypedValue.{TypedValue, IsAt}
use Rattle.wave_value.specs.ValueModel.{beside, boxed, first_names, name_at, payload_tree, scalar_leaf, trees}

-- the key that a value of one token is
abbrev pub key_of : Value → Leaf
key_of (value.leaf one) = one
key_of _ = value.char 0

-- what the entries mean
abbrev pub entry_trees : List (TypedValue × TypedValue) → List (Leaf × Value)
entry_trees es = map (λ e. (key_of e.0.tree, e.1.tree)) es

-- the value that the content is at this type
abbrev pub content_tree : TypeTree → Content → Value
content_tree T (contents.Scalar one) = value.leaf (scalar_leaf one)
content_tree T (contents.String s) = value.leaf (value.string (string_bytes s))
content_tree T (contents.List vs) = list_value T (trees vs.items)
content_tree T (contents.Record vs) = value.record_value (field_values (beside (first_names (record_parts T)) (trees vs.items)))
content_tree T (contents.Tuple vs) = value.tuple (values (trees vs.items))
content_tree T (contents.Variant i p) = value.variant (name_at (first_names (variant_parts T)) i) (maybe_value (payload_tree (boxed p)))
content_tree T (contents.Enum i) = value.enum (name_at (enum_names T) i)
content_tree T (contents.Option p) = value.option (maybe_value (payload_tree (boxed p)))
content_tree T (contents.Ok p) = value.ok (maybe_value (payload_tree (boxed p)))
content_tree T (contents.Err p) = value.err (maybe_value (payload_tree (boxed p)))
content_tree T (contents.Flags is) = value.flags (map (name_at (flags_names T)) is.items)
content_tree T (contents.Map es) = value.map (entries (entry_trees es.items))

-- each value is at this type
abbrev pub AllAt : TypeTree → List TypedValue → Type 0
AllAt T vs = AllOf (IsAt T) vs

-- the values are at these types, in order
abbrev pub EachAt : List TypeTree → List TypedValue → Type 0
EachAt [] [] = Unit {0}
EachAt (T ∷ Ts) (v ∷ vs) = IsAt T v × EachAt Ts vs
EachAt _ _ = ⊥

-- the values are at the types of these fields, in order
abbrev pub FieldsAt : List (List ℕ × TypeTree) → List TypedValue → Type 0
FieldsAt [] [] = Unit {0}
FieldsAt (f ∷ fs) (v ∷ vs) = IsAt f.1 v × FieldsAt fs vs
FieldsAt _ _ = ⊥

-- the payload is there exactly where it has a type, and is at it
abbrev pub PayloadAt : Option TypeTree → Option TypedValue → Type 0
PayloadAt None None = Unit {0}
PayloadAt (Some T) (Some v) = IsAt T v
PayloadAt _ _ = ⊥

-- the case at this place, the first of its name, has this payload
abbrev pub CaseAt : List (List ℕ × Option TypeTree) → ℕ → Option TypedValue → Type 0
CaseAt [] i p = ⊥
CaseAt (c ∷ cs) zero p = PayloadAt c.1 p
CaseAt (c ∷ cs) (suc i) p = (name_at (first_names cs) i ≢ c.0) × CaseAt cs i p

-- places that grow, from a first one on, below a count
abbrev pub Grows : ℕ → ℕ → List ℕ → Type 0
Grows from count [] = Unit {0}
Grows from count (i ∷ is) = (from ≤ i) × (i < count) × Grows (i + 1) count is

-- the key and the value are at these types
abbrev pub EntryAt : TypeTree → TypeTree → TypedValue × TypedValue → Type 0
EntryAt K V e = IsAt K e.0 × IsAt V e.1

-- so it is of each entry
abbrev pub EntriesAt : TypeTree → TypeTree → List (TypedValue × TypedValue) → Type 0
EntriesAt K V es = AllOf (EntryAt K V) es

-- a list's items, as many as a fixed-length list has
abbrev pub ListFits : TypeTree → List TypedValue → Type 0
ListFits (type.list E) vs = AllAt E vs
ListFits (type.fixed E n) vs = (length vs ≡ n) × AllAt E vs
ListFits _ vs = ⊥

-- a record's fields, whose names are distinct
abbrev pub RecordFits : TypeTree → List TypedValue → Type 0
RecordFits (type.record_type fs) vs = AreDistinct (first_names (type.field_list fs)) × FieldsAt (type.field_list fs) vs
RecordFits _ vs = ⊥

-- a tuple's items
abbrev pub TupleFits : TypeTree → List TypedValue → Type 0
TupleFits (type.tuple Ts) vs = EachAt (type.type_list Ts) vs
TupleFits _ vs = ⊥

-- a variant's case and payload
abbrev pub VariantFits : TypeTree → ℕ → Option TypedValue → Type 0
VariantFits (type.variant cs) i p = CaseAt (type.case_list cs) i p
VariantFits _ i p = ⊥

-- an enum's case
abbrev pub EnumFits : TypeTree → ℕ → Type 0
EnumFits (type.enum names) i = i < length names
EnumFits _ i = ⊥

-- an option's payload
abbrev pub OptionFits : TypeTree → Option TypedValue → Type 0
OptionFits (type.option P) None = Unit {0}
OptionFits (type.option P) (Some v) = IsAt P v
OptionFits _ p = ⊥

-- the payload of `ok`
abbrev pub OkFits : TypeTree → Option TypedValue → Type 0
OkFits (type.result A B) p = PayloadAt (type.type_option A) p
OkFits _ p = ⊥

-- the payload of `err`
abbrev pub ErrFits : TypeTree → Option TypedValue → Type 0
ErrFits (type.result A B) p = PayloadAt (type.type_option B) p
ErrFits _ p = ⊥

-- the places of flags
abbrev pub FlagsFit : TypeTree → List ℕ → Type 0
FlagsFit (type.flags names) is = Grows 0 (length names) is
FlagsFit _ is = ⊥

-- a map's entries
abbrev pub MapFits : TypeTree → List (TypedValue × TypedValue) → Type 0
MapFits (type.map K V) es = EntriesAt (type.simple K) V es
MapFits _ es = ⊥

-- the value of one token is of the type, and sound
abbrev pub ScalarFits : TypeTree → Leaf → Type 0
ScalarFits T one = (T ≡ type.simple (leaf_type one)) × IsSound one

-- the content is one of the type: each component is at its stated type, each place below its count
abbrev pub Fits : TypeTree → Content → Type 0
Fits T (contents.Scalar one) = ScalarFits T (scalar_leaf one)
Fits T (contents.String s) = ScalarFits T (value.string (string_bytes s))
Fits T (contents.List vs) = ListFits T vs.items
Fits T (contents.Record vs) = RecordFits T vs.items
Fits T (contents.Tuple vs) = TupleFits T vs.items
Fits T (contents.Variant i p) = VariantFits T i (boxed p)
Fits T (contents.Enum i) = EnumFits T i
Fits T (contents.Option p) = OptionFits T (boxed p)
Fits T (contents.Ok p) = OkFits T (boxed p)
Fits T (contents.Err p) = ErrFits T (boxed p)
Fits T (contents.Flags is) = FlagsFit T is.items
Fits T (contents.Map es) = MapFits T es.items

-- the same value at each type, and fit for each type that the other fits
abbrev pub FitsAsWell : Content → Content → Type 0
FitsAsWell c d = (T : TypeTree) → (content_tree T c ≡ content_tree T d) × (Fits T d → Fits T c)
