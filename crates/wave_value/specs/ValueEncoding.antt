-- A value as something that can be stored, by which two values are told apart.
use Rattle.std.specs.Prelude.{◌≡◌, ℕ, pos, negsuc, Bool, true, false, ◌==◌, List, [], ◌∷◌, refl, slice_index_or}
use Rattle.std.proofs.Common.{sym, ap, ◌∙◌}
use base.Stored.{Gv, gnil, gnum, gcons, num}
use Rattle.wave_wasm.specs.Types.{Whole, s8, Simple, bool, whole, char, string, f32}
use Rattle.wave_wasm.specs.TypeTreeEncoding.{simple_number, numbered_simple, simple_back, stored, stored_name, stored_names}
use Rattle.wave_wasm.specs.TypeTreeEncoding.{unreadable_number, numbered_unreadable, unreadable_back}
use Rattle.wave_wasm.specs.Values as value
use Rattle.wave_wasm.specs.Values.{Leaf, Value, MaybeValue, Values, FieldValues, Entries}
use Rattle.wave_wasm.specs.Values.{no_value, a_value, no_values, value_and, no_fields, field, no_entries, entry}

-- the whole-number type that a simple type is; s8 where it is none
abbrev whole_or_s8 : Simple → Whole
whole_or_s8 (whole kind) = kind
whole_or_s8 bool = s8
whole_or_s8 char = s8
whole_or_s8 string = s8

-- the whole-number type whose simple type has this number
abbrev numbered_whole : ℕ → Whole
numbered_whole n = whole_or_s8 (numbered_simple n)

-- a bool as a number
abbrev pub bit : Bool → ℕ
bit true = 1
bit false = 0

-- a value of one token, stored
abbrev pub stored_leaf : Leaf → Gv
stored_leaf (value.bool b) = stored 0 (gnum (bit b)) gnil
stored_leaf (value.whole kind (pos n)) = stored 1 (gnum (simple_number (whole kind))) (gnum n)
stored_leaf (value.whole kind (negsuc n)) = stored 2 (gnum (simple_number (whole kind))) (gnum n)
stored_leaf (value.char c) = stored 3 (gnum c) gnil
stored_leaf (value.string s) = stored 4 (stored_name s) gnil

-- a value, stored
abbrev mutual
  pub stored_value : Value → Gv
  stored_value (value.leaf one) = stored 0 (stored_leaf one) gnil
  stored_value (value.unreadable u) = stored 1 (gnum (unreadable_number u)) gnil
  stored_value (value.list vs) = stored 2 (stored_values vs) gnil
  stored_value (value.fixed vs) = stored 3 (stored_values vs) gnil
  stored_value (value.record_value fs) = stored 4 (stored_fields fs) gnil
  stored_value (value.tuple vs) = stored 5 (stored_values vs) gnil
  stored_value (value.variant n p) = stored 6 (stored_name n) (stored_maybe p)
  stored_value (value.enum n) = stored 7 (stored_name n) gnil
  stored_value (value.option p) = stored 8 (stored_maybe p) gnil
  stored_value (value.ok p) = stored 9 (stored_maybe p) gnil
  stored_value (value.err p) = stored 10 (stored_maybe p) gnil
  stored_value (value.flags ns) = stored 11 (stored_names ns) gnil
  stored_value (value.map es) = stored 12 (stored_entries es) gnil

  -- a payload, stored
  pub stored_maybe : MaybeValue → Gv
  stored_maybe no_value = gnil
  stored_maybe (a_value v) = gcons (stored_value v) gnil

  -- items, stored
  pub stored_values : Values → Gv
  stored_values no_values = gnil
  stored_values (value_and v vs) = gcons (stored_value v) (stored_values vs)

  -- fields, stored
  pub stored_fields : FieldValues → Gv
  stored_fields no_fields = gnil
  stored_fields (field n v fs) = gcons (stored_name n) (gcons (stored_value v) (stored_fields fs))

  -- entries, stored
  pub stored_entries : Entries → Gv
  stored_entries no_entries = gnil
  stored_entries (entry k v es) = gcons (stored_leaf k) (gcons (stored_value v) (stored_entries es))

abbrev pub name_in : Gv → List ℕ
name_in (gcons b n) = num b ∷ name_in n
name_in _ = []

abbrev names_in : Gv → List (List ℕ)
names_in (gcons n ns) = name_in n ∷ names_in ns
names_in _ = []

abbrev leaf_in : Gv → Leaf
leaf_in (gcons (gnum n) (gcons a b)) =
    slice_index_or
    (value.bool (num a == 1)
    ∷ value.whole (numbered_whole (num a)) (pos (num b))
    ∷ value.whole (numbered_whole (num a)) (negsuc (num b))
    ∷ value.char (num a)
    ∷ value.string (name_in a)
    ∷ [])
    n (value.char 0)
leaf_in _ = value.char 0

abbrev mutual
  value_in : Gv → Value
  value_in (gcons (gnum n) (gcons a b)) =
      slice_index_or
      (value.leaf (leaf_in a)
      ∷ value.unreadable (numbered_unreadable (num a))
      ∷ value.list (values_in a)
      ∷ value.fixed (values_in a)
      ∷ value.record_value (fields_in a)
      ∷ value.tuple (values_in a)
      ∷ value.variant (name_in a) (maybe_in b)
      ∷ value.enum (name_in a)
      ∷ value.option (maybe_in a)
      ∷ value.ok (maybe_in a)
      ∷ value.err (maybe_in a)
      ∷ value.flags (names_in a)
      ∷ value.map (entries_in a)
      ∷ [])
      n (value.unreadable f32)
  value_in _ = value.unreadable f32

  maybe_in : Gv → MaybeValue
  maybe_in (gcons v _) = a_value (value_in v)
  maybe_in _ = no_value

  values_in : Gv → Values
  values_in (gcons v vs) = value_and (value_in v) (values_in vs)
  values_in _ = no_values

  fields_in : Gv → FieldValues
  fields_in (gcons n (gcons v fs)) = field (name_in n) (value_in v) (fields_in fs)
  fields_in _ = no_fields

  entries_in : Gv → Entries
  entries_in (gcons k (gcons v es)) = entry (leaf_in k) (value_in v) (entries_in es)
  entries_in _ = no_entries

whole_back : (kind : Whole) → numbered_whole (simple_number (whole kind)) ≡ kind
whole_back kind = ap whole_or_s8 (simple_back (whole kind))

pub name_back : (n : List ℕ) → name_in (stored_name n) ≡ n
name_back [] = refl
name_back (b ∷ n) = λ i. b ∷ name_back n i

names_back : (ns : List (List ℕ)) → names_in (stored_names ns) ≡ ns
names_back [] = refl
names_back (n ∷ ns) = λ i. name_back n i ∷ names_back ns i

leaf_back : (one : Leaf) → leaf_in (stored_leaf one) ≡ one
leaf_back (value.bool true) = refl
leaf_back (value.bool false) = refl
leaf_back (value.whole kind (pos n)) = λ i. value.whole (whole_back kind i) (pos n)
leaf_back (value.whole kind (negsuc n)) = λ i. value.whole (whole_back kind i) (negsuc n)
leaf_back (value.char c) = refl
leaf_back (value.string s) = λ i. value.string (name_back s i)

mutual
  value_back : (v : Value) → value_in (stored_value v) ≡ v
  value_back (value.leaf one) = λ i. value.leaf (leaf_back one i)
  value_back (value.unreadable u) = λ i. value.unreadable (unreadable_back u i)
  value_back (value.list vs) = λ i. value.list (values_back vs i)
  value_back (value.fixed vs) = λ i. value.fixed (values_back vs i)
  value_back (value.record_value fs) = λ i. value.record_value (fields_back fs i)
  value_back (value.tuple vs) = λ i. value.tuple (values_back vs i)
  value_back (value.variant n p) = λ i. value.variant (name_back n i) (maybe_back p i)
  value_back (value.enum n) = λ i. value.enum (name_back n i)
  value_back (value.option p) = λ i. value.option (maybe_back p i)
  value_back (value.ok p) = λ i. value.ok (maybe_back p i)
  value_back (value.err p) = λ i. value.err (maybe_back p i)
  value_back (value.flags ns) = λ i. value.flags (names_back ns i)
  value_back (value.map es) = λ i. value.map (entries_back es i)

  maybe_back : (p : MaybeValue) → maybe_in (stored_maybe p) ≡ p
  maybe_back no_value = refl
  maybe_back (a_value v) = λ i. a_value (value_back v i)

  values_back : (vs : Values) → values_in (stored_values vs) ≡ vs
  values_back no_values = refl
  values_back (value_and v vs) = λ i. value_and (value_back v i) (values_back vs i)

  fields_back : (fs : FieldValues) → fields_in (stored_fields fs) ≡ fs
  fields_back no_fields = refl
  fields_back (field n v fs) = λ i. field (name_back n i) (value_back v i) (fields_back fs i)

  entries_back : (es : Entries) → entries_in (stored_entries es) ≡ es
  entries_back no_entries = refl
  entries_back (entry k v es) = λ i. entry (leaf_back k i) (value_back v i) (entries_back es i)

-- two values that are stored alike are one
pub value_apart : (v w : Value) → stored_value v ≡ stored_value w → v ≡ w
value_apart v w e = sym (value_back v) ∙ (ap value_in e ∙ value_back w)
