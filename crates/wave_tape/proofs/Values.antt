-- The bytes of a value and whether it has a tape, by the lists of its parts.
use Rattle.std.proofs.Common.{◌≡◌, ℕ, suc, ◌≤◌, ◌&&◌, ◌⊎◌, inl, inr, Bool, true, false, List, [], ◌∷◌, ◌++◌, length, max, refl, sym, ap, ◌∙◌, append_assoc, arith}
use Rattle.std.specs.List.{flat_map, list_all}
use Rattle.wave_wasm.specs.declared.wasm.WasmTypeKind.{WasmTypeKind}
use Rattle.wave_wasm.specs.declared.wasm.WasmTypeKind.TheVariants as kinds
use Rattle.wave_wasm.specs.Types as type
use Rattle.wave_wasm.specs.Values as value
use Rattle.wave_wasm.specs.Values.{Leaf, Value, Values, FieldValues, Entries, no_values, value_and, no_fields, field, no_entries, entry, value_list, field_list, entry_list, list_items, tuple_items, record_fields, flags_names, map_entries, kind_of, depth, depth_of_entries}
use Rattle.wave_wasm.specs.ConstructorContracts.{leaf_entries}
use Rattle.wave_wasm.proofs.CanonicalText.ValueParts.{not_leaf}
use Rattle.wave_wasm.proofs.CanonicalText.Sequences.{depths}
use Rattle.wave_tape.specs.Tape.{bytes_of, item_bytes, row_bytes, field_bytes, field_row_bytes, entry_bytes, name_bytes, count_bytes, leaf_bytes}
use Rattle.wave_wasm.specs.Text.{is_writable, are_writable, are_writable_fields, are_writable_entries}
use Rattle.wave_tape.specs.Private.Rows.{row_or_zero}

-- ---- items

items_flat : (vs : Values) → item_bytes vs ≡ flat_map bytes_of (value_list vs)
items_flat no_values = refl
items_flat (value_and v more) = ap (λ (z : List ℕ). bytes_of v ++ z) (items_flat more)

row_flat : (vs : Values) → row_bytes vs ≡ row_or_zero bytes_of (value_list vs)
row_flat no_values = refl
row_flat (value_and v more) = ap (λ (z : List ℕ). bytes_of v ++ z) (items_flat more)

items_have : (vs : Values) → are_writable vs ≡ list_all is_writable (value_list vs)
items_have no_values = refl
items_have (value_and v more) = ap (λ (b : Bool). is_writable v && b) (items_have more)

-- the value has these bytes, and a tape where the test says so
pub record IsOf (v : Value) (bytes : List ℕ) (has : Bool) : Type 0 where
  pub bytes_are : bytes_of v ≡ bytes
  pub has_is : is_writable v ≡ has

pub list_is : (v : Value) (items : List Value) → kind_of v ≡ kinds.List → items ≡ list_items v → IsOf v (count_bytes (length items) ++ flat_map bytes_of items) (list_all is_writable items)
list_is (value.list vs) items k e = rw e (record { bytes_are = ap (λ (z : List ℕ). count_bytes (length (value_list vs)) ++ z) (items_flat vs); has_is = items_have vs })
list_is (value.leaf one) items k e = absurd (not_leaf one kinds.List refl k)
list_is (value.unreadable type.f32) items k e = absurd (cc)
list_is (value.unreadable type.f64) items k e = absurd (cc)
list_is (value.unreadable type.unsupported) items k e = absurd (cc)
list_is _ items k e = absurd (cc)

pub fixed_is : (v : Value) (items : List Value) → kind_of v ≡ kinds.FixedLengthList → items ≡ list_items v → IsOf v (row_or_zero bytes_of items) (list_all is_writable items)
fixed_is (value.fixed vs) items k e = rw e (record { bytes_are = row_flat vs; has_is = items_have vs })
fixed_is (value.leaf one) items k e = absurd (not_leaf one kinds.FixedLengthList refl k)
fixed_is (value.unreadable type.f32) items k e = absurd (cc)
fixed_is (value.unreadable type.f64) items k e = absurd (cc)
fixed_is (value.unreadable type.unsupported) items k e = absurd (cc)
fixed_is _ items k e = absurd (cc)

pub tuple_is : (v : Value) (items : List Value) → kind_of v ≡ kinds.Tuple → items ≡ tuple_items v → IsOf v (row_or_zero bytes_of items) (list_all is_writable items)
tuple_is (value.tuple vs) items k e = rw e (record { bytes_are = row_flat vs; has_is = items_have vs })
tuple_is (value.leaf one) items k e = absurd (not_leaf one kinds.Tuple refl k)
tuple_is (value.unreadable type.f32) items k e = absurd (cc)
tuple_is (value.unreadable type.f64) items k e = absurd (cc)
tuple_is (value.unreadable type.unsupported) items k e = absurd (cc)
tuple_is _ items k e = absurd (cc)

-- ---- fields

abbrev pub one_field : List ℕ × Value → List ℕ
one_field f = bytes_of f.1

abbrev pub has_field : List ℕ × Value → Bool
has_field f = is_writable f.1

fields_flat : (fs : FieldValues) → field_bytes fs ≡ flat_map one_field (field_list fs)
fields_flat no_fields = refl
fields_flat (field name v more) = ap (λ (z : List ℕ). bytes_of v ++ z) (fields_flat more)

field_row_flat : (fs : FieldValues) → field_row_bytes fs ≡ row_or_zero one_field (field_list fs)
field_row_flat no_fields = refl
field_row_flat (field name v more) = ap (λ (z : List ℕ). bytes_of v ++ z) (fields_flat more)

fields_have : (fs : FieldValues) → are_writable_fields fs ≡ list_all has_field (field_list fs)
fields_have no_fields = refl
fields_have (field name v more) = ap (λ (b : Bool). is_writable v && b) (fields_have more)

pub record_tape : (v : Value) (fields : List (List ℕ × Value)) → kind_of v ≡ kinds.Record → fields ≡ record_fields v → IsOf v (row_or_zero one_field fields) (list_all has_field fields)
record_tape (value.record_value fs) fields k e = rw e (record { bytes_are = field_row_flat fs; has_is = fields_have fs })
record_tape (value.leaf one) fields k e = absurd (not_leaf one kinds.Record refl k)
record_tape (value.unreadable type.f32) fields k e = absurd (cc)
record_tape (value.unreadable type.f64) fields k e = absurd (cc)
record_tape (value.unreadable type.unsupported) fields k e = absurd (cc)
record_tape _ fields k e = absurd (cc)

-- where there is a part, it needs no 0
pub row_full : {X : Type 0} (f : X → List ℕ) (xs : List X) → 1 ≤ length xs → row_or_zero f xs ≡ flat_map f xs
row_full f [] some = absurd (omega (arith, some))
row_full f (x ∷ xs) some = refl

-- ---- flags

pub flags_is : (v : Value) (names : List (List ℕ)) → kind_of v ≡ kinds.Flags → names ≡ flags_names v → IsOf v (count_bytes (length names) ++ name_bytes names) true
flags_is (value.flags ns) names k e = rw e (record { bytes_are = refl; has_is = refl })
flags_is (value.leaf one) names k e = absurd (not_leaf one kinds.Flags refl k)
flags_is (value.unreadable type.f32) names k e = absurd (cc)
flags_is (value.unreadable type.f64) names k e = absurd (cc)
flags_is (value.unreadable type.unsupported) names k e = absurd (cc)
flags_is _ names k e = absurd (cc)

-- ---- entries

abbrev pub one_entry : Value × Value → List ℕ
one_entry e = bytes_of e.0 ++ bytes_of e.1

abbrev pub has_entry : Value × Value → Bool
has_entry e = is_writable e.0 && is_writable e.1

entries_flat : (es : Entries) → entry_bytes es ≡ flat_map one_entry (leaf_entries (entry_list es))
entries_flat no_entries = refl
entries_flat (entry key v more) =
    ap (λ (z : List ℕ). leaf_bytes key ++ (bytes_of v ++ z)) (entries_flat more)
    ∙ sym (append_assoc (leaf_bytes key) (bytes_of v) (flat_map one_entry (leaf_entries (entry_list more))))

entries_have : (es : Entries) → are_writable_entries es ≡ list_all has_entry (leaf_entries (entry_list es))
entries_have no_entries = refl
entries_have (entry key v more) = ap (λ (b : Bool). is_writable v && b) (entries_have more)

entries_long : (es : List (Leaf × Value)) → length (leaf_entries es) ≡ length es
entries_long [] = refl
entries_long (e ∷ es) = ap suc (entries_long es)

value_depths : (es : Entries) → depths (λ (e : Value × Value). depth e.1) (leaf_entries (entry_list es)) ≡ depth_of_entries es
value_depths no_entries = refl
value_depths (entry key v more) = ap (λ (n : ℕ). max (depth v) n) (value_depths more)

key_depths : (es : Entries) → depths (λ (e : Value × Value). depth e.0) (leaf_entries (entry_list es)) ≡ 0
key_depths no_entries = refl
key_depths (entry key v more) = let h = key_depths more in omega (arith, h)

-- a map, by its entries
pub record IsMapOf (v : Value) (es : List (Value × Value)) : Type 0 where
  pub is : IsOf v (count_bytes (length es) ++ flat_map one_entry es) (list_all has_entry es)
  pub keys : depths (λ (e : Value × Value). depth e.0) es ≡ 0
  pub vals : depth v ≡ suc (depths (λ (e : Value × Value). depth e.1) es)

map_of : (entries : Entries) → IsMapOf (value.map entries) (leaf_entries (entry_list entries))
map_of entries = record {
  is = record {
    bytes_are =
        ap (λ (n : ℕ). count_bytes n ++ entry_bytes entries) (sym (entries_long (entry_list entries)))
        ∙ ap (λ (z : List ℕ). count_bytes (length (leaf_entries (entry_list entries))) ++ z) (entries_flat entries);
    has_is = entries_have entries;
  };
  keys = key_depths entries;
  vals = ap suc (sym (value_depths entries));
}

pub map_is : (v : Value) (es : List (Value × Value)) → kind_of v ≡ kinds.Map → es ≡ leaf_entries (map_entries v) → IsMapOf v es
map_is (value.map entries) es k e = rw e (map_of entries)
map_is (value.leaf one) es k e = absurd (not_leaf one kinds.Map refl k)
map_is (value.unreadable type.f32) es k e = absurd (cc)
map_is (value.unreadable type.f64) es k e = absurd (cc)
map_is (value.unreadable type.unsupported) es k e = absurd (cc)
map_is _ es k e = absurd (cc)

-- ---- kinds without a tape

abbrev is_tapeless : WasmTypeKind → Bool
is_tapeless kinds.F32 = true
is_tapeless kinds.F64 = true
is_tapeless kinds.Unsupported = true
is_tapeless _ = false

-- a value of a kind without a tape
pub without_tape : (v : Value) (k : WasmTypeKind) → k ≡ kind_of v → (k ≡ kinds.F32) ⊎ ((k ≡ kinds.F64) ⊎ (k ≡ kinds.Unsupported)) → is_writable v ≡ false
without_tape v k e which = without v (ap is_tapeless (sym e) ∙ tapeless k which)
  where
    tapeless : (k : WasmTypeKind) → (k ≡ kinds.F32) ⊎ ((k ≡ kinds.F64) ⊎ (k ≡ kinds.Unsupported)) → is_tapeless k ≡ true
    tapeless k (inl is) = ap is_tapeless is
    tapeless k (inr (inl is)) = ap is_tapeless is
    tapeless k (inr (inr is)) = ap is_tapeless is

    without : (v : Value) → is_tapeless (kind_of v) ≡ true → is_writable v ≡ false
    without (value.unreadable kind) h = refl
    without (value.leaf (value.bool b)) h = cc
    without (value.leaf (value.whole type.s8 z)) h = cc
    without (value.leaf (value.whole type.s16 z)) h = cc
    without (value.leaf (value.whole type.s32 z)) h = cc
    without (value.leaf (value.whole type.s64 z)) h = cc
    without (value.leaf (value.whole type.u8 z)) h = cc
    without (value.leaf (value.whole type.u16 z)) h = cc
    without (value.leaf (value.whole type.u32 z)) h = cc
    without (value.leaf (value.whole type.u64 z)) h = cc
    without (value.leaf (value.char c)) h = cc
    without (value.leaf (value.string s)) h = cc
    without _ h = cc
