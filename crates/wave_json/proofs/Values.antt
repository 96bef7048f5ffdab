-- The tokens of a value and whether it has a text, by the lists of its parts.
use Rattle.std.proofs.Common.{◌≡◌, ℕ, Bool, true, false, if◌then◌else◌, List, [], ◌∷◌, ◌++◌, refl, sym, ap, ◌∙◌, append_assoc, map}
use Rattle.std.specs.List.{flat_map, list_all}
use Rattle.json.specs.Json as json
use Rattle.json.specs.Json.{Items, Members, no_items, item, no_members, member}
use Rattle.json.specs.Token.{Token}
use Rattle.json.specs.Tree.{json_tokens, items_tokens, members_tokens}
use Rattle.wave_wasm.specs.declared.wasm.WasmTypeKind.TheVariants as kinds
use Rattle.wave_wasm.specs.ConstructorContracts.{IsOfListKind}
use Rattle.wave_wasm.specs.Merge.{merged, merged_values, merged_fields}
use Rattle.wave_wasm.specs.Text.{has_text, is_no_option}
use Rattle.wave_wasm.specs.Types as type
use Rattle.wave_wasm.specs.Values as value
use Rattle.wave_wasm.specs.Values.{Leaf, Value, Values, FieldValues, Entries, no_value, a_value, no_values, value_and, no_fields, field, no_entries, entry, value_list, field_list, entry_list, list_items, tuple_items, record_fields, flags_names, map_entries, kind_of}
use Rattle.wave_wasm.proofs.CanonicalText.ValueParts.{not_leaf, list_sequence, tuple_sequence}
use Rattle.wave_json.specs.Mapping.{json_of, value_items, field_members, name_items}
use Rattle.wave_json.specs.Private.Writers.{array_tokens, object_tokens, value_tokens, field_tokens}

-- the value has these tokens, and a text where the test says so
pub record IsOf (v : Value) (ts : List Token) (has : Bool) : Type 0 where
  pub tokens_are : value_tokens v ≡ ts
  pub has_is : has_text v ≡ has

-- ---- items

items_flat : (vs : Values) → items_tokens (value_items (merged_values vs)) ≡ flat_map value_tokens (value_list vs) ++ Token.end_array ∷ []
items_flat no_values = refl
items_flat (value_and v more) = ap (λ (z : List Token). value_tokens v ++ z) (items_flat more) ∙ sym (append_assoc (value_tokens v) (flat_map value_tokens (value_list more)) (Token.end_array ∷ []))

array_is : (vs : Values) (items : List Value) → items ≡ value_list vs → Token.begin_array ∷ items_tokens (value_items (merged_values vs)) ≡ array_tokens (flat_map value_tokens items)
array_is vs items e = ap (λ (z : List Token). Token.begin_array ∷ z) (items_flat vs) ∙ ap (λ (l : List Value). array_tokens (flat_map value_tokens l)) (sym e)

pub list_array : (v : Value) (items : List Value) → IsOfListKind (kind_of v) → items ≡ list_items v → IsOf v (array_tokens (flat_map value_tokens items)) (list_all has_text items)
list_array v items k e = record { tokens_are = tokens v items k e; has_is = (list_sequence v items k e).writable_is }
  where
    tokens : (v : Value) (items : List Value) → IsOfListKind (kind_of v) → items ≡ list_items v → value_tokens v ≡ array_tokens (flat_map value_tokens items)
    tokens (value.list vs) items k e = array_is vs items e
    tokens (value.fixed vs) items k e = array_is vs items e
    tokens (value.leaf (value.bool b)) items k e = absurd k
    tokens (value.leaf (value.whole type.s8 z)) items k e = absurd k
    tokens (value.leaf (value.whole type.s16 z)) items k e = absurd k
    tokens (value.leaf (value.whole type.s32 z)) items k e = absurd k
    tokens (value.leaf (value.whole type.s64 z)) items k e = absurd k
    tokens (value.leaf (value.whole type.u8 z)) items k e = absurd k
    tokens (value.leaf (value.whole type.u16 z)) items k e = absurd k
    tokens (value.leaf (value.whole type.u32 z)) items k e = absurd k
    tokens (value.leaf (value.whole type.u64 z)) items k e = absurd k
    tokens (value.leaf (value.char c)) items k e = absurd k
    tokens (value.leaf (value.string s)) items k e = absurd k
    tokens (value.unreadable type.f32) items k e = absurd k
    tokens (value.unreadable type.f64) items k e = absurd k
    tokens (value.unreadable type.unsupported) items k e = absurd k
    tokens _ items k e = absurd k

pub tuple_array : (v : Value) (items : List Value) → kind_of v ≡ kinds.Tuple → items ≡ tuple_items v → IsOf v (array_tokens (flat_map value_tokens items)) (list_all has_text items)
tuple_array v items k e = record { tokens_are = tokens v items k e; has_is = (tuple_sequence v items k e).writable_is }
  where
    tokens : (v : Value) (items : List Value) → kind_of v ≡ kinds.Tuple → items ≡ tuple_items v → value_tokens v ≡ array_tokens (flat_map value_tokens items)
    tokens (value.tuple vs) items k e = array_is vs items e
    tokens (value.leaf one) items k e = absurd (not_leaf one kinds.Tuple refl k)
    tokens (value.unreadable type.f32) items k e = absurd (cc)
    tokens (value.unreadable type.f64) items k e = absurd (cc)
    tokens (value.unreadable type.unsupported) items k e = absurd (cc)
    tokens _ items k e = absurd (cc)

-- ---- fields

no_option_merged : (v : Value) → is_no_option (merged v) ≡ is_no_option v
no_option_merged (value.option no_value) = refl
no_option_merged (value.option (a_value v)) = refl
no_option_merged (value.leaf one) = refl
no_option_merged (value.unreadable kind) = refl
no_option_merged (value.list vs) = refl
no_option_merged (value.fixed vs) = refl
no_option_merged (value.record_value fs) = refl
no_option_merged (value.tuple vs) = refl
no_option_merged (value.variant name payload) = refl
no_option_merged (value.enum name) = refl
no_option_merged (value.ok payload) = refl
no_option_merged (value.err payload) = refl
no_option_merged (value.flags names) = refl
no_option_merged (value.map es) = refl

one_field : (none : Bool) (name : List ℕ) (ts : List Token) (j : json.Json) (ms : Members) (rest : List Token) → json_tokens j ≡ ts → members_tokens ms ≡ rest ++ Token.end_object ∷ []
    → members_tokens (if none then ms else member name j ms) ≡ ((if none then [] else Token.key name ∷ ts) ++ rest) ++ Token.end_object ∷ []
one_field true name ts j ms rest same e = e
one_field false name ts j ms rest same e =
    ap (λ (z : List Token). Token.key name ∷ (z ++ members_tokens ms)) same
    ∙ (ap (λ (z : List Token). Token.key name ∷ (ts ++ z)) e ∙ ap (λ (z : List Token). Token.key name ∷ z) (sym (append_assoc ts rest (Token.end_object ∷ []))))

fields_flat : (fs : FieldValues) → members_tokens (field_members (merged_fields fs)) ≡ flat_map field_tokens (field_list fs) ++ Token.end_object ∷ []
fields_flat no_fields = refl
fields_flat (field name v more) =
    ap (λ (b : Bool). members_tokens (if b then field_members (merged_fields more) else member name (json_of v) (field_members (merged_fields more)))) (no_option_merged v)
    ∙ one_field (is_no_option v) name (value_tokens v) (json_of v) (field_members (merged_fields more)) (flat_map field_tokens (field_list more)) refl (fields_flat more)

pub record_object : (v : Value) (fields : List (List ℕ × Value)) → kind_of v ≡ kinds.Record → fields ≡ record_fields v → value_tokens v ≡ object_tokens (flat_map field_tokens fields)
record_object (value.record_value fs) fields k e = ap (λ (z : List Token). Token.begin_object ∷ z) (fields_flat fs) ∙ ap (λ (l : List (List ℕ × Value)). object_tokens (flat_map field_tokens l)) (sym e)
record_object (value.leaf one) fields k e = absurd (not_leaf one kinds.Record refl k)
record_object (value.unreadable type.f32) fields k e = absurd (cc)
record_object (value.unreadable type.f64) fields k e = absurd (cc)
record_object (value.unreadable type.unsupported) fields k e = absurd (cc)
record_object _ fields k e = absurd (cc)

-- ---- flags

names_flat : (names : List (List ℕ)) → items_tokens (name_items names) ≡ map Token.string names ++ Token.end_array ∷ []
names_flat [] = refl
names_flat (name ∷ names) = ap (λ (z : List Token). Token.string name ∷ z) (names_flat names)

pub flags_array : (v : Value) (names : List (List ℕ)) → kind_of v ≡ kinds.Flags → names ≡ flags_names v → IsOf v (array_tokens (map Token.string names)) true
flags_array (value.flags ns) names k e = record { tokens_are = ap (λ (z : List Token). Token.begin_array ∷ z) (names_flat ns) ∙ ap (λ (l : List (List ℕ)). array_tokens (map Token.string l)) (sym e); has_is = refl }
flags_array (value.leaf one) names k e = absurd (not_leaf one kinds.Flags refl k)
flags_array (value.unreadable type.f32) names k e = absurd (cc)
flags_array (value.unreadable type.f64) names k e = absurd (cc)
flags_array (value.unreadable type.unsupported) names k e = absurd (cc)
flags_array _ names k e = absurd (cc)
