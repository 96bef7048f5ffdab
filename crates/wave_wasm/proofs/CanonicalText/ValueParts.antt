-- The text, the depth and the writability of a value, by the lists of its parts.
use Rattle.std.proofs.Common.{ℕ, suc, ◌≡◌, List, [], ◌∷◌, ◌++◌, Bool, true, false, ◌&&◌, ◌⊎◌, inl, inr, cond, if◌then◌else◌, refl, sym, ap, ◌∙◌, map, max, codes, append_assoc, subst, Option, Some, None}
use Rattle.std.specs.List.{list_all}
use Rattle.wave_wasm.specs.declared.wasm.WasmTypeKind.{WasmTypeKind}
use Rattle.wave_wasm.specs.declared.wasm.WasmTypeKind.TheVariants as kinds
use Rattle.wave_wasm.specs.Types as type
use Rattle.wave_wasm.specs.Types.{simple_kind}
use Rattle.wave_wasm.specs.Values as value
use Rattle.wave_wasm.specs.Values.{Leaf, Value, Values, FieldValues, no_value, a_value, no_values, value_and, no_fields, field, value_list, field_list, list_items, tuple_items, record_fields, maybe_value, kind_of, leaf_type}
use Rattle.wave_wasm.specs.Values.{depth, depth_of_values, depth_of_fields}
use Rattle.wave_wasm.specs.ConstructorContracts.{IsOfListKind}
use Rattle.wave_wasm.specs.Keywords.{case_label}
use Rattle.wave_wasm.specs.Commas.{followed, behind_name, enclosed}
use Rattle.wave_wasm.specs.Merge.{merged, merged_values, merged_fields}
use Rattle.wave_wasm.specs.Text.{text, has_text, printed_items, printed_fields, are_writable, are_writable_fields, is_no_option, record_text}
use Rattle.wave_wasm.specs.TextParts.{payload_text, has_payload_text}
use Rattle.wave_wasm.proofs.CanonicalText.Sequences.{depths}

-- ---- a leaf is of a kind of leaves

-- the kinds of leaves
abbrev is_leaf_kind : WasmTypeKind → Bool
is_leaf_kind kinds.Bool = true
is_leaf_kind kinds.S8 = true
is_leaf_kind kinds.S16 = true
is_leaf_kind kinds.S32 = true
is_leaf_kind kinds.S64 = true
is_leaf_kind kinds.U8 = true
is_leaf_kind kinds.U16 = true
is_leaf_kind kinds.U32 = true
is_leaf_kind kinds.U64 = true
is_leaf_kind kinds.Char = true
is_leaf_kind kinds.String = true
is_leaf_kind _ = false

-- the kinds of what can be written
abbrev is_readable_kind : WasmTypeKind → Bool
is_readable_kind kinds.F32 = false
is_readable_kind kinds.F64 = false
is_readable_kind kinds.Unsupported = false
is_readable_kind _ = true

leaf_has_kind : (one : Leaf) → is_leaf_kind (simple_kind (leaf_type one)) ≡ true
leaf_has_kind (value.bool b) = refl
leaf_has_kind (value.whole type.s8 z) = refl
leaf_has_kind (value.whole type.s16 z) = refl
leaf_has_kind (value.whole type.s32 z) = refl
leaf_has_kind (value.whole type.s64 z) = refl
leaf_has_kind (value.whole type.u8 z) = refl
leaf_has_kind (value.whole type.u16 z) = refl
leaf_has_kind (value.whole type.u32 z) = refl
leaf_has_kind (value.whole type.u64 z) = refl
leaf_has_kind (value.char c) = refl
leaf_has_kind (value.string s) = refl

-- a leaf is of no other kind
pub not_leaf : (one : Leaf) (k : WasmTypeKind) → is_leaf_kind k ≡ false → simple_kind (leaf_type one) ≡ k → ⊥
not_leaf one k h e = let t = leaf_has_kind one in let s = ap is_leaf_kind e in cc

-- no leaf is a list
not_list : (one : Leaf) → IsOfListKind (simple_kind (leaf_type one)) → ⊥
not_list (value.bool b) h = h
not_list (value.whole type.s8 z) h = h
not_list (value.whole type.s16 z) h = h
not_list (value.whole type.s32 z) h = h
not_list (value.whole type.s64 z) h = h
not_list (value.whole type.u8 z) h = h
not_list (value.whole type.u16 z) h = h
not_list (value.whole type.u32 z) h = h
not_list (value.whole type.u64 z) h = h
not_list (value.char c) h = h
not_list (value.string s) h = h

-- ---- two maps in turn

-- a map of a map
pub map_map : {X Y Z : Type 0} (g : Y → Z) (f : X → Y) (xs : List X) → map g (map f xs) ≡ map (λ x. g (f x)) xs
map_map g f [] = refl
map_map g f (x ∷ xs) = ap (λ z. g (f x) ∷ z) (map_map g f xs)

-- a test of all of a map
pub all_map : {X Y : Type 0} (ok : Y → Bool) (f : X → Y) (xs : List X) → list_all ok (map f xs) ≡ list_all (λ x. ok (f x)) xs
all_map ok f [] = refl
all_map ok f (x ∷ xs) = ap (λ b. ok (f x) && b) (all_map ok f xs)

-- ---- lists and tuples

items_texts : (vs : Values) → printed_items (merged_values vs) ≡ map text (value_list vs)
items_texts no_values = refl
items_texts (value_and v more) = ap (λ z. text v ∷ z) (items_texts more)

items_writable : (vs : Values) → are_writable (merged_values vs) ≡ list_all has_text (value_list vs)
items_writable no_values = refl
items_writable (value_and v more) = ap (λ b. has_text v && b) (items_writable more)

items_depth : (vs : Values) → depth_of_values vs ≡ depths depth (value_list vs)
items_depth no_values = refl
items_depth (value_and v more) = ap (λ n. max (depth v) n) (items_depth more)

-- the value is these items between a start and an end
pub record IsSequence (start end : List ℕ) (v : Value) (items : List Value) : Type 0 where
  pub text_is : text v ≡ enclosed start (map text items) end
  pub writable_is : has_text v ≡ list_all has_text items
  pub depth_is : depth v ≡ suc (depths depth items)

sequence_of : (start end : List ℕ) (vs : Values) (v : Value) → text v ≡ enclosed start (printed_items (merged_values vs)) end → has_text v ≡ are_writable (merged_values vs) → depth v ≡ suc (depth_of_values vs) → (items : List Value) → items ≡ value_list vs → IsSequence start end v items
sequence_of start end vs v t w d items e = record {
  text_is = t ∙ (ap (λ z. enclosed start z end) (items_texts vs) ∙ ap (λ z. enclosed start (map text z) end) (sym e));
  writable_is = w ∙ (items_writable vs ∙ ap (list_all has_text) (sym e));
  depth_is = d ∙ (ap suc (items_depth vs) ∙ ap (λ z. suc (depths depth z)) (sym e));
}

pub list_sequence : (v : Value) (items : List Value) → IsOfListKind (kind_of v) → items ≡ list_items v → IsSequence (codes "[") (codes "]") v items
list_sequence (value.list vs) items k e = sequence_of _ _ vs (value.list vs) refl refl refl items e
list_sequence (value.fixed vs) items k e = sequence_of _ _ vs (value.fixed vs) refl refl refl items e
list_sequence (value.leaf one) items k e = absurd (not_list one k)
list_sequence (value.unreadable type.f32) items k e = absurd k
list_sequence (value.unreadable type.f64) items k e = absurd k
list_sequence (value.unreadable type.unsupported) items k e = absurd k
list_sequence _ items k e = absurd k

pub tuple_sequence : (v : Value) (items : List Value) → kind_of v ≡ kinds.Tuple → items ≡ tuple_items v → IsSequence (codes "(") (codes ")") v items
tuple_sequence (value.tuple vs) items k e = sequence_of _ _ vs (value.tuple vs) refl refl refl items e
tuple_sequence (value.leaf one) items k e = absurd (not_leaf one kinds.Tuple refl k)
tuple_sequence (value.unreadable type.f32) items k e = absurd (cc)
tuple_sequence (value.unreadable type.f64) items k e = absurd (cc)
tuple_sequence (value.unreadable type.unsupported) items k e = absurd (cc)
tuple_sequence _ items k e = absurd (cc)

-- ---- records

-- merging leaves a value `none` or not
none_merged : (v : Value) → is_no_option (merged v) ≡ is_no_option v
none_merged (value.option no_value) = refl
none_merged (value.option (a_value v)) = refl
none_merged (value.leaf one) = refl
none_merged (value.unreadable kind) = refl
none_merged (value.list vs) = refl
none_merged (value.fixed vs) = refl
none_merged (value.record_value fs) = refl
none_merged (value.tuple vs) = refl
none_merged (value.variant name payload) = refl
none_merged (value.enum name) = refl
none_merged (value.ok payload) = refl
none_merged (value.err payload) = refl
none_merged (value.flags names) = refl
none_merged (value.map es) = refl

-- what is left of a record's text at these fields
abbrev pub fields_left : Bool → List (List ℕ × Value) → List ℕ
fields_left later [] = cond later (codes "}") (codes "{:}")
fields_left later (f ∷ fs) = if is_no_option f.1 then fields_left later fs else cond later (codes ", ") (codes "{") ++ (f.0 ++ (codes ": " ++ (text f.1 ++ fields_left true fs)))

behind_commas : (b : Bool) (name t : List ℕ) (rest : List (List ℕ)) (left : List ℕ) → left ≡ followed rest ++ codes "}" → (if b then left else codes ", " ++ (name ++ (codes ": " ++ (t ++ left)))) ≡ followed (if b then rest else behind_name name t ∷ rest) ++ codes "}"
behind_commas true name t rest left e = e
behind_commas false name t rest left e =
    ap (λ z. codes ", " ++ (name ++ (codes ": " ++ (t ++ z)))) e ∙ sym (append_assoc (codes ", ") (behind_name name t ++ followed rest) (codes "}") ∙ ap (λ z. codes ", " ++ z) (append_assoc (behind_name name t) (followed rest) (codes "}") ∙ (append_assoc name (codes ": " ++ t) (followed rest ++ codes "}") ∙ ap (λ z. name ++ z) (append_assoc (codes ": ") t (followed rest ++ codes "}")))))

later_fields : (fs : FieldValues) → fields_left true (field_list fs) ≡ followed (printed_fields (merged_fields fs)) ++ codes "}"
later_fields no_fields = refl
later_fields (field name v more) = rw (none_merged v) (behind_commas (is_no_option v) name (text v) (printed_fields (merged_fields more)) (fields_left true (field_list more)) (later_fields more))

in_front : (b : Bool) (name t : List ℕ) (rest : List (List ℕ)) (left first : List ℕ) → first ≡ record_text rest → left ≡ followed rest ++ codes "}" → (if b then first else codes "{" ++ (name ++ (codes ": " ++ (t ++ left)))) ≡ record_text (if b then rest else behind_name name t ∷ rest)
in_front true name t rest left first e h = e
in_front false name t rest left first e h =
    ap (λ z. codes "{" ++ (name ++ (codes ": " ++ (t ++ z)))) h ∙ sym (ap (λ z. codes "{" ++ z) (append_assoc (behind_name name t) (followed rest) (codes "}") ∙ (append_assoc name (codes ": " ++ t) (followed rest ++ codes "}") ∙ ap (λ z. name ++ z) (append_assoc (codes ": ") t (followed rest ++ codes "}")))))

first_fields : (fs : FieldValues) → fields_left false (field_list fs) ≡ record_text (printed_fields (merged_fields fs))
first_fields no_fields = refl
first_fields (field name v more) = rw (none_merged v) (in_front (is_no_option v) name (text v) (printed_fields (merged_fields more)) (fields_left true (field_list more)) (fields_left false (field_list more)) (first_fields more) (later_fields more))

fields_writable : (fs : FieldValues) → are_writable_fields (merged_fields fs) ≡ list_all (λ (f : List ℕ × Value). has_text f.1) (field_list fs)
fields_writable no_fields = refl
fields_writable (field name v more) = ap (λ b. has_text v && b) (fields_writable more)

fields_depth : (fs : FieldValues) → depth_of_fields fs ≡ depths (λ (f : List ℕ × Value). depth f.1) (field_list fs)
fields_depth no_fields = refl
fields_depth (field name v more) = ap (λ n. max (depth v) n) (fields_depth more)

-- the value is a record of these fields
pub record IsRecord (v : Value) (fields : List (List ℕ × Value)) : Type 0 where
  pub text_is : text v ≡ fields_left false fields
  pub writable_is : has_text v ≡ list_all (λ (f : List ℕ × Value). has_text f.1) fields
  pub depth_is : depth v ≡ suc (depths (λ (f : List ℕ × Value). depth f.1) fields)

pub record_is : (v : Value) (fields : List (List ℕ × Value)) → kind_of v ≡ kinds.Record → fields ≡ record_fields v → IsRecord v fields
record_is (value.record_value fs) fields k e = record {
  text_is = sym (first_fields fs) ∙ ap (fields_left false) (sym e);
  writable_is = fields_writable fs ∙ ap (list_all (λ (f : List ℕ × Value). has_text f.1)) (sym e);
  depth_is = ap suc (fields_depth fs) ∙ ap (λ z. suc (depths (λ (f : List ℕ × Value). depth f.1) z)) (sym e);
}
record_is (value.leaf one) fields k e = absurd (not_leaf one kinds.Record refl k)
record_is (value.unreadable type.f32) fields k e = absurd (cc)
record_is (value.unreadable type.f64) fields k e = absurd (cc)
record_is (value.unreadable type.unsupported) fields k e = absurd (cc)
record_is _ fields k e = absurd (cc)

-- ---- payloads

-- a case with its payload
pub variant_text : (name : List ℕ) (payload : Option Value) → text (value.variant name (maybe_value payload)) ≡ case_label name ++ payload_text payload
variant_text name None = refl
variant_text name (Some v) = refl

pub variant_writable : (name : List ℕ) (payload : Option Value) → has_text (value.variant name (maybe_value payload)) ≡ has_payload_text payload
variant_writable name None = refl
variant_writable name (Some v) = refl

-- `ok` with its payload
pub ok_text : (payload : Option Value) → text (value.ok (maybe_value payload)) ≡ codes "ok" ++ payload_text payload
ok_text None = refl
ok_text (Some v) = refl

pub ok_writable : (payload : Option Value) → has_text (value.ok (maybe_value payload)) ≡ has_payload_text payload
ok_writable None = refl
ok_writable (Some v) = refl

-- `err` with its payload
pub err_text : (payload : Option Value) → text (value.err (maybe_value payload)) ≡ codes "err" ++ payload_text payload
err_text None = refl
err_text (Some v) = refl

pub err_writable : (payload : Option Value) → has_text (value.err (maybe_value payload)) ≡ has_payload_text payload
err_writable None = refl
err_writable (Some v) = refl

-- a value of a kind without text can't be written
no_text : (v : Value) → is_readable_kind (kind_of v) ≡ false → has_text v ≡ false
no_text (value.unreadable kind) h = refl
no_text (value.leaf (value.bool b)) h = cc
no_text (value.leaf (value.whole type.s8 z)) h = cc
no_text (value.leaf (value.whole type.s16 z)) h = cc
no_text (value.leaf (value.whole type.s32 z)) h = cc
no_text (value.leaf (value.whole type.s64 z)) h = cc
no_text (value.leaf (value.whole type.u8 z)) h = cc
no_text (value.leaf (value.whole type.u16 z)) h = cc
no_text (value.leaf (value.whole type.u32 z)) h = cc
no_text (value.leaf (value.whole type.u64 z)) h = cc
no_text (value.leaf (value.char c)) h = cc
no_text (value.leaf (value.string s)) h = cc
no_text _ h = cc

-- such a value is of one of three kinds
pub no_text_of_kind : (v : Value) (k : WasmTypeKind) → k ≡ kind_of v → (k ≡ kinds.F32) ⊎ ((k ≡ kinds.F64) ⊎ (k ≡ kinds.Unsupported)) → has_text v ≡ false
no_text_of_kind v k e (inl is) = no_text v (ap is_readable_kind (sym e ∙ is))
no_text_of_kind v k e (inr (inl is)) = no_text v (ap is_readable_kind (sym e ∙ is))
no_text_of_kind v k e (inr (inr is)) = no_text v (ap is_readable_kind (sym e ∙ is))

-- a kind of lists, by the arm that names them
pub of_list_kind : (v : Value) (k : WasmTypeKind) → k ≡ kind_of v → (k ≡ kinds.List) ⊎ (k ≡ kinds.FixedLengthList) → IsOfListKind (kind_of v)
of_list_kind v k e (inl is) = subst IsOfListKind (sym is ∙ e) tt
of_list_kind v k e (inr is) = subst IsOfListKind (sym is ∙ e) tt
