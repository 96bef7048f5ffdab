-- Worked examples: each row of a definition is met once. The words of kinds and causes, and `merge_map_entries`, are in the tests.
use Rattle.std.proofs.Common.{◌≡◌, ℕ, List, [], ◌∷◌, true, false, refl, sym, ◌∙◌, length, Some, None, pos, negsuc, map, inl, inr}
use Rattle.std.specs.Prelude.{codes}
use Rattle.std.specs.Fmt.{digits}
use Rattle.std.specs.Str.{chars}
use Rattle.ucd_category.proofs.Computing.{ucd_category}
use Rattle.wave_wasm.specs.Types as type
use Rattle.wave_wasm.specs.Types.{TypeTree}
use Rattle.wave_wasm.specs.Values as value
use Rattle.wave_wasm.specs.Values.{Leaf, Value, values, entries, field_values, no_value, a_value}
use Rattle.wave_wasm.specs.HasType.{HasType}
use Rattle.wave_wasm.specs.Merge.{merge, leaf_eq, distinct_keys, value_at_last}
use Rattle.wave_wasm.specs.Text.{text, has_text, is_escaped, escaped, arguments_text, results_text}
use Rattle.wave_wasm.specs.TypeText.{type_text, function_text}

abbrev a_u8 : ℕ → Value
a_u8 n = value.leaf (value.whole type.u8 (pos n))

abbrev yes : Value
yes = value.leaf (value.bool true)

abbrev a_map : List (Leaf × Value) → Value
a_map es = value.map (entries es)

-- ---- chars and strings

-- one scalar of each of the nine categories; the space and `a`
hidden : map is_escaped (0 ∷ 0xad ∷ 0xe000 ∷ 0x10ffff ∷ 0x2028 ∷ 0x2029 ∷ 0x301 ∷ 0x20dd ∷ 0xa0 ∷ 0x20 ∷ 97 ∷ []) ≡ true ∷ true ∷ true ∷ true ∷ true ∷ true ∷ true ∷ true ∷ true ∷ false ∷ false ∷ []
unfolding ucd_category
hidden = refl

scalars : map escaped (0x5c ∷ 0x22 ∷ 0x27 ∷ 0x09 ∷ 0x0d ∷ 0x0a ∷ 0x301 ∷ 0x1f44b ∷ []) ≡ codes "\\\\" ∷ codes "\\\"" ∷ codes "\\'" ∷ codes "\\t" ∷ codes "\\r" ∷ codes "\\n" ∷ codes "\\u{301}" ∷ (0xf0 ∷ 0x9f ∷ 0x91 ∷ 0x8b ∷ []) ∷ []
unfolding escaped digits ucd_category lib.Utf8.encode
scalars = refl

-- ---- values

values_written : map text (yes ∷ value.leaf (value.bool false) ∷ value.leaf (value.whole type.s64 (negsuc 9223372036854775807)) ∷ value.leaf (value.char 97) ∷ value.leaf (value.string (codes "it's")) ∷ value.list (values []) ∷ value.list (values (a_u8 1 ∷ a_u8 2 ∷ [])) ∷ value.fixed (values (yes ∷ [])) ∷ value.tuple (values (a_u8 1 ∷ yes ∷ [])) ∷ []) ≡ codes "true" ∷ codes "false" ∷ codes "-9223372036854775808" ∷ codes "'a'" ∷ codes "\"it\\'s\"" ∷ codes "[]" ∷ codes "[1, 2]" ∷ codes "[true]" ∷ codes "(1, true)" ∷ []
unfolding digits chars escaped ucd_category lib.Utf8.encode
values_written = refl

names : map text (value.enum (codes "not-found") ∷ value.enum (codes "some") ∷ value.variant (codes "off") no_value ∷ value.variant (codes "err") (a_value yes) ∷ value.flags [] ∷ value.flags (codes "read" ∷ codes "write" ∷ []) ∷ []) ≡ codes "not-found" ∷ codes "%some" ∷ codes "off" ∷ codes "%err(true)" ∷ codes "{}" ∷ codes "{read, write}" ∷ []
names = refl

payloads : map text (value.option no_value ∷ value.option (a_value (value.option no_value)) ∷ value.ok no_value ∷ value.ok (a_value yes) ∷ value.err no_value ∷ value.err (a_value yes) ∷ []) ≡ codes "none" ∷ codes "some(none)" ∷ codes "ok" ∷ codes "ok(true)" ∷ codes "err" ∷ codes "err(true)" ∷ []
payloads = refl

records : map (λ fs. text (value.record_value (field_values fs))) (((codes "a", value.option no_value) ∷ []) ∷ ((codes "ok", yes) ∷ (codes "b", value.option no_value) ∷ (codes "c", yes) ∷ []) ∷ []) ≡ codes "{:}" ∷ codes "{ok: true, c: true}" ∷ []
records = refl

unwritable : map has_text (value.list (values (value.unreadable type.f32 ∷ [])) ∷ value.option (a_value (value.unreadable type.f64)) ∷ value.record_value (field_values ((codes "a", value.unreadable type.unsupported) ∷ [])) ∷ a_map ((value.bool true, value.unreadable type.f32) ∷ []) ∷ yes ∷ []) ≡ false ∷ false ∷ false ∷ false ∷ true ∷ []
unwritable = refl

calls : arguments_text (yes ∷ yes ∷ []) ∷ map results_text ((yes ∷ yes ∷ []) ∷ (yes ∷ []) ∷ [] ∷ []) ≡ codes "(true, true)" ∷ codes "(true, true)" ∷ codes "true" ∷ codes "()" ∷ []
calls = refl

-- ---- merging

-- ("a", 1), ("b", 2), ("a", 3)
abbrev repeated : List (Leaf × Value)
repeated = (value.string (codes "a"), a_u8 1) ∷ (value.string (codes "b"), a_u8 2) ∷ (value.string (codes "a"), a_u8 3) ∷ []

merged_entries : (merge leaf_eq repeated ≡ (value.string (codes "a"), a_u8 3) ∷ (value.string (codes "b"), a_u8 2) ∷ []) × (distinct_keys leaf_eq repeated ≡ value.string (codes "a") ∷ value.string (codes "b") ∷ []) × (value_at_last leaf_eq (value.string (codes "a")) repeated ≡ Some (a_u8 3))
merged_entries = (refl, refl, refl)

-- maps within maps are merged
maps : map text (a_map [] ∷ a_map ((value.whole type.s8 (pos 0), yes) ∷ (value.whole type.s8 (pos 0), a_u8 2) ∷ []) ∷ a_map ((value.char 97, yes) ∷ (value.char 98, yes) ∷ []) ∷ value.list (values (a_map ((value.bool true, a_u8 1) ∷ (value.bool false, a_u8 2) ∷ (value.bool true, a_u8 3) ∷ []) ∷ [])) ∷ []) ≡ codes "{}" ∷ codes "{0: 2}" ∷ codes "{'a': true, 'b': true}" ∷ codes "[{true: 3, false: 2}]" ∷ []
unfolding digits escaped ucd_category lib.Utf8.encode
maps = refl

-- ---- types and functions

abbrev bool : TypeTree
bool = type.simple type.bool

types : map type_text (type.unreadable type.f64 ∷ type.list bool ∷ type.fixed bool 4 ∷ type.tuple (type.types_of (bool ∷ bool ∷ [])) ∷ type.enum (codes "ok" ∷ codes "no" ∷ []) ∷ type.flags (codes "a" ∷ []) ∷ type.map type.char (type.option bool) ∷ []) ≡ codes "f64" ∷ codes "list<bool>" ∷ codes "list<bool, 4>" ∷ codes "tuple<bool, bool>" ∷ codes "enum { ok, no }" ∷ codes "flags { a }" ∷ codes "map<char, option<bool>>" ∷ []
unfolding digits
types = refl

types_of_parts : map type_text (type.result type.no_type type.no_type ∷ type.result (type.a_type bool) type.no_type ∷ type.result type.no_type (type.a_type bool) ∷ type.result (type.a_type bool) (type.a_type bool) ∷ type.record_type (type.fields_of ((codes "a", bool) ∷ (codes "b", bool) ∷ [])) ∷ type.variant (type.cases_of ((codes "off", None) ∷ (codes "on", Some bool) ∷ [])) ∷ []) ≡ codes "result" ∷ codes "result<bool>" ∷ codes "result<_, bool>" ∷ codes "result<bool, bool>" ∷ codes "record { a: bool, b: bool }" ∷ codes "variant { off, on(bool) }" ∷ []
types_of_parts = refl

functions : map function_text (record { params = []; param_names = []; results = []; result_names = [] } ∷ record { params = bool ∷ bool ∷ []; param_names = codes "a" ∷ codes "b" ∷ []; results = bool ∷ []; result_names = [] } ∷ record { params = bool ∷ []; param_names = []; results = bool ∷ []; result_names = codes "n" ∷ [] } ∷ []) ≡ codes "func()" ∷ codes "func(a: bool, b: bool) -> bool" ∷ codes "func(bool) -> (n: bool)" ∷ []
functions = refl

-- ---- which values a type has

has_yes : HasType bool yes
has_yes = (value.bool true, (refl, tt), refl)

has_sequences : HasType (type.list bool) (value.list (values (yes ∷ []))) × HasType (type.tuple (type.type_and bool type.no_types)) (value.tuple (values (yes ∷ []))) × HasType (type.record_type (type.field (codes "a") bool type.no_fields)) (value.record_value (value.field (codes "a") yes value.no_fields)) × HasType (type.map type.bool bool) (a_map ((value.bool true, yes) ∷ []))
has_sequences = ((yes ∷ [], (has_yes, tt), refl), (yes ∷ [], (yes, [], has_yes, refl, refl), refl), (value.field (codes "a") yes value.no_fields, (yes, value.no_fields, has_yes, refl, refl), refl), ((value.bool true, yes) ∷ [], (((refl, tt), has_yes), tt), refl))

has_names : HasType (type.enum (codes "a" ∷ codes "b" ∷ [])) (value.enum (codes "b")) × HasType (type.flags (codes "a" ∷ codes "b" ∷ [])) (value.flags (codes "b" ∷ [])) × HasType (type.variant (type.cases_of ((codes "a", None) ∷ (codes "b", Some bool) ∷ []))) (value.variant (codes "b") (a_value yes))
has_names = ((codes "b", inr (inl refl), refl), (codes "b" ∷ [], inl (inr ([], refl, refl)), refl), (codes "b", a_value yes, inr (inl (refl, (yes, has_yes, refl))), refl))

has_payloads : HasType (type.option bool) (value.option no_value) × HasType (type.option bool) (value.option (a_value yes)) × HasType (type.result type.no_type type.no_type) (value.ok no_value) × HasType (type.result type.no_type (type.a_type bool)) (value.err (a_value yes))
has_payloads = (inl refl, inr (yes, has_yes, refl), inl (no_value, refl, refl), inr (a_value yes, (yes, has_yes, refl), refl))

has_none : (v : Value) → HasType (type.unreadable type.f32) v → ⊥
has_none v h = h

has_fixed : HasType (type.fixed bool 2) (value.fixed (values (yes ∷ yes ∷ []))) × HasType (type.fixed bool 0) (value.fixed (values []))
has_fixed = ((yes ∷ yes ∷ [], (has_yes, (has_yes, tt)), refl, refl), ([], tt, refl, refl))

-- one item is not two, and a list is no fixed-length list
fixed_refused : (vs : List Value) → (length vs ≡ 2 → length vs ≡ 1 → ⊥) × (HasType (type.fixed bool 1) (value.list (values (yes ∷ []))) → ⊥)
fixed_refused vs = (λ two one. absurd (cc (sym two ∙ one)), λ h. absurd (cc h.3))
