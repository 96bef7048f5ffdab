-- The text and the depth of a type, by the lists of its parts.
use Rattle.std.proofs.Common.{ℕ, suc, ◌≡◌, List, ◌∷◌, ◌++◌, refl, sym, ap, ◌∙◌, map, max, codes, Option}
use Rattle.wave_wasm.specs.declared.wasm.WasmTypeKind.TheVariants as kinds
use Rattle.wave_wasm.specs.Types as type
use Rattle.wave_wasm.specs.Types.{TypeTree, Simple, Types, Fields, Cases, MaybeType, simple_kind, kind_of, maybe_type, type_option, type_list, field_list, case_list, list_part, option_part, map_parts, result_parts, record_parts, tuple_parts, variant_parts, enum_names, flags_names}
use Rattle.wave_wasm.specs.Types.{depth, depth_of_maybe, depth_of_types, depth_of_fields, depth_of_cases}
use Rattle.wave_wasm.specs.Commas.{behind_name, joined}
use Rattle.wave_wasm.specs.TypeText.{type_text, type_texts, field_texts, case_texts, payload_text, angled, braced}
use Rattle.wave_wasm.proofs.CanonicalText.Sequences.{depths}
use Rattle.wave_wasm.proofs.TypesOfValues.TypeOfKind.{not_simple}

-- ---- types of many parts

-- the text and the depth of a type by the list of its parts
pub record IsBuilt {X : Type 0} (one : X → List ℕ) (deep : X → ℕ) (whole : List (List ℕ) → List ℕ) (t : TypeTree) (parts : List X) : Type 0 where
  pub text_is : type_text t ≡ whole (map one parts)
  pub depth_is : depth t ≡ suc (depths deep parts)

types_text : (Ts : Types) → type_texts Ts ≡ map type_text (type_list Ts)
types_text type.no_types = refl
types_text (type.type_and T more) = ap (λ z. type_text T ∷ z) (types_text more)

types_depth : (Ts : Types) → depth_of_types Ts ≡ depths depth (type_list Ts)
types_depth type.no_types = refl
types_depth (type.type_and T more) = ap (λ n. max (depth T) n) (types_depth more)

-- a tuple type
pub tuple_is : (t : TypeTree) (parts : List TypeTree) → kind_of t ≡ kinds.Tuple → parts ≡ tuple_parts t → IsBuilt type_text depth (λ ss. angled (codes "tuple") (joined ss)) t parts
tuple_is (type.tuple Ts) parts k e = record {
  text_is = ap (λ z. angled (codes "tuple") (joined z)) (types_text Ts ∙ ap (map type_text) (sym e));
  depth_is = ap suc (types_depth Ts ∙ ap (depths depth) (sym e));
}
tuple_is (type.simple S) parts k e = absurd (not_simple kinds.Tuple S (sym k) refl)
tuple_is (type.unreadable type.f32) parts k e = absurd (cc)
tuple_is (type.unreadable type.f64) parts k e = absurd (cc)
tuple_is (type.unreadable type.unsupported) parts k e = absurd (cc)
tuple_is _ parts k e = absurd (cc)

-- `a: T`
abbrev pub field_text : List ℕ × TypeTree → List ℕ
field_text f = behind_name f.0 (type_text f.1)

-- how deep a field nests
abbrev pub field_depth : List ℕ × TypeTree → ℕ
field_depth f = depth f.1

fields_text : (fs : Fields) → field_texts fs ≡ map field_text (field_list fs)
fields_text type.no_fields = refl
fields_text (type.field name T more) = ap (λ z. behind_name name (type_text T) ∷ z) (fields_text more)

fields_depth : (fs : Fields) → depth_of_fields fs ≡ depths field_depth (field_list fs)
fields_depth type.no_fields = refl
fields_depth (type.field name T more) = ap (λ n. max (depth T) n) (fields_depth more)

-- a record type
pub record_is : (t : TypeTree) (parts : List (List ℕ × TypeTree)) → kind_of t ≡ kinds.Record → parts ≡ record_parts t → IsBuilt field_text field_depth (braced (codes "record")) t parts
record_is (type.record_type fs) parts k e = record {
  text_is = ap (braced (codes "record")) (fields_text fs ∙ ap (map field_text) (sym e));
  depth_is = ap suc (fields_depth fs ∙ ap (depths field_depth) (sym e));
}
record_is (type.simple S) parts k e = absurd (not_simple kinds.Record S (sym k) refl)
record_is (type.unreadable type.f32) parts k e = absurd (cc)
record_is (type.unreadable type.f64) parts k e = absurd (cc)
record_is (type.unreadable type.unsupported) parts k e = absurd (cc)
record_is _ parts k e = absurd (cc)

-- `a` or `a(T)`
abbrev pub case_text : List ℕ × Option TypeTree → List ℕ
case_text c = c.0 ++ payload_text (maybe_type c.1)

-- how deep a case nests
abbrev pub case_depth : List ℕ × Option TypeTree → ℕ
case_depth c = depth_of_maybe (maybe_type c.1)

option_back : (payload : MaybeType) → maybe_type (type_option payload) ≡ payload
option_back type.no_type = refl
option_back (type.a_type T) = refl

cases_text : (cs : Cases) → case_texts cs ≡ map case_text (case_list cs)
cases_text type.no_cases = refl
cases_text (type.case_of name payload more) = λ i. (name ++ payload_text (sym (option_back payload) i)) ∷ cases_text more i

cases_depth : (cs : Cases) → depth_of_cases cs ≡ depths case_depth (case_list cs)
cases_depth type.no_cases = refl
cases_depth (type.case_of name payload more) = λ i. max (depth_of_maybe (sym (option_back payload) i)) (cases_depth more i)

-- a variant type
pub variant_is : (t : TypeTree) (parts : List (List ℕ × Option TypeTree)) → kind_of t ≡ kinds.Variant → parts ≡ variant_parts t → IsBuilt case_text case_depth (braced (codes "variant")) t parts
variant_is (type.variant cs) parts k e = record {
  text_is = ap (braced (codes "variant")) (cases_text cs ∙ ap (map case_text) (sym e));
  depth_is = ap suc (cases_depth cs ∙ ap (depths case_depth) (sym e));
}
variant_is (type.simple S) parts k e = absurd (not_simple kinds.Variant S (sym k) refl)
variant_is (type.unreadable type.f32) parts k e = absurd (cc)
variant_is (type.unreadable type.f64) parts k e = absurd (cc)
variant_is (type.unreadable type.unsupported) parts k e = absurd (cc)
variant_is _ parts k e = absurd (cc)
