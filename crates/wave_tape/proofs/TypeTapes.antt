-- The bytes of a type and whether it has a tape, by the lists of its parts.
use Rattle.std.proofs.Common.{◌≡◌, ℕ, ◌^◌, ◌<◌, ◌&&◌, Bool, true, false, List, [], ◌∷◌, ◌++◌, length, Option, refl, sym, ap, subst, ◌∙◌, append_assoc}
use Rattle.std.specs.List.{flat_map, list_all}
use Rattle.std.proofs.lemmas.Bool.{lt-ltb}
use Rattle.wave_wasm.specs.declared.wasm.WasmTypeKind.{WasmTypeKind}
use Rattle.wave_wasm.specs.declared.wasm.WasmTypeKind.TheVariants as kinds
use Rattle.wave_wasm.specs.Types as type
use Rattle.wave_wasm.specs.Types.{TypeTree, MaybeType, Types, Fields, Cases, Simple, no_type, a_type, no_types, type_and, no_cases, case_of, simple_kind, kind_of, type_list, field_list, case_list, type_option, maybe_type, tuple_parts, record_parts, variant_parts, enum_names, flags_names, every, every_maybe, every_type, every_field, every_case, depth, depth_of_maybe}
use Rattle.wave_wasm.proofs.TypesOfValues.TypeOfKind.{not_simple, simple_is}
use Rattle.wave_tape.specs.Tape.{count_bytes, text_bytes, name_bytes}
use Rattle.wave_tape.specs.TypeTape.{simple_byte, type_bytes, payload_type_bytes, item_type_bytes, field_type_bytes, case_type_bytes, is_told, has_type_tape}
use Rattle.wave_tape.proofs.TypeParts.{tuple_type, record_type, IsMapType}

-- the type has these bytes, and a tape where the test says so
pub record IsTold (T : TypeTree) (bytes : List ℕ) (has : Bool) : Type 0 where
  pub bytes_are : type_bytes T ≡ bytes
  pub has_is : has_type_tape T ≡ has

-- ---- a tuple

pub items_flat : (Ts : Types) → item_type_bytes Ts ≡ flat_map type_bytes (type_list Ts)
items_flat no_types = refl
items_flat (type_and T more) = ap (λ (z : List ℕ). type_bytes T ++ z) (items_flat more)

items_have : (Ts : Types) → every_type is_told Ts ≡ list_all has_type_tape (type_list Ts)
items_have no_types = refl
items_have (type_and T more) = ap (λ (b : Bool). has_type_tape T && b) (items_have more)

tuple_of : (Ts : Types) (items : List TypeTree) → items ≡ type_list Ts → IsTold (type.tuple Ts) (13 ∷ (count_bytes (length items) ++ flat_map type_bytes items)) (list_all has_type_tape items)
tuple_of Ts items e = rw e (record { bytes_are = ap (λ (z : List ℕ). 13 ∷ (count_bytes (length (type_list Ts)) ++ z)) (items_flat Ts); has_is = items_have Ts })

pub tuple_tape : (T : TypeTree) (items : List TypeTree) → kind_of T ≡ kinds.Tuple → items ≡ tuple_parts T → IsTold T (13 ∷ (count_bytes (length items) ++ flat_map type_bytes items)) (list_all has_type_tape items)
tuple_tape T items k e =
    let t = tuple_type T items k e in
    subst (λ (U : TypeTree). IsTold U (13 ∷ (count_bytes (length items) ++ flat_map type_bytes items)) (list_all has_type_tape items)) (sym t.is) (tuple_of t.types items t.parts_are)

-- ---- a record

abbrev pub one_field : List ℕ × TypeTree → List ℕ
one_field f = text_bytes f.0 ++ type_bytes f.1

abbrev pub has_field : List ℕ × TypeTree → Bool
has_field f = has_type_tape f.1

pub fields_flat : (fs : Fields) → field_type_bytes fs ≡ flat_map one_field (field_list fs)
fields_flat type.no_fields = refl
fields_flat (type.field name T more) =
    ap (λ (z : List ℕ). text_bytes name ++ (type_bytes T ++ z)) (fields_flat more)
    ∙ sym (append_assoc (text_bytes name) (type_bytes T) (flat_map one_field (field_list more)))

fields_have : (fs : Fields) → every_field is_told fs ≡ list_all has_field (field_list fs)
fields_have type.no_fields = refl
fields_have (type.field name T more) = ap (λ (b : Bool). has_type_tape T && b) (fields_have more)

record_of : (fs : Fields) (fields : List (List ℕ × TypeTree)) → fields ≡ field_list fs → IsTold (type.record_type fs) (14 ∷ (count_bytes (length fields) ++ flat_map one_field fields)) (list_all has_field fields)
record_of fs fields e = rw e (record { bytes_are = ap (λ (z : List ℕ). 14 ∷ (count_bytes (length (field_list fs)) ++ z)) (fields_flat fs); has_is = fields_have fs })

pub record_tape : (T : TypeTree) (fields : List (List ℕ × TypeTree)) → kind_of T ≡ kinds.Record → fields ≡ record_parts T → IsTold T (14 ∷ (count_bytes (length fields) ++ flat_map one_field fields)) (list_all has_field fields)
record_tape T fields k e =
    let t = record_type T fields k e in
    subst (λ (U : TypeTree). IsTold U (14 ∷ (count_bytes (length fields) ++ flat_map one_field fields)) (list_all has_field fields)) (sym t.is) (record_of t.fields fields t.parts_are)

-- ---- a variant

abbrev pub one_case : List ℕ × Option TypeTree → List ℕ
one_case c = text_bytes c.0 ++ payload_type_bytes (maybe_type c.1)

abbrev pub has_case : List ℕ × Option TypeTree → Bool
has_case c = every_maybe is_told (maybe_type c.1)

payload_back : (P : MaybeType) → maybe_type (type_option P) ≡ P
payload_back no_type = refl
payload_back (a_type T) = refl

cases_flat : (cs : Cases) → case_type_bytes cs ≡ flat_map one_case (case_list cs)
cases_flat no_cases = refl
cases_flat (case_of name payload more) =
    ap (λ (P : MaybeType). text_bytes name ++ (payload_type_bytes P ++ case_type_bytes more)) (sym (payload_back payload))
    ∙ (ap (λ (z : List ℕ). text_bytes name ++ (payload_type_bytes (maybe_type (type_option payload)) ++ z)) (cases_flat more)
    ∙ sym (append_assoc (text_bytes name) (payload_type_bytes (maybe_type (type_option payload))) (flat_map one_case (case_list more))))

cases_have : (cs : Cases) → every_case is_told cs ≡ list_all has_case (case_list cs)
cases_have no_cases = refl
cases_have (case_of name payload more) =
    ap (λ (P : MaybeType). every_maybe is_told P && every_case is_told more) (sym (payload_back payload))
    ∙ ap (λ (b : Bool). every_maybe is_told (maybe_type (type_option payload)) && b) (cases_have more)

pub variant_tape : (T : TypeTree) (cases : List (List ℕ × Option TypeTree)) → kind_of T ≡ kinds.Variant → cases ≡ variant_parts T → IsTold T (15 ∷ (count_bytes (length cases) ++ flat_map one_case cases)) (list_all has_case cases)
variant_tape (type.variant cs) cases k e = rw e (record { bytes_are = ap (λ (z : List ℕ). 15 ∷ (count_bytes (length (case_list cs)) ++ z)) (cases_flat cs); has_is = cases_have cs })
variant_tape (type.simple S) cases k e = absurd (not_simple kinds.Variant S (sym k) refl)
variant_tape (type.unreadable type.f32) cases k e = absurd (cc)
variant_tape (type.unreadable type.f64) cases k e = absurd (cc)
variant_tape (type.unreadable type.unsupported) cases k e = absurd (cc)
variant_tape _ cases k e = absurd (cc)

-- ---- names

pub enum_tape : (T : TypeTree) (names : List (List ℕ)) → kind_of T ≡ kinds.Enum → names ≡ enum_names T → IsTold T (16 ∷ (count_bytes (length names) ++ name_bytes names)) true
enum_tape (type.enum ns) names k e = rw e (record { bytes_are = refl; has_is = refl })
enum_tape (type.simple S) names k e = absurd (not_simple kinds.Enum S (sym k) refl)
enum_tape (type.unreadable type.f32) names k e = absurd (cc)
enum_tape (type.unreadable type.f64) names k e = absurd (cc)
enum_tape (type.unreadable type.unsupported) names k e = absurd (cc)
enum_tape _ names k e = absurd (cc)

pub flags_tape : (T : TypeTree) (names : List (List ℕ)) → kind_of T ≡ kinds.Flags → names ≡ flags_names T → IsTold T (19 ∷ (count_bytes (length names) ++ name_bytes names)) true
flags_tape (type.flags ns) names k e = rw e (record { bytes_are = refl; has_is = refl })
flags_tape (type.simple S) names k e = absurd (not_simple kinds.Flags S (sym k) refl)
flags_tape (type.unreadable type.f32) names k e = absurd (cc)
flags_tape (type.unreadable type.f64) names k e = absurd (cc)
flags_tape (type.unreadable type.unsupported) names k e = absurd (cc)
flags_tape _ names k e = absurd (cc)

-- ---- kinds without parts

pub simple_tape : (S : Simple) (T : TypeTree) → simple_kind S ≡ kind_of T → IsTold T (simple_byte S ∷ []) true
simple_tape S T e = rw (simple_is S T e) (record { bytes_are = refl; has_is = refl })

abbrev is_unreadable : WasmTypeKind → Bool
is_unreadable kinds.F32 = true
is_unreadable kinds.F64 = true
is_unreadable kinds.Unsupported = true
is_unreadable _ = false

simple_apart : (S : Simple) → is_unreadable (simple_kind S) ≡ true → ⊥
simple_apart type.bool h = absurd (cc)
simple_apart (type.whole type.s8) h = absurd (cc)
simple_apart (type.whole type.s16) h = absurd (cc)
simple_apart (type.whole type.s32) h = absurd (cc)
simple_apart (type.whole type.s64) h = absurd (cc)
simple_apart (type.whole type.u8) h = absurd (cc)
simple_apart (type.whole type.u16) h = absurd (cc)
simple_apart (type.whole type.u32) h = absurd (cc)
simple_apart (type.whole type.u64) h = absurd (cc)
simple_apart type.char h = absurd (cc)
simple_apart type.string h = absurd (cc)

-- the types of floats
pub f32_tape : (T : TypeTree) → kind_of T ≡ kinds.F32 → IsTold T (22 ∷ []) true
f32_tape (type.unreadable type.f32) e = record { bytes_are = refl; has_is = refl }
f32_tape (type.unreadable type.f64) e = absurd (cc)
f32_tape (type.unreadable type.unsupported) e = absurd (cc)
f32_tape (type.simple S) e = absurd (simple_apart S (ap is_unreadable e))
f32_tape _ e = absurd (cc)

pub f64_tape : (T : TypeTree) → kind_of T ≡ kinds.F64 → IsTold T (23 ∷ []) true
f64_tape (type.unreadable type.f64) e = record { bytes_are = refl; has_is = refl }
f64_tape (type.unreadable type.f32) e = absurd (cc)
f64_tape (type.unreadable type.unsupported) e = absurd (cc)
f64_tape (type.simple S) e = absurd (simple_apart S (ap is_unreadable e))
f64_tape _ e = absurd (cc)

-- what is unsupported
pub without_type_tape : (T : TypeTree) → kind_of T ≡ kinds.Unsupported → has_type_tape T ≡ false
without_type_tape (type.unreadable type.unsupported) e = refl
without_type_tape (type.unreadable type.f32) e = absurd (cc)
without_type_tape (type.unreadable type.f64) e = absurd (cc)
without_type_tape (type.simple S) e = absurd (simple_apart S (ap is_unreadable e))
without_type_tape _ e = absurd (cc)

-- a length that a u32 can say
pub short_told : (n : ℕ) (E : TypeTree) → n < 2 ^ 32 → has_type_tape (type.fixed E n) ≡ has_type_tape E
short_told n E lt = ap (λ (b : Bool). b && has_type_tape E) (lt-ltb n (2 ^ 32) lt)

-- the type of keys has a tape
pub key_told : (T K V : TypeTree) → IsMapType T K V → has_type_tape K ≡ false → has_type_tape T ≡ false
key_told T K V is none = let e : false ≡ true = sym none ∙ ap has_type_tape is.key_is in absurd (cc)
