-- Content that fits a type means a value of it.
use Rattle.std.proofs.Common.{ℕ, zero, suc, ◌≡◌, ◌<◌, ◌+◌, inl, inr, List, [], ◌∷◌, map, length, refl, sym, ap, subst, ◌∙◌, arith, Option, Some, None, string_bytes}
use Rattle.std.proofs.lemmas.Bool.{cases_lt}
use Rattle.wave_wasm.specs.Lists.{AllOf}
use Rattle.wave_wasm.specs.Names.{IsOneOf, ArePicked}
use Rattle.wave_wasm.specs.Types as type
use Rattle.wave_wasm.specs.Types.{TypeTree, MaybeType, Types, Fields, Cases, Simple, no_type, a_type, no_types, type_and, no_cases, case_of, type_list, field_list, case_list, type_option}
use Rattle.wave_wasm.specs.Values as value
use Rattle.wave_wasm.specs.Values.{Value, Leaf, MaybeValue, FieldValues, values, field_values, entries, maybe_value, leaf_type}
use Rattle.wave_wasm.specs.HasType.{IsLeafOf, HasType, HasPayload, HasTypes, HasFields, HasCase}
use Rattle.wave_wasm.specs.ConstructorContracts.{list_value}
use Rattle.wave_value.specs.declared.value.Content.{Content}
use Rattle.wave_value.specs.declared.value.Content.TheVariants as contents
use Rattle.wave_value.specs.TypedValue.{TypedValue, IsAt}
use Rattle.wave_value.specs.ValueModel.{scalar_leaf, name_at, first_names, trees, beside, boxed, payload_tree}
use Rattle.wave_value.specs.Private.ValueModel.{key_of, entry_trees, content_tree, AllAt, EachAt, FieldsAt, PayloadAt, CaseAt, Grows, EntriesAt, ListFits, RecordFits, TupleFits, VariantFits, EnumFits, OptionFits, OkFits, ErrFits, FlagsFit, MapFits, ScalarFits, Fits}

all_mean : (E : TypeTree) (vs : List TypedValue) → AllAt E vs → AllOf (HasType E) (trees vs)
all_mean E [] h = tt
all_mean E (v ∷ vs) h = (h.0.fits, all_mean E vs h.1)

trees_length : (vs : List TypedValue) → length (trees vs) ≡ length vs
trees_length [] = refl
trees_length (v ∷ vs) = ap suc (trees_length vs)

pub list_means : (T : TypeTree) (vs : List TypedValue) → ListFits T vs → HasType T (list_value T (trees vs))
list_means (type.list E) vs h = (trees vs, all_mean E vs h, refl)
list_means (type.fixed E n) vs h = (trees vs, all_mean E vs h.1, trees_length vs ∙ h.0, refl)
list_means _ vs h = absurd h

each_means : (Ts : Types) (vs : List TypedValue) → EachAt (type_list Ts) vs → HasTypes Ts (trees vs)
each_means no_types [] h = refl
each_means no_types (v ∷ vs) h = absurd h
each_means (type_and T more) [] h = absurd h
each_means (type_and T more) (v ∷ vs) h = (v.tree, trees vs, h.0.fits, each_means more vs h.1, refl)

pub tuple_value : (T : TypeTree) (vs : List TypedValue) → TupleFits T vs → HasType T (value.tuple (values (trees vs)))
tuple_value (type.tuple Ts) vs h = (trees vs, each_means Ts vs h, refl)
tuple_value _ vs h = absurd h

fields_mean : (fs : Fields) (vs : List TypedValue) → FieldsAt (field_list fs) vs → HasFields fs (field_values (beside (first_names (field_list fs)) (trees vs)))
fields_mean type.no_fields [] h = refl
fields_mean type.no_fields (v ∷ vs) h = absurd h
fields_mean (type.field n T fs) [] h = absurd h
fields_mean (type.field n T fs) (v ∷ vs) h = (v.tree, field_values (beside (first_names (field_list fs)) (trees vs)), h.0.fits, fields_mean fs vs h.1, refl)

pub record_value : (T : TypeTree) (vs : List TypedValue) → RecordFits T vs → HasType T (value.record_value (field_values (beside (first_names (type.record_parts T)) (trees vs))))
record_value (type.record_type fs) vs h = (field_values (beside (first_names (field_list fs)) (trees vs)), fields_mean fs vs h.1, refl)
record_value _ vs h = absurd h

payload_means : (P : MaybeType) (p : Option TypedValue) → PayloadAt (type_option P) p → HasPayload P (maybe_value (payload_tree p))
payload_means no_type None h = refl
payload_means no_type (Some v) h = absurd h
payload_means (a_type T) None h = absurd h
payload_means (a_type T) (Some v) h = (v.tree, h.fits, refl)

case_means : (cs : Cases) (i : ℕ) (p : Option TypedValue) → CaseAt (case_list cs) i p → HasCase cs (name_at (first_names (case_list cs)) i) (maybe_value (payload_tree p))
case_means no_cases i p h = absurd h
case_means (case_of n P cs) zero p h = inl (refl, payload_means P p h)
case_means (case_of n P cs) (suc i) p h = inr (case_means cs i p h.1)

pub variant_value : (T : TypeTree) (i : ℕ) (p : Option TypedValue) → VariantFits T i p → HasType T (value.variant (name_at (first_names (type.variant_parts T)) i) (maybe_value (payload_tree p)))
variant_value (type.variant cs) i p h = (name_at (first_names (case_list cs)) i, maybe_value (payload_tree p), case_means cs i p h, refl)
variant_value _ i p h = absurd h

pub one_of : (ns : List (List ℕ)) (i : ℕ) → i < length ns → IsOneOf ns (name_at ns i)
one_of [] i h = absurd (omega arith)
one_of (n ∷ ns) zero h = inl refl
one_of (n ∷ ns) (suc i) h = inr (one_of ns i (omega arith))

pub enum_value : (T : TypeTree) (i : ℕ) → EnumFits T i → HasType T (value.enum (name_at (type.enum_names T) i))
enum_value (type.enum ns) i h = (name_at ns i, one_of ns i h, refl)
enum_value _ i h = absurd h

pub option_value : (T : TypeTree) (p : Option TypedValue) → OptionFits T p → HasType T (value.option (maybe_value (payload_tree p)))
option_value (type.option P) None h = inl refl
option_value (type.option P) (Some v) h = inr (v.tree, h.fits, refl)
option_value _ p h = absurd h

pub ok_value : (T : TypeTree) (p : Option TypedValue) → OkFits T p → HasType T (value.ok (maybe_value (payload_tree p)))
ok_value (type.result A B) p h = inl (maybe_value (payload_tree p), payload_means A p h, refl)
ok_value _ p h = absurd h

pub err_value : (T : TypeTree) (p : Option TypedValue) → ErrFits T p → HasType T (value.err (maybe_value (payload_tree p)))
err_value (type.result A B) p h = inr (maybe_value (payload_tree p), payload_means B p h, refl)
err_value _ p h = absurd h

-- the names at places that grow are some of the names, in their order
picked : (ns : List (List ℕ)) (from : ℕ) (name : ℕ → List ℕ) → ((k : ℕ) → k < length ns → name (from + k) ≡ name_at ns k) → (is : List ℕ) → Grows from (from + length ns) is → ArePicked ns (map name is)
picked [] from name agree [] h = refl
picked [] from name agree (i ∷ is) h = absurd (omega (arith, h.0, h.1))
picked (n ∷ ns) from name agree [] h = inl (picked ns (from + 1) name (λ k lt. ap name (omega arith) ∙ agree (suc k) (omega (arith, lt))) [] tt)
picked (n ∷ ns) from name agree (i ∷ is) h =
    let later : (k : ℕ) → k < length ns → name (from + 1 + k) ≡ name_at ns k = λ k lt. ap name (omega arith) ∙ agree (suc k) (omega (arith, lt)) in
    let count : from + length (n ∷ ns) ≡ from + 1 + length ns = omega arith in
    elim (cases_lt from i) [
      | inl lt ↦ inl (picked ns (from + 1) name later (i ∷ is) (omega (arith, lt), subst (λ m. i < m) count h.1, subst (λ m. Grows (i + 1) m is) count h.2))
      | inr le ↦
          let here : i ≡ from = omega (arith, le, h.0) in
          let first : name i ≡ n = ap name (here ∙ omega arith) ∙ agree 0 (omega arith) in
          let rest : Grows (from + 1) (from + 1 + length ns) is = subst (λ m. Grows (m + 1) (from + 1 + length ns) is) here (subst (λ m. Grows (i + 1) m is) count h.2) in
          inr (map name is, ap (λ m. m ∷ map name is) first, picked ns (from + 1) name later is rest)
    ]

pub flags_value : (T : TypeTree) (is : List ℕ) → FlagsFit T is → HasType T (value.flags (map (name_at (type.flags_names T)) is))
flags_value (type.flags ns) is h = (map (name_at ns) is, picked ns 0 (name_at ns) (λ k lt. ap (name_at ns) (omega arith)) is (subst (λ m. Grows 0 m is) (omega arith) h), refl)
flags_value _ is h = absurd h

key_means : (K : Simple) (v : TypedValue) → IsAt (type.simple K) v → IsLeafOf K (key_of v.tree)
key_means K v h = let (one, of, is) = h.fits in subst (λ w. IsLeafOf K (key_of w)) (sym is) of

entries_mean : (K : Simple) (V : TypeTree) (es : List (TypedValue × TypedValue)) → EntriesAt (type.simple K) V es → AllOf (λ e. IsLeafOf K e.0 × HasType V e.1) (entry_trees es)
entries_mean K V [] h = tt
entries_mean K V (e ∷ es) ((key, val), more) = ((key_means K e.0 key, val.fits), entries_mean K V es more)

pub map_value : (T : TypeTree) (es : List (TypedValue × TypedValue)) → MapFits T es → HasType T (value.map (entries (entry_trees es)))
map_value (type.map K V) es h = (entry_trees es, entries_mean K V es h, refl)
map_value _ es h = absurd h

pub scalar_value : (T : TypeTree) (one : Leaf) → ScalarFits T one → HasType T (value.leaf one)
scalar_value T one h = subst (λ T. HasType T (value.leaf one)) (sym h.0) (one, (refl, h.1), refl)

-- content that fits means a value of the type
pub means : (T : TypeTree) (c : Content) → Fits T c → HasType T (content_tree T c)
means T (contents.Scalar one) h = scalar_value T (scalar_leaf one) h
means T (contents.String s) h = scalar_value T (value.string (string_bytes s)) h
means T (contents.List vs) h = list_means T vs.items h
means T (contents.Record vs) h = record_value T vs.items h
means T (contents.Tuple vs) h = tuple_value T vs.items h
means T (contents.Variant i p) h = variant_value T i (boxed p) h
means T (contents.Enum i) h = enum_value T i h
means T (contents.Option p) h = option_value T (boxed p) h
means T (contents.Ok p) h = ok_value T (boxed p) h
means T (contents.Err p) h = err_value T (boxed p) h
means T (contents.Flags is) h = flags_value T is.items h
means T (contents.Map es) h = map_value T es.items h

-- a value is of the kind of its type
pub same_kind : (T : TypeTree) (v : Value) → HasType T v → type.kind_of T ≡ value.kind_of v
same_kind (type.simple S) v (one, h, e) = sym (ap value.kind_of e ∙ ap type.simple_kind h.0)
same_kind (type.unreadable kind) v h = absurd h
same_kind (type.list E) v (vs, h, e) = sym (ap value.kind_of e)
same_kind (type.fixed E n) v (vs, h, counted, e) = sym (ap value.kind_of e)
same_kind (type.record_type fs) v (all, h, e) = sym (ap value.kind_of e)
same_kind (type.tuple Ts) v (vs, h, e) = sym (ap value.kind_of e)
same_kind (type.variant cs) v (name, payload, h, e) = sym (ap value.kind_of e)
same_kind (type.enum names) v (name, h, e) = sym (ap value.kind_of e)
same_kind (type.option P) v (inl e) = sym (ap value.kind_of e)
same_kind (type.option P) v (inr (some, h, e)) = sym (ap value.kind_of e)
same_kind (type.result A B) v (inl (payload, h, e)) = sym (ap value.kind_of e)
same_kind (type.result A B) v (inr (payload, h, e)) = sym (ap value.kind_of e)
same_kind (type.flags names) v (held, h, e) = sym (ap value.kind_of e)
same_kind (type.map K V) v (es, h, e) = sym (ap value.kind_of e)
