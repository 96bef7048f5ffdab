-- Equality of contents at one type is equality of the values.
use Rattle.std.proofs.Common.{◌≡◌, ℕ, zero, suc, Bool, true, false, refl, sym, ap, subst, ◌∙◌, List, [], ◌∷◌, map, length, Option, Some, None}
use Rattle.std.specs.Prelude.{◌&&◌, string_bytes}
use Rattle.std.specs.Cmp.{both_ways}
use Rattle.std.specs.declared.alloc.Global.{Global}
use Rattle.std.specs.declared.vec.Vec.{Vec}
use Rattle.std.specs.Cmp.Lexicographic.{pointwise}
use Rattle.std.specs.Str.{bytes_eq}
use Rattle.std.proofs.lemmas.Slice.Eq.{bytes_eq-Decides}
use Rattle.wave_wasm.specs.Types as type
use Rattle.wave_wasm.specs.Types.{TypeTree, Simple, type_list, field_list, case_list, enum_names, flags_names}
use Rattle.wave_wasm.specs.TypeTreeEncoding.{stored_name, stored_names}
use Rattle.wave_wasm.specs.Values as value
use Rattle.wave_wasm.specs.Values.{Leaf, Value, values, field_values, entries, maybe_value}
use Rattle.wave_wasm.specs.ConstructorContracts.{list_value}
use Rattle.wave_wasm.specs.Merge.{leaf_eq}
use Rattle.wave_type.specs.TypeEquality.{same_tree}
use Rattle.wave_type.proofs.TypeTrees.Equality.{and_false}
use Rattle.wave_type.specs.TypeEqualityLaws.{same_itself}
use Rattle.wave_value.specs.TypedValue.{TypedValue, IsAt}
use Rattle.wave_value.specs.ValueEncoding.{stored_leaf, stored_values, stored_fields, stored_maybe, stored_entries}
use Rattle.wave_value.specs.Private.ValueEncoding.{name_apart}
use Rattle.wave_value.specs.ValueEquality.{same_stored, same_value, same_typed, one_stored, stored_itself}
use Rattle.wave_value.specs.Private.ContentEquality.{same_all, same_pairs, same_option, same_content}
use Rattle.wave_value.specs.declared.value.Content.{Content}
use Rattle.wave_value.specs.declared.value.Content.TheVariants as contents
use Rattle.wave_value.specs.declared.value.Scalar.{Scalar}
use Rattle.wave_value.specs.declared.value.Scalar.TheVariants as scalars
use Rattle.wave_value.specs.ValueModel.{scalar_leaf, name_at, first_names, trees, beside, boxed, payload_tree}
use Rattle.wave_value.specs.Private.ValueModel.{key_of, entry_trees, content_tree, AllAt, EachAt, FieldsAt, PayloadAt, CaseAt, EntriesAt, ListFits, RecordFits, TupleFits, VariantFits, OptionFits, OkFits, ErrFits, MapFits, Fits}
use Rattle.wave_value.proofs.ValueModel.LeafEquality.{same_leaf}

and_true : (b : Bool) → b ≡ (b && true)
and_true true = refl
and_true false = refl

wrapped : {a b : Bool} → a ≡ b → a ≡ (b && true)
wrapped e = e ∙ and_true _

-- names stored are compared as their bytes
names_same : (m n : List ℕ) → bytes_eq m n ≡ same_stored (stored_name m) (stored_name n)
names_same m n =
    both_ways _ _ (λ e. subst (λ k. same_stored (stored_name m) (stored_name k) ≡ true) ((bytes_eq-Decides m n).0 e) (stored_itself (stored_name m)))
    (λ e. (bytes_eq-Decides m n).1 (name_apart m n (one_stored _ _ e)))

lists_same : (ms ns : List (List ℕ)) → pointwise bytes_eq ms ns ≡ same_stored (stored_names ms) (stored_names ns)
lists_same [] [] = refl
lists_same [] (n ∷ ns) = refl
lists_same (m ∷ ms) [] = refl
lists_same (m ∷ ms) (n ∷ ns) = λ i. names_same m n i && lists_same ms ns i

-- two values of one own type are compared by what they mean
at_same : (T : TypeTree) (v w : TypedValue) → IsAt T v → IsAt T w → same_typed v w ≡ same_value v.tree w.tree
at_same T v w h k =
    let own : same_tree v.own w.own ≡ true = subst (λ U. same_tree v.own U ≡ true) (h.own ∙ sym k.own) (same_itself v.own) in
    ap (λ b. b && same_value v.tree w.tree) own

all_same : (E : TypeTree) (vs ws : List TypedValue) → AllAt E vs → AllAt E ws → same_all vs ws ≡ same_stored (stored_values (values (trees vs))) (stored_values (values (trees ws)))
all_same E [] [] h k = refl
all_same E [] (w ∷ ws) h k = refl
all_same E (v ∷ vs) [] h k = refl
all_same E (v ∷ vs) (w ∷ ws) h k = λ i. at_same E v w h.0 k.0 i && all_same E vs ws h.1 k.1 i

each_same : (Ts : List TypeTree) (vs ws : List TypedValue) → EachAt Ts vs → EachAt Ts ws → same_all vs ws ≡ same_stored (stored_values (values (trees vs))) (stored_values (values (trees ws)))
each_same [] [] [] h k = refl
each_same [] [] (w ∷ ws) h k = absurd k
each_same [] (v ∷ vs) ws h k = absurd h
each_same (T ∷ Ts) [] ws h k = absurd h
each_same (T ∷ Ts) (v ∷ vs) [] h k = absurd k
each_same (T ∷ Ts) (v ∷ vs) (w ∷ ws) h k = λ i. at_same T v w h.0 k.0 i && each_same Ts vs ws h.1 k.1 i

fields_same : (fs : List (List ℕ × TypeTree)) (vs ws : List TypedValue) → FieldsAt fs vs → FieldsAt fs ws
    → same_all vs ws ≡ same_stored (stored_fields (field_values (beside (first_names fs) (trees vs)))) (stored_fields (field_values (beside (first_names fs) (trees ws))))
fields_same [] [] [] h k = refl
fields_same [] [] (w ∷ ws) h k = absurd k
fields_same [] (v ∷ vs) ws h k = absurd h
fields_same (f ∷ fs) [] ws h k = absurd h
fields_same (f ∷ fs) (v ∷ vs) [] h k = absurd k
fields_same (f ∷ fs) (v ∷ vs) (w ∷ ws) h k =
    λ i. sym (stored_itself (stored_name f.0)) i && (at_same f.1 v w h.0 k.0 i && fields_same fs vs ws h.1 k.1 i)

payload_same : (P : Option TypeTree) (p q : Option TypedValue) → PayloadAt P p → PayloadAt P q → same_option p q ≡ same_stored (stored_maybe (maybe_value (payload_tree p))) (stored_maybe (maybe_value (payload_tree q)))
payload_same None None None h k = refl
payload_same None None (Some w) h k = absurd k
payload_same None (Some v) q h k = absurd h
payload_same (Some T) None q h k = absurd h
payload_same (Some T) (Some v) None h k = absurd k
payload_same (Some T) (Some v) (Some w) h k = at_same T v w h k ∙ and_true (same_value v.tree w.tree)

-- two places of one name are one place
cases_same : (cs : List (List ℕ × Option TypeTree)) (i j : ℕ) (p q : Option TypedValue) → CaseAt cs i p → CaseAt cs j q → name_at (first_names cs) i ≡ name_at (first_names cs) j
    → same_option p q ≡ same_stored (stored_maybe (maybe_value (payload_tree p))) (stored_maybe (maybe_value (payload_tree q)))
cases_same [] i j p q h k e = absurd h
cases_same (c ∷ cs) zero zero p q h k e = payload_same c.1 p q h k
cases_same (c ∷ cs) zero (suc j) p q h k e = absurd (k.0 (sym e))
cases_same (c ∷ cs) (suc i) zero p q h k e = absurd (h.0 e)
cases_same (c ∷ cs) (suc i) (suc j) p q h k e = cases_same cs i j p q h.1 k.1 e

named_same : (b : Bool) (x y s : Bool) → b ≡ s → (b ≡ true → x ≡ y) → (b && x) ≡ (s && y)
named_same true x y s e same = same refl ∙ ap (λ c. c && y) e
named_same false x y s e same = ap (λ c. c && y) e

variant_same : (T : TypeTree) (i j : ℕ) (p q : Option TypedValue) → VariantFits T i p → VariantFits T j q
    → (bytes_eq (name_at (first_names (type.variant_parts T)) i) (name_at (first_names (type.variant_parts T)) j) && same_option p q)
    ≡ (same_stored (stored_name (name_at (first_names (type.variant_parts T)) i)) (stored_name (name_at (first_names (type.variant_parts T)) j))
    && same_stored (stored_maybe (maybe_value (payload_tree p))) (stored_maybe (maybe_value (payload_tree q))))
variant_same (type.variant cs) i j p q h k =
    named_same _ _ _ _ (names_same (name_at (first_names (case_list cs)) i) (name_at (first_names (case_list cs)) j))
    (λ e. cases_same (case_list cs) i j p q h k ((bytes_eq-Decides (name_at (first_names (case_list cs)) i) (name_at (first_names (case_list cs)) j)).0 e))
variant_same _ i j p q h k = absurd h

list_same : (T : TypeTree) (vs ws : List TypedValue) → ListFits T vs → ListFits T ws → same_all vs ws ≡ same_value (list_value T (trees vs)) (list_value T (trees ws))
list_same (type.list E) vs ws h k = wrapped (all_same E vs ws h k)
list_same (type.fixed E n) vs ws h k = wrapped (all_same E vs ws h.1 k.1)
list_same _ vs ws h k = absurd h

-- a list beside another content, in either order
list_first : (T : TypeTree) (vs : Vec TypedValue Global) (b : Content) → Fits T (contents.List vs) → Fits T b → same_content T (contents.List vs) b ≡ same_value (content_tree T (contents.List vs)) (content_tree T b)
list_first T vs (contents.List ws) h k = list_same T vs.items ws.items h k
list_first (type.list E) vs _ h k = refl
list_first (type.fixed E n) vs _ h k = refl
list_first _ vs b h k = absurd h

list_second : (T : TypeTree) (a : Content) (ws : Vec TypedValue Global) → Fits T a → Fits T (contents.List ws) → same_content T a (contents.List ws) ≡ same_value (content_tree T a) (content_tree T (contents.List ws))
list_second T (contents.List vs) ws h k = list_same T vs.items ws.items h k
list_second (type.list E) _ ws h k = refl
list_second (type.fixed E n) _ ws h k = refl
list_second _ a ws h k = absurd k

tuple_same : (T : TypeTree) (vs ws : List TypedValue) → TupleFits T vs → TupleFits T ws → same_all vs ws ≡ same_stored (stored_values (values (trees vs))) (stored_values (values (trees ws)))
tuple_same (type.tuple Ts) vs ws h k = each_same (type_list Ts) vs ws h k
tuple_same _ vs ws h k = absurd h

record_same : (T : TypeTree) (vs ws : List TypedValue) → RecordFits T vs → RecordFits T ws
    → same_all vs ws ≡ same_stored (stored_fields (field_values (beside (first_names (type.record_parts T)) (trees vs)))) (stored_fields (field_values (beside (first_names (type.record_parts T)) (trees ws))))
record_same (type.record_type fs) vs ws h k = fields_same (field_list fs) vs ws h.1 k.1
record_same _ vs ws h k = absurd h

option_same : (T : TypeTree) (p q : Option TypedValue) → OptionFits T p → OptionFits T q → same_option p q ≡ same_stored (stored_maybe (maybe_value (payload_tree p))) (stored_maybe (maybe_value (payload_tree q)))
option_same (type.option P) None None h k = refl
option_same (type.option P) None (Some w) h k = refl
option_same (type.option P) (Some v) None h k = refl
option_same (type.option P) (Some v) (Some w) h k = at_same P v w h k ∙ and_true (same_value v.tree w.tree)
option_same _ p q h k = absurd h

ok_same : (T : TypeTree) (p q : Option TypedValue) → OkFits T p → OkFits T q → same_option p q ≡ same_stored (stored_maybe (maybe_value (payload_tree p))) (stored_maybe (maybe_value (payload_tree q)))
ok_same (type.result A B) p q h k = payload_same (type.type_option A) p q h k
ok_same _ p q h k = absurd h

err_same : (T : TypeTree) (p q : Option TypedValue) → ErrFits T p → ErrFits T q → same_option p q ≡ same_stored (stored_maybe (maybe_value (payload_tree p))) (stored_maybe (maybe_value (payload_tree q)))
err_same (type.result A B) p q h k = payload_same (type.type_option B) p q h k
err_same _ p q h k = absurd h

inner_leaf : (a b : Leaf) → same_value (value.leaf a) (value.leaf b) ≡ same_stored (stored_leaf a) (stored_leaf b)
inner_leaf a b = sym (and_true (same_stored (stored_leaf a) (stored_leaf b)))

keys_same : (K : Simple) (v w : TypedValue) → IsAt (type.simple K) v → IsAt (type.simple K) w → same_typed v w ≡ same_stored (stored_leaf (key_of v.tree)) (stored_leaf (key_of w.tree))
keys_same K v w h k =
    let (a, _, va) = h.fits in
    let (b, _, wb) = k.fits in
    at_same (type.simple K) v w h k ∙ (ap (λ t. same_value t w.tree) va ∙ (ap (same_value (value.leaf a)) wb
    ∙ (inner_leaf a b ∙ (ap (λ t. same_stored (stored_leaf (key_of t)) (stored_leaf b)) (sym va) ∙ ap (λ t. same_stored (stored_leaf (key_of v.tree)) (stored_leaf (key_of t))) (sym wb)))))

pairs_same : (K : Simple) (V : TypeTree) (ds es : List (TypedValue × TypedValue)) → EntriesAt (type.simple K) V ds → EntriesAt (type.simple K) V es
    → same_pairs ds es ≡ same_stored (stored_entries (entries (entry_trees ds))) (stored_entries (entries (entry_trees es)))
pairs_same K V [] [] h k = refl
pairs_same K V [] (e ∷ es) h k = refl
pairs_same K V (d ∷ ds) [] h k = refl
pairs_same K V (d ∷ ds) (e ∷ es) h k = λ i. keys_same K d.0 e.0 h.0.0 k.0.0 i && (at_same V d.1 e.1 h.0.1 k.0.1 i && pairs_same K V ds es h.1 k.1 i)

map_same : (T : TypeTree) (ds es : List (TypedValue × TypedValue)) → MapFits T ds → MapFits T es → same_pairs ds es ≡ same_stored (stored_entries (entries (entry_trees ds))) (stored_entries (entries (entry_trees es)))
map_same (type.map K V) ds es h k = pairs_same K V ds es h k
map_same _ ds es h k = absurd h

-- a string beside another value of one token, in either order
string_second : (a : Scalar) (s : List ℕ) → false ≡ leaf_eq (scalar_leaf a) (value.string s)
string_second (scalars.Bool b) s = refl
string_second _ s = refl

string_first : (s : List ℕ) (a : Scalar) → false ≡ leaf_eq (value.string s) (scalar_leaf a)
string_first s (scalars.Bool b) = refl
string_first s _ = refl

-- the code's comparison says whether the values are one
pub content_same : (T : TypeTree) (a b : Content) → Fits T a → Fits T b → same_content T a b ≡ same_value (content_tree T a) (content_tree T b)
content_same T (contents.List vs) b h k = list_first T vs b h k
content_same T a (contents.List ws) h k = list_second T a ws h k
content_same T (contents.Scalar a) (contents.Scalar b) h k = sym (same_leaf (scalar_leaf a) (scalar_leaf b))
content_same T (contents.String s) (contents.String t) h k = sym (same_leaf (value.string (string_bytes s)) (value.string (string_bytes t)))
content_same T (contents.Scalar a) (contents.String t) h k = string_second a (string_bytes t) ∙ sym (same_leaf (scalar_leaf a) (value.string (string_bytes t)))
content_same T (contents.String s) (contents.Scalar b) h k = string_first (string_bytes s) b ∙ sym (same_leaf (value.string (string_bytes s)) (scalar_leaf b))
content_same T (contents.Record vs) (contents.Record ws) h k = wrapped (record_same T vs.items ws.items h k)
content_same T (contents.Tuple vs) (contents.Tuple ws) h k = wrapped (tuple_same T vs.items ws.items h k)
content_same T (contents.Variant i p) (contents.Variant j q) h k = variant_same T i j (boxed p) (boxed q) h k
content_same T (contents.Enum i) (contents.Enum j) h k = wrapped (names_same (name_at (enum_names T) i) (name_at (enum_names T) j))
content_same T (contents.Option p) (contents.Option q) h k = wrapped (option_same T (boxed p) (boxed q) h k)
content_same T (contents.Ok p) (contents.Ok q) h k = wrapped (ok_same T (boxed p) (boxed q) h k)
content_same T (contents.Err p) (contents.Err q) h k = wrapped (err_same T (boxed p) (boxed q) h k)
content_same T (contents.Flags is) (contents.Flags js) h k = wrapped (lists_same (map (name_at (flags_names T)) is.items) (map (name_at (flags_names T)) js.items))
content_same T (contents.Map ds) (contents.Map es) h k = wrapped (map_same T ds.items es.items h k)
content_same T _ _ h k = refl

-- with equal types, equality of contents decides
pub typed_same : (T U : TypeTree) (a b : Content) (x y : Bool) → x ≡ same_tree T U → x ≡ true → T ≡ U → Fits T a → Fits U b → y ≡ same_content T a b → y ≡ (same_tree T U && same_value (content_tree T a) (content_tree U b))
typed_same T U a b x y types same one h k says =
    says ∙ (content_same T a b h (subst (λ V. Fits V b) (sym one) k) ∙ (ap (λ V. same_value (content_tree T a) (content_tree V b)) one ∙ ap (λ c. c && same_value (content_tree T a) (content_tree U b)) (sym same ∙ types)))

-- lists of unequal lengths
pub all_lens : (vs ws : List TypedValue) → (length vs ≡ length ws → ⊥) → false ≡ same_all vs ws
all_lens [] [] h = absurd (h refl)
all_lens [] (w ∷ ws) h = refl
all_lens (v ∷ vs) [] h = refl
all_lens (v ∷ vs) (w ∷ ws) h = and_false (same_typed v w) _ (all_lens vs ws (λ e. h (ap suc e)))

-- entries, likewise
pub pairs_lens : (ds es : List (TypedValue × TypedValue)) → (length ds ≡ length es → ⊥) → false ≡ same_pairs ds es
pairs_lens [] [] h = absurd (h refl)
pairs_lens [] (e ∷ es) h = refl
pairs_lens (d ∷ ds) [] h = refl
pairs_lens (d ∷ ds) (e ∷ es) h = and_false (same_typed d.0 e.0) _ (and_false (same_typed d.1 e.1) _ (pairs_lens ds es (λ i. h (ap suc i))))
