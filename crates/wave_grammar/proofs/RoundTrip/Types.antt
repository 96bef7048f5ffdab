-- The canonical text of each value of a type prints the value, merged.
use Rattle.std.proofs.Common.{◌≡◌, ℕ, ◌≤◌, ◌-◌, List, [], ◌∷◌, length, inl, inr, map, refl, sym, ap, subst, arith}
use Rattle.std.specs.Prelude.{codes}
use Rattle.std.proofs.lemmas.List.{length-map}
use Rattle.wave_wasm.specs.Lists.{AllOf}
use Rattle.wave_wasm.specs.Types as type
use Rattle.wave_wasm.specs.Types.{TypeTree, MaybeType, Types, Fields, Cases, Simple, field_names, case_names, EachNames, EachNamesOfMaybe, EachNamesOfTypes, EachNamesOfFields, EachNamesOfCases, HasDistinctNames}
use Rattle.wave_wasm.specs.Names.{IsOneOf, AreDistinct, ArePicked}
use Rattle.wave_wasm.specs.Values as value
use Rattle.wave_wasm.specs.Values.{Value, MaybeValue, FieldValues, Leaf, no_value, a_value, values, entries}
use Rattle.wave_wasm.specs.HasType.{HasType, HasPayload, HasTypes, HasFields, HasCase, IsLeafOf}
use Rattle.wave_wasm.specs.Merge.{merge, leaf_eq, merged, merged_maybe, merged_values, merged_fields, merged_entries}
use Rattle.wave_wasm.specs.Commas.{in_parens}
use Rattle.wave_wasm.specs.Text.{printed, printed_items, printed_fields, printed_payload, printed_entries}
use Rattle.wave_lex.specs.Labels.{IsLabel, HasLabels}
use Rattle.wave_lex.specs.Tokens.{label_or_keyword}
use Rattle.wave_lex.proofs.RegularShapes.Derivatives.{matches_from}
use Rattle.wave_grammar.specs.TypedGrammar.{InParens, Keyed, Name, Named}
use Rattle.wave_grammar.proofs.RoundTrip.Tokenizes.{Writes, WritesPayload, WritesCase, WritesField}
use Rattle.wave_grammar.proofs.RoundTrip.Depth.{height, height_of_maybe, height_of_values, height_of_entries}
use Rattle.wave_grammar.proofs.RoundTrip.Names.{case_token, merge_twice, merge_keeps}
use Rattle.wave_wasm.proofs.Names.Subsequences.{picked_distinct, picked_of, picked_all, picked_found}
use Rattle.wave_grammar.proofs.RoundTrip.Injective.{Prints, label_cut}
use Rattle.wave_grammar.proofs.RoundTrip.Leaves.{leaf_prints}
use Rattle.wave_grammar.proofs.RoundTrip.Strings.{leaf_written}
use Rattle.wave_grammar.proofs.RoundTrip.Items.{AllPrint, TuplePrints, brackets_print, braces_print, parens_print, tuple_print, word_print, payload_first, bare_print, payload_print, case_print, keyed_print, name_print}
use Rattle.wave_grammar.proofs.RoundTrip.Fields.{FieldsPrint, names_of, names_same, written_fields, written_distinct, all_found, filled, fields_print, record_prints}

-- the text of the value prints the value, within any levels that are enough
abbrev pub IsPrinted : TypeTree → Value → Type 0
IsPrinted T w = (n : ℕ) → height w ≤ n → Prints (Writes T n) (printed w) w

-- so does a payload's
abbrev pub IsPayloadPrinted : MaybeType → MaybeValue → Type 0
IsPayloadPrinted A payload = (n : ℕ) → height_of_maybe payload ≤ n → Prints (WritesPayload A n) (printed_payload payload) payload

-- what holds of each of P holds of each of Q
all_of : {A : Type 0} (P Q : A → Type 0) → ((a : A) → P a → Q a) → (xs : List A) → AllOf P xs → AllOf Q xs
all_of P Q each [] h = tt
all_of P Q each (x ∷ xs) h = (each x h.0, all_of P Q each xs h.1)

-- ---- lists and tuples

-- merged items are the merges of the items
merged_map : (vs : List Value) → merged_values (values vs) ≡ values (map merged vs)
merged_map [] = refl
merged_map (v ∷ vs) = ap (λ (z : value.Values). value.value_and (merged v) z) (merged_map vs)

list_items : (E : TypeTree) (n : ℕ) (vs : List Value) → AllOf (λ v. IsPrinted E (merged v)) vs → height_of_values (merged_values (values vs)) ≤ n
    → AllPrint (Writes E n) (printed_items (merged_values (values vs))) (map merged vs)
list_items E n [] h l = tt
list_items E n (v ∷ vs) h l = (h.0 n (omega arith), list_items E n vs h.1 (omega arith))

list_row : (E : TypeTree) (vs : List Value) → AllOf (λ v. IsPrinted E (merged v)) vs → IsPrinted (type.list E) (merged (value.list (values vs)))
list_row E vs h n l r rest s cut =
    let (tokens, c, i) = brackets_print (Writes E (n - 1)) _ (map merged vs) (list_items E (n - 1) vs h (omega arith)) r rest s cut in
    (tokens, c, (omega arith, (map merged vs, i, ap value.list (merged_map vs))))

fixed_row : (E : TypeTree) (vs : List Value) → AllOf (λ v. IsPrinted E (merged v)) vs → IsPrinted (type.fixed E (length vs)) (merged (value.fixed (values vs)))
fixed_row E vs h n l r rest s cut =
    let (tokens, c, i) = brackets_print (Writes E (n - 1)) _ (map merged vs) (list_items E (n - 1) vs h (omega arith)) r rest s cut in
    (tokens, c, (omega arith, (map merged vs, i, length-map vs merged, ap value.fixed (merged_map vs))))

tuple_row : (Ts : Types) (vs : List Value) → ((n : ℕ) → height_of_values (merged_values (values vs)) ≤ n → TuplePrints Ts n (printed_items (merged_values (values vs))) (map merged vs))
    → IsPrinted (type.tuple Ts) (merged (value.tuple (values vs)))
tuple_row Ts vs h n l r rest s cut =
    let (prefix, c, i) = tuple_print Ts (n - 1) _ (map merged vs) (h (n - 1) (omega arith)) r rest cut in
    (_, c, (omega arith, (map merged vs, prefix, refl, i, ap value.tuple (merged_map vs))))

-- ---- records

record_row : (fs : Fields) (all : FieldValues) → AllOf IsLabel (field_names fs) → AreDistinct (field_names fs) → HasFields fs all → FieldsPrint fs (merged_fields all)
    → IsPrinted (type.record_type fs) (merged (value.record_value all))
record_row fs all labels distinct of h n l r rest s cut =
    let apart : AreDistinct (names_of (merged_fields all)) = subst AreDistinct (sym (names_same fs all of)) distinct in
    let (tokens, c, i) = record_prints (Named (WritesField fs (n - 1))) (printed_fields (merged_fields all)) (written_fields (merged_fields all)) (fields_print fs (n - 1) (merged_fields all) labels h (omega arith)) r rest s cut in
    (tokens, c, (omega arith, (written_fields (merged_fields all), merged_fields all, i, written_distinct (merged_fields all) apart, filled fs all (written_fields (merged_fields all)) of (all_found (merged_fields all) apart), refl)))

-- ---- cases

variant_row : (cs : Cases) (name : List ℕ) (payload : MaybeValue) → IsLabel name
    → ((n : ℕ) → height_of_maybe payload ≤ n → Prints (WritesCase cs n name) (printed_payload payload) payload) → IsPrinted (type.variant cs) (value.variant name payload)
variant_row cs name payload is_label h n l r rest s cut =
    let (tokens, behind, c, i, j) = case_print name is_label (WritesCase cs (n - 1) name) (printed_payload payload) payload (payload_first payload) (h (n - 1) (omega arith)) r rest s cut in
    (tokens, c, (omega arith, (name, payload, behind, i, j, refl)))

enum_row : (names : List (List ℕ)) (name : List ℕ) → IsLabel name → IsOneOf names name → IsPrinted (type.enum names) (value.enum name)
enum_row names name is_label of n l r rest s cut =
    let (one, is, none) = case_token name is_label in
    (_, one r rest s cut, (omega arith, (name, (_, refl, is, none), of, refl)))

-- ---- options and results

none_row : (P : TypeTree) → IsPrinted (type.option P) (value.option no_value)
none_row P n l r rest s cut = (_, label_cut (codes "none") (matches_from (codes "none") label_or_keyword refl) r rest s cut, (omega arith, inl (refl, refl)))

some_row : (P : TypeTree) (w : Value) → IsPrinted P w → IsPrinted (type.option P) (value.option (a_value w))
some_row P w h n l r rest s cut =
    let (tokens, c, i) = word_print (codes "some") (label_cut (codes "some") (matches_from (codes "some") label_or_keyword refl)) (InParens (Writes P (n - 1))) (in_parens (printed w)) w (λ q t. refl) (parens_print (Writes P (n - 1)) (printed w) w (h (n - 1) (omega arith))) r rest s cut in
    (tokens, c, (omega arith, inr (w, i, refl)))

ok_row : (A B : MaybeType) (payload : MaybeValue) → IsPayloadPrinted A payload → IsPrinted (type.result A B) (value.ok payload)
ok_row A B payload h n l r rest s cut =
    let (tokens, c, i) = word_print (codes "ok") (label_cut (codes "ok") (matches_from (codes "ok") label_or_keyword refl)) (WritesPayload A (n - 1)) _ payload (payload_first payload) (h (n - 1) (omega arith)) r rest s cut in
    (tokens, c, (omega arith, inl (payload, i, refl)))

err_row : (A B : MaybeType) (payload : MaybeValue) → IsPayloadPrinted B payload → IsPrinted (type.result A B) (value.err payload)
err_row A B payload h n l r rest s cut =
    let (tokens, c, i) = word_print (codes "err") (label_cut (codes "err") (matches_from (codes "err") label_or_keyword refl)) (WritesPayload B (n - 1)) _ payload (payload_first payload) (h (n - 1) (omega arith)) r rest s cut in
    (tokens, c, (omega arith, inr (payload, i, refl)))

-- ---- flags and maps

flag_items : (names : List (List ℕ)) → AllOf IsLabel names → AllPrint Name names names
flag_items [] h = tt
flag_items (name ∷ more) h = (name_print name h.0, flag_items more h.1)

flags_row : (names picked : List (List ℕ)) → AllOf IsLabel names → AreDistinct names → ArePicked names picked → IsPrinted (type.flags names) (value.flags picked)
flags_row names picked labels distinct of n l r rest s cut =
    let (tokens, c, i) = braces_print Name picked picked (flag_items picked (picked_all IsLabel names picked of labels)) r rest s cut in
    (tokens, c, (omega arith, (picked, i, picked_distinct names picked of distinct, picked_of names picked of, ap value.flags (sym (picked_found names picked of distinct)))))

map_items : (K : Simple) (V : TypeTree) (n : ℕ) (pairs : List (Leaf × Value)) → AllOf (λ e. IsLeafOf K e.0 × IsPrinted V e.1) pairs → height_of_entries (entries pairs) ≤ n
    → AllPrint (Keyed K (Writes V n)) (printed_entries (entries pairs)) pairs
map_items K V n [] h l = tt
map_items K V n (e ∷ es) h l = (keyed_print K (Writes V n) e.0 (printed e.1) e.1 (leaf_written K e.0 h.0.0) (h.0.1 n (omega arith)), map_items K V n es h.1 (omega arith))

merged_pairs : (K : Simple) (V : TypeTree) (es : List (Leaf × Value)) → AllOf (λ e. IsLeafOf K e.0 × IsPrinted V (merged e.1)) es → AllOf (λ e. IsLeafOf K e.0 × IsPrinted V e.1) (merged_entries (entries es))
merged_pairs K V [] h = tt
merged_pairs K V (e ∷ es) h = (h.0, merged_pairs K V es h.1)

map_row : (K : Simple) (V : TypeTree) (es : List (Leaf × Value)) → AllOf (λ e. IsLeafOf K e.0 × IsPrinted V (merged e.1)) es → IsPrinted (type.map K V) (merged (value.map (entries es)))
map_row K V es h n l r rest s cut =
    let pairs = merge leaf_eq (merged_entries (entries es)) in
    let all = merge_keeps leaf_eq (IsLeafOf K) (IsPrinted V) (merged_entries (entries es)) (merged_pairs K V es h) in
    let (tokens, c, i) = braces_print (Keyed K (Writes V (n - 1))) _ pairs (map_items K V (n - 1) pairs all (omega arith)) r rest s cut in
    (tokens, c, (omega arith, (pairs, inr i, ap (λ (z : List (Leaf × Value)). value.map (entries z)) (sym (merge_twice leaf_eq (merged_entries (entries es)))))))

-- ---- any type

one_label : (names : List (List ℕ)) (name : List ℕ) → AllOf IsLabel names → IsOneOf names name → IsLabel name
one_label [] name h of = absurd of
one_label (first ∷ more) name h (inl e) = subst IsLabel (sym e) h.0
one_label (first ∷ more) name h (inr of) = one_label more name h.1 of

mutual
  pub prints : (T : TypeTree) → HasLabels T → HasDistinctNames T → (v : Value) → HasType T v → IsPrinted T (merged v)
  prints (type.simple S) labels distinct v (one, of, e) =
      subst (λ (z : Value). IsPrinted (type.simple S) (merged z)) (sym e) (λ n l. leaf_prints S n one (omega arith) (leaf_written S one of))
  prints (type.unreadable kind) labels distinct v of = absurd of
  prints (type.list E) labels distinct v (vs, all, e) =
      subst (λ (z : Value). IsPrinted (type.list E) (merged z)) (sym e) (list_row E vs (all_of (HasType E) (λ x. IsPrinted E (merged x)) (prints E labels distinct) vs all))
  prints (type.fixed E count) labels distinct v (vs, all, long, e) =
      subst (λ (z : Value). IsPrinted (type.fixed E count) (merged z)) (sym e)
      (subst (λ (n : ℕ). IsPrinted (type.fixed E n) (merged (value.fixed (values vs)))) long (fixed_row E vs (all_of (HasType E) (λ x. IsPrinted E (merged x)) (prints E labels distinct) vs all)))
  prints (type.record_type fs) labels distinct v (all, of, e) =
      subst (λ (z : Value). IsPrinted (type.record_type fs) (merged z)) (sym e) (record_row fs all labels.0 distinct.0 of (prints_fields fs labels.1 distinct.1 all of))
  prints (type.tuple Ts) labels distinct v (vs, of, e) =
      subst (λ (z : Value). IsPrinted (type.tuple Ts) (merged z)) (sym e) (tuple_row Ts vs (prints_types Ts labels distinct vs of))
  prints (type.variant cs) labels distinct v (name, payload, of, e) =
      let (is_label, h) = prints_case cs labels.0 labels.1 distinct.1 name payload of in
      subst (λ (z : Value). IsPrinted (type.variant cs) (merged z)) (sym e) (variant_row cs name (merged_maybe payload) is_label h)
  prints (type.enum names) labels distinct v (name, of, e) =
      subst (λ (z : Value). IsPrinted (type.enum names) (merged z)) (sym e) (enum_row names name (one_label names name labels of) of)
  prints (type.option P) labels distinct v (inl e) = subst (λ (z : Value). IsPrinted (type.option P) (merged z)) (sym e) (none_row P)
  prints (type.option P) labels distinct v (inr (w, of, e)) =
      subst (λ (z : Value). IsPrinted (type.option P) (merged z)) (sym e) (some_row P (merged w) (prints P labels distinct w of))
  prints (type.result A B) labels distinct v (inl (payload, of, e)) =
      subst (λ (z : Value). IsPrinted (type.result A B) (merged z)) (sym e) (ok_row A B (merged_maybe payload) (prints_payload A labels.0 distinct.0 payload of))
  prints (type.result A B) labels distinct v (inr (payload, of, e)) =
      subst (λ (z : Value). IsPrinted (type.result A B) (merged z)) (sym e) (err_row A B (merged_maybe payload) (prints_payload B labels.1 distinct.1 payload of))
  prints (type.flags names) labels distinct v (picked, of, e) =
      subst (λ (z : Value). IsPrinted (type.flags names) (merged z)) (sym e) (flags_row names picked labels distinct of)
  prints (type.map K V) labels distinct v (es, all, e) =
      subst (λ (z : Value). IsPrinted (type.map K V) (merged z)) (sym e)
      (map_row K V es (all_of (λ x. IsLeafOf K x.0 × HasType V x.1) (λ x. IsLeafOf K x.0 × IsPrinted V (merged x.1)) (λ x of. (of.0, prints V labels distinct x.1 of.1)) es all))

  -- a payload
  pub prints_payload : (A : MaybeType) → EachNamesOfMaybe (AllOf IsLabel) A → EachNamesOfMaybe AreDistinct A → (payload : MaybeValue) → HasPayload A payload → IsPayloadPrinted A (merged_maybe payload)
  prints_payload type.no_type labels distinct payload e = subst (λ (z : MaybeValue). IsPayloadPrinted type.no_type (merged_maybe z)) (sym e) (λ n l. bare_print)
  prints_payload (type.a_type T) labels distinct payload (w, of, e) =
      subst (λ (z : MaybeValue). IsPayloadPrinted (type.a_type T) (merged_maybe z)) (sym e) (λ n l. payload_print (Writes T n) (merged w) (prints T labels distinct w of n l))

  -- the values of a tuple
  pub prints_types : (Ts : Types) → EachNamesOfTypes (AllOf IsLabel) Ts → EachNamesOfTypes AreDistinct Ts → (vs : List Value) → HasTypes Ts vs → (n : ℕ) → height_of_values (merged_values (values vs)) ≤ n
      → TuplePrints Ts n (printed_items (merged_values (values vs))) (map merged vs)
  prints_types type.no_types labels distinct vs e n l = subst (λ (z : List Value). TuplePrints type.no_types n (printed_items (merged_values (values z))) (map merged z)) (sym e) tt
  prints_types (type.type_and T more) labels distinct vs (w, others, of, rest, e) n l =
      let low : height_of_values (merged_values (values (w ∷ others))) ≤ n = subst (λ (z : List Value). height_of_values (merged_values (values z)) ≤ n) e l in
      subst (λ (z : List Value). TuplePrints (type.type_and T more) n (printed_items (merged_values (values z))) (map merged z)) (sym e)
      (prints T labels.0 distinct.0 w of n (omega arith), prints_types more labels.1 distinct.1 others rest n (omega arith))

  -- the fields of a record
  pub prints_fields : (fs : Fields) → EachNamesOfFields (AllOf IsLabel) fs → EachNamesOfFields AreDistinct fs → (all : FieldValues) → HasFields fs all → FieldsPrint fs (merged_fields all)
  prints_fields type.no_fields labels distinct all e = subst (λ (z : FieldValues). FieldsPrint type.no_fields (merged_fields z)) (sym e) tt
  prints_fields (type.field name T more) labels distinct all (w, others, of, rest, e) =
      subst (λ (z : FieldValues). FieldsPrint (type.field name T more) (merged_fields z)) (sym e) (refl, prints T labels.0 distinct.0 w of, prints_fields more labels.1 distinct.1 others rest)

  -- the payload of a case, whose name is a label
  pub prints_case : (cs : Cases) → AllOf IsLabel (case_names cs) → EachNamesOfCases (AllOf IsLabel) cs → EachNamesOfCases AreDistinct cs → (name : List ℕ) (payload : MaybeValue) → HasCase cs name payload
      → IsLabel name × ((n : ℕ) → height_of_maybe (merged_maybe payload) ≤ n → Prints (WritesCase cs n name) (printed_payload (merged_maybe payload)) (merged_maybe payload))
  prints_case type.no_cases names labels distinct name payload of = absurd of
  prints_case (type.case_of other T more) names labels distinct name payload (inl (same, of)) = (
    subst IsLabel (sym same) names.0,
    λ n l r rest s cut. let (tokens, c, i) = prints_payload T labels.0 distinct.0 payload of n l r rest s cut in (tokens, c, inl (same, i)),
  )
  prints_case (type.case_of other T more) names labels distinct name payload (inr of) =
      let (is_label, h) = prints_case more names.1 labels.1 distinct.1 name payload of in
      (is_label, λ n l r rest s cut. let (tokens, c, i) = h n l r rest s cut in (tokens, c, inr i))
