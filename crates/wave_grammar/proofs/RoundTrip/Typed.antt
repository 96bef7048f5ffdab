-- What is read at a type from the tokens of a text is of the type.
use Rattle.std.proofs.Common.{◌≡◌, ℕ, ◌<◌, ◌-◌, ◌⊎◌, inl, inr, Bool, true, false, List, [], ◌∷◌, length, Option, Some, None, refl, sym, subst}
use Rattle.std.specs.Prelude.{if◌then◌else◌}
use Rattle.std.specs.Str.{bytes_eq, IsUtf8}
use Rattle.std.proofs.lemmas.Slice.Eq.{bytes_eq-Decides}
use Rattle.wave_wasm.specs.Lists.{AllOf}
use Rattle.wave_wasm.specs.Types as type
use Rattle.wave_wasm.specs.Types.{TypeTree, MaybeType, Types, Fields, Cases, Simple, field_names, HasDistinctNames, EachNamesOfMaybe, EachNamesOfTypes, EachNamesOfFields, EachNamesOfCases}
use Rattle.wave_wasm.specs.Names.{IsOneOf, AreDistinct, ArePicked, is_one_of, found_in}
use Rattle.wave_wasm.specs.Values as value
use Rattle.wave_wasm.specs.Values.{Value, MaybeValue, FieldValues, Leaf, no_value, a_value, values, entries}
use Rattle.wave_wasm.specs.HasType.{HasType, HasPayload, HasTypes, HasFields, HasCase, IsLeafOf}
use Rattle.wave_wasm.specs.Merge.{merge, leaf_eq}
use Rattle.wave_grammar.specs.Token.{Token, text_of, brace_open, brace_close, bracket_open, bracket_close, paren_close}
use Rattle.wave_grammar.specs.CommaSeparated.{Spelling, FurtherItems, Items, Listed}
use Rattle.wave_grammar.specs.TypedGrammar as r
use Rattle.wave_grammar.specs.TypedGrammar.{Reads, ReadsPayload, ReadsFlat, ReadsTuple, ReadsFurther, ReadsField, ReadsCase, IsFlat, IsOption, FieldIs, Fills, look_up}
use Rattle.wave_grammar.proofs.Unambiguity.Values.{one-none}
use Rattle.wave_grammar.proofs.RoundTrip.Names.{merge_keeps}
use Rattle.wave_grammar.proofs.RoundTrip.Utf8.{spelled_sound}

-- each token is UTF-8
abbrev pub AreUtf8 : List Token → Type 0
AreUtf8 tokens = AllOf (λ t. IsUtf8 (text_of t)) tokens

-- from tokens of UTF-8 an item is read of which Q holds
abbrev pub Reading : {A : Type 0} → Spelling A → (A → Type 0) → Type 0
Reading {A} P Q = (tokens : List Token) (a : A) (rest : List Token) → AreUtf8 tokens → P tokens a rest → Q a × AreUtf8 rest

-- ---- items

further_typed : {A : Type 0} (close : Token) (P : Spelling A) (Q : A → Type 0) → Reading P Q → Reading (FurtherItems close P) (AllOf Q)
further_typed close P Q reading tokens [] rest u (inl e) = (tt, (subst AreUtf8 e u).1)
further_typed close P Q reading tokens [] rest u (inr e) = (tt, (subst AreUtf8 e u).1.1)
further_typed close P Q reading tokens (a ∷ items) rest u (prefix, behind, e, p, h) =
    let (q, v) = reading prefix a behind (subst AreUtf8 e u).1 p in
    let (all, w) = further_typed close P Q reading behind items rest v h in ((q, all), w)

items_typed : {A : Type 0} (close : Token) (P : Spelling A) (Q : A → Type 0) → Reading P Q → Reading (Items close P) (AllOf Q)
items_typed close P Q reading tokens [] rest u e = (tt, (subst AreUtf8 e u).1)
items_typed close P Q reading tokens (a ∷ items) rest u (behind, p, h) =
    let (q, v) = reading tokens a behind u p in
    let (all, w) = further_typed close P Q reading behind items rest v h in ((q, all), w)

listed_typed : {A : Type 0} (open_mark close : Token) (P : Spelling A) (Q : A → Type 0) → Reading P Q → Reading (Listed open_mark close P) (AllOf Q)
listed_typed open_mark close P Q reading tokens items rest u (inside, e, h) = items_typed close P Q reading inside items rest (subst AreUtf8 e u).1 h

empty_typed : {A : Type 0} (Q : A → Type 0) → Reading (r.EmptyBraces {A = A}) (AllOf Q)
empty_typed Q tokens items rest u (e, f) = (subst (AllOf Q) (sym f) tt, (subst AreUtf8 e u).1.1.1)

-- ---- the rows

simple_typed : (S : Simple) (n : ℕ) → Reading (Reads (type.simple S) n) (HasType (type.simple S))
simple_typed S n tokens v rest u (some, (token, one, e, h, f)) = let w = subst AreUtf8 e u in ((one, spelled_sound S token one w.0 h, f), w.1)

list_typed : (E : TypeTree) (n : ℕ) (P : Spelling Value) → Reading P (HasType E) → Reading (r.Provided (0 < n) (r.AList P)) (HasType (type.list E))
list_typed E n P reading tokens v rest u (some, (items, h, e)) =
    let (all, w) = listed_typed bracket_open bracket_close P (HasType E) reading tokens items rest u h in ((items, all, e), w)

fixed_typed : (E : TypeTree) (count n : ℕ) (P : Spelling Value) → Reading P (HasType E) → Reading (r.Provided (0 < n) (r.AFixedList count P)) (HasType (type.fixed E count))
fixed_typed E count n P reading tokens v rest u (some, (items, h, long, e)) =
    let (all, w) = listed_typed bracket_open bracket_close P (HasType E) reading tokens items rest u h in ((items, all, long, e), w)

tuple_typed : (Ts : Types) (n : ℕ) (P : Spelling (List Value)) → Reading P (HasTypes Ts) → Reading (r.Provided (0 < n) (r.ATuple P)) (HasType (type.tuple Ts))
tuple_typed Ts n P reading tokens v rest u (some, (items, prefix, e, h, f)) =
    let (all, w) = reading prefix items rest (subst AreUtf8 e u).1 h in ((items, all, f), w)

first_typed : (T : TypeTree) (more : Types) (P : Spelling Value) (Further : Spelling (List Value)) → Reading P (HasType T) → Reading Further (HasTypes more) → Reading (r.First P Further) (HasTypes (type.type_and T more))
first_typed T more P Further one others tokens items rest u (w, ws, behind, p, h, e) =
    let (q, v) = one tokens w behind u p in
    let (all, x) = others behind ws rest v h in ((w, ws, q, all, e), x)

then_typed : (T : TypeTree) (more : Types) (P : Spelling Value) (Further : Spelling (List Value)) → Reading P (HasType T) → Reading Further (HasTypes more) → Reading (r.Then P Further) (HasTypes (type.type_and T more))
then_typed T more P Further one others tokens items rest u (prefix, e, h) = first_typed T more P Further one others prefix items rest (subst AreUtf8 e u).1 h

end_typed : Reading r.End (HasTypes type.no_types)
end_typed tokens items rest u (inl e, f) = (f, (subst AreUtf8 e u).1)
end_typed tokens items rest u (inr e, f) = (f, (subst AreUtf8 e u).1.1)

-- ---- records

-- the value is of a field of this name
abbrev pub IsOfField : Fields → List ℕ → Value → Type 0
IsOfField type.no_fields name v = ⊥
IsOfField (type.field other T more) name v = (name ≡ other) × HasType T v ⊎ IsOfField more name v

of_name : (fs : Fields) (name : List ℕ) (v : Value) → IsOfField fs name v → IsOneOf (field_names fs) name
of_name type.no_fields name v h = absurd h
of_name (type.field other T more) name v (inl h) = inl h.0
of_name (type.field other T more) name v (inr h) = inr (of_name more name v h)

found_of : (Q : List ℕ → Value → Type 0) (found : List (List ℕ × Value)) (name : List ℕ) (w : Value) → AllOf (λ e. Q e.0 e.1) found → look_up found name ≡ Some w → Q name w
found_of Q [] name w h e = cc
found_of Q (f ∷ found) name w h e = by_test (bytes_eq name f.0) refl (found_of Q found name w h.1) e
  where
    by_test : (t : Bool) → bytes_eq name f.0 ≡ t → (look_up found name ≡ Some w → Q name w) → (if t then Some f.1 else look_up found name) ≡ Some w → Q name w
    by_test true same more g =
        let names : name ≡ f.0 = (bytes_eq-Decides name f.0).0 same in
        let one : f.1 ≡ w = cc in subst (λ (z : List ℕ). Q z w) (sym names) (subst (Q f.0) one h.0)
    by_test false same more g = more g

-- what is found under the fields' names is of the fields
abbrev AreOfFields : Fields → List (List ℕ × Value) → Type 0
AreOfFields fs found = (name : List ℕ) (w : Value) → IsOneOf (field_names fs) name → look_up found name ≡ Some w → IsOfField fs name w

omitted : (T : TypeTree) → IsOption T → HasType T (value.option no_value)
omitted (type.option P) h = inl refl
omitted _ h = absurd h

filled_typed : (fs : Fields) (found : List (List ℕ × Value)) (all : FieldValues) → AreDistinct (field_names fs) → AreOfFields fs found → Fills fs found all → HasFields fs all
filled_typed type.no_fields found all d h e = e
filled_typed (type.field name T more) found all d h (v, others, is, fills, e) =
    (v, others, here (look_up found name) refl is, filled_typed more found others d.1 past fills, e)
  where
    first : (w : Value) → IsOfField (type.field name T more) name w → HasType T w
    first w (inl k) = k.1
    first w (inr k) = absurd (one-none (field_names more) name (of_name more name w k) d.0)

    here : (o : Option Value) → look_up found name ≡ o → FieldIs T o v → HasType T v
    here None f k = subst (HasType T) (sym k.1) (omitted T k.0)
    here (Some w) f k = subst (HasType T) (sym k) (first w (h name w (inl refl) f))

    later : (other : List ℕ) (w : Value) → IsOneOf (field_names more) other → IsOfField (type.field name T more) other w → IsOfField more other w
    later other w one (inl k) = absurd (one-none (field_names more) name (subst (IsOneOf (field_names more)) k.0 one) d.0)
    later other w one (inr k) = k

    past : AreOfFields more found
    past other w one f = later other w one (h other w (inr one) f)

named_typed : (fs : Fields) (P : List ℕ → Spelling Value) → ((name : List ℕ) → Reading (P name) (IsOfField fs name)) → Reading (r.Named P) (λ e. IsOfField fs e.0 e.1)
named_typed fs P reading tokens e rest u (text, prefix, f, g, p) = reading e.0 prefix e.1 rest (subst AreUtf8 f u).1.1 p

record_typed : (fs : Fields) (n : ℕ) (P : List ℕ → Spelling Value) → AreDistinct (field_names fs) → ((name : List ℕ) → Reading (P name) (IsOfField fs name)) → Reading (r.Provided (0 < n) (r.ARecord fs P)) (HasType (type.record_type fs))
record_typed fs n P distinct reading tokens v rest u (some, (found, all, braces, d, fills, e)) =
    let (h, w) = all_found braces in
    ((all, filled_typed fs found all distinct (λ name x one f. found_of (IsOfField fs) found name x h f) fills, e), w)
  where
    all_found : (r.EmptyBraces tokens found rest ⊎ Listed brace_open brace_close (r.Named P) tokens found rest × (0 < length found)) → AllOf (λ f. IsOfField fs f.0 f.1) found × AreUtf8 rest
    all_found (inl h) = empty_typed (λ f. IsOfField fs f.0 f.1) tokens found rest u h
    all_found (inr (h, l)) = listed_typed brace_open brace_close (r.Named P) (λ f. IsOfField fs f.0 f.1) (named_typed fs P reading) tokens found rest u h

-- ---- cases, options and results

variant_typed : (cs : Cases) (n : ℕ) (P : List ℕ → Spelling MaybeValue) → ((name : List ℕ) → Reading (P name) (HasCase cs name)) → Reading (r.Provided (0 < n) (r.AVariant P)) (HasType (type.variant cs))
variant_typed cs n P reading tokens v rest u (some, (name, payload, behind, (text, e, f, k), p, g)) =
    let (h, w) = reading name behind payload rest (subst AreUtf8 e u).1 p in ((name, payload, h, g), w)

enum_typed : (names : List (List ℕ)) (n : ℕ) → Reading (Reads (type.enum names) n) (HasType (type.enum names))
enum_typed names n tokens v rest u (some, (name, (text, e, f, k), of, g)) = ((name, of, g), (subst AreUtf8 e u).1)

bare_typed : Reading r.Bare (HasPayload type.no_type)
bare_typed tokens payload rest u (e, f) = (f, subst AreUtf8 e u)

payload_typed : (T : TypeTree) (P : Spelling Value) → Reading P (HasType T) → Reading (r.Payload P) (HasPayload (type.a_type T))
payload_typed T P reading tokens payload rest u (w, (prefix, e, p), f) =
    let (h, v) = reading prefix w (paren_close ∷ rest) (subst AreUtf8 e u).1 p in ((w, h, f), v.1)

option_typed : (P : TypeTree) (n : ℕ) → Reading (Reads P (n - 1)) (HasType P) → Reading (Reads P n) (HasType P) → Reading (Reads (type.option P) n) (HasType (type.option P))
option_typed P n inner flat tokens v rest u (inl (some, inl (e, f))) = (inl f, (subst AreUtf8 e u).1)
option_typed P n inner flat tokens v rest u (inl (some, inr (w, (behind, e, (prefix, f, p)), g))) =
    let (h, x) = inner prefix w (paren_close ∷ rest) (subst AreUtf8 f (subst AreUtf8 e u).1).1 p in (inr (w, h, g), x.1)
option_typed P n inner flat tokens v rest u (inr (w, (is_flat, p), e)) = let (h, x) = flat tokens w rest u p in (inr (w, h, e), x)

result_typed : (A B : MaybeType) (n : ℕ) → Reading (ReadsPayload A (n - 1)) (HasPayload A) → Reading (ReadsPayload B (n - 1)) (HasPayload B) → Reading (ReadsFlat A n) (λ w. HasPayload A (a_value w))
    → Reading (Reads (type.result A B) n) (HasType (type.result A B))
result_typed A B n one two flat tokens v rest u (inl (some, inl (payload, (behind, e, p), f))) =
    let (h, x) = one behind payload rest (subst AreUtf8 e u).1 p in (inl (payload, h, f), x)
result_typed A B n one two flat tokens v rest u (inl (some, inr (payload, (behind, e, p), f))) =
    let (h, x) = two behind payload rest (subst AreUtf8 e u).1 p in (inr (payload, h, f), x)
result_typed A B n one two flat tokens v rest u (inr (w, p, e)) = let (h, x) = flat tokens w rest u p in (inl (a_value w, h, e), x)

flat_typed : (T : TypeTree) (n : ℕ) → Reading (Reads T n) (HasType T) → Reading (ReadsFlat (type.a_type T) n) (λ w. HasPayload (type.a_type T) (a_value w))
flat_typed T n reading tokens w rest u (flat, p) = let (h, x) = reading tokens w rest u p in ((w, h, refl), x)

-- ---- flags and maps

-- what is found of names is picked of them
pub found_picked : (found names : List (List ℕ)) → ArePicked names (found_in found names)
found_picked found [] = refl
found_picked found (name ∷ more) = by_test (is_one_of found name) (found_picked found more)
  where
    by_test : (t : Bool) → ArePicked more (found_in found more) → ArePicked (name ∷ more) (if t then name ∷ found_in found more else found_in found more)
    by_test true h = inr (found_in found more, refl, h)
    by_test false h = inl h

name_typed : Reading r.Name (λ name. Unit {0})
name_typed tokens name rest u (text, e, f) = (tt, (subst AreUtf8 e u).1)

flags_typed : (names : List (List ℕ)) (n : ℕ) → Reading (Reads (type.flags names) n) (HasType (type.flags names))
flags_typed names n tokens v rest u (some, (found, h, d, of, e)) =
    ((found_in found names, found_picked found names, e), (listed_typed brace_open brace_close r.Name (λ name. Unit {0}) name_typed tokens found rest u h).1)

keyed_typed : (K : Simple) (V : TypeTree) (P : Spelling Value) → Reading P (HasType V) → Reading (r.Keyed K P) (λ e. IsLeafOf K e.0 × HasType V e.1)
keyed_typed K V P reading tokens e rest u (token, prefix, f, k, p) =
    let w = subst AreUtf8 f u in
    let (h, x) = reading prefix e.1 rest w.1.1 p in ((spelled_sound K token e.0 w.0 k, h), x)

map_typed : (K : Simple) (V : TypeTree) (n : ℕ) (P : Spelling Value) → Reading P (HasType V) → Reading (r.Provided (0 < n) (r.AMap K P)) (HasType (type.map K V))
map_typed K V n P reading tokens v rest u (some, (pairs, braces, e)) =
    let (h, w) = all_pairs braces in ((merge leaf_eq pairs, merge_keeps leaf_eq (IsLeafOf K) (HasType V) pairs h, e), w)
  where
    all_pairs : (r.EmptyBraces tokens pairs rest ⊎ Listed brace_open brace_close (r.Keyed K P) tokens pairs rest) → AllOf (λ f. IsLeafOf K f.0 × HasType V f.1) pairs × AreUtf8 rest
    all_pairs (inl h) = empty_typed (λ f. IsLeafOf K f.0 × HasType V f.1) tokens pairs rest u h
    all_pairs (inr h) = listed_typed brace_open brace_close (r.Keyed K P) (λ f. IsLeafOf K f.0 × HasType V f.1) (keyed_typed K V P reading) tokens pairs rest u h

-- ---- any type

never_typed : {A : Type 0} (Q : A → Type 0) → Reading r.Never Q
never_typed Q tokens a rest u h = absurd h

field_typed : (other : List ℕ) (T : TypeTree) (more : Fields) (name : List ℕ) (P P' : Spelling Value) → Reading P (HasType T) → Reading P' (IsOfField more name) → Reading (r.Either (r.Provided (name ≡ other) P) P') (IsOfField (type.field other T more) name)
field_typed other T more name P P' one two tokens v rest u (inl (e, p)) = let (h, x) = one tokens v rest u p in (inl (e, h), x)
field_typed other T more name P P' one two tokens v rest u (inr p) = let (h, x) = two tokens v rest u p in (inr h, x)

case_typed : (other : List ℕ) (T : MaybeType) (more : Cases) (name : List ℕ) (P P' : Spelling MaybeValue) → Reading P (HasPayload T) → Reading P' (HasCase more name) → Reading (r.Either (r.Provided (name ≡ other) P) P') (HasCase (type.case_of other T more) name)
case_typed other T more name P P' one two tokens v rest u (inl (e, p)) = let (h, x) = one tokens v rest u p in (inl (e, h), x)
case_typed other T more name P P' one two tokens v rest u (inr p) = let (h, x) = two tokens v rest u p in (inr h, x)

mutual
  pub typed : (T : TypeTree) → HasDistinctNames T → (n : ℕ) → Reading (Reads T n) (HasType T)
  typed (type.simple S) d n = simple_typed S n
  typed (type.unreadable kind) d n = never_typed (HasType (type.unreadable kind))
  typed (type.list E) d n = list_typed E n (Reads E (n - 1)) (typed E d (n - 1))
  typed (type.fixed E count) d n = fixed_typed E count n (Reads E (n - 1)) (typed E d (n - 1))
  typed (type.record_type fs) d n = record_typed fs n (ReadsField fs (n - 1)) d.0 (λ name. typed_field fs d.1 (n - 1) name)
  typed (type.tuple Ts) d n = tuple_typed Ts n (ReadsTuple Ts (n - 1)) (typed_tuple Ts d (n - 1))
  typed (type.variant cs) d n = variant_typed cs n (ReadsCase cs (n - 1)) (λ name. typed_case cs d.1 (n - 1) name)
  typed (type.enum names) d n = enum_typed names n
  typed (type.option P) d n = option_typed P n (typed P d (n - 1)) (typed P d n)
  typed (type.result A B) d n = result_typed A B n (typed_payload A d.0 (n - 1)) (typed_payload B d.1 (n - 1)) (typed_flat A d.0 n)
  typed (type.flags names) d n = flags_typed names n
  typed (type.map K V) d n = map_typed K V n (Reads V (n - 1)) (typed V d (n - 1))

  -- a payload
  pub typed_payload : (A : MaybeType) → EachNamesOfMaybe AreDistinct A → (n : ℕ) → Reading (ReadsPayload A n) (HasPayload A)
  typed_payload type.no_type d n = bare_typed
  typed_payload (type.a_type T) d n = payload_typed T (Reads T n) (typed T d n)

  -- a value that stands for `ok` of itself
  pub typed_flat : (A : MaybeType) → EachNamesOfMaybe AreDistinct A → (n : ℕ) → Reading (ReadsFlat A n) (λ w. HasPayload A (a_value w))
  typed_flat type.no_type d n = never_typed (λ w. HasPayload type.no_type (a_value w))
  typed_flat (type.a_type T) d n = flat_typed T n (typed T d n)

  -- the values of a tuple
  pub typed_tuple : (Ts : Types) → EachNamesOfTypes AreDistinct Ts → (n : ℕ) → Reading (ReadsTuple Ts n) (HasTypes Ts)
  typed_tuple type.no_types d n = never_typed (HasTypes type.no_types)
  typed_tuple (type.type_and T more) d n = first_typed T more (Reads T n) (ReadsFurther more n) (typed T d.0 n) (typed_further more d.1 n)

  -- the further values of a tuple
  pub typed_further : (Ts : Types) → EachNamesOfTypes AreDistinct Ts → (n : ℕ) → Reading (ReadsFurther Ts n) (HasTypes Ts)
  typed_further type.no_types d n = end_typed
  typed_further (type.type_and T more) d n = then_typed T more (Reads T n) (ReadsFurther more n) (typed T d.0 n) (typed_further more d.1 n)

  -- a field of this name
  pub typed_field : (fs : Fields) → EachNamesOfFields AreDistinct fs → (n : ℕ) (name : List ℕ) → Reading (ReadsField fs n name) (IsOfField fs name)
  typed_field type.no_fields d n name = never_typed (IsOfField type.no_fields name)
  typed_field (type.field other T more) d n name = field_typed other T more name (Reads T n) (ReadsField more n name) (typed T d.0 n) (typed_field more d.1 n name)

  -- the payload of the case of this name
  pub typed_case : (cs : Cases) → EachNamesOfCases AreDistinct cs → (n : ℕ) (name : List ℕ) → Reading (ReadsCase cs n name) (HasCase cs name)
  typed_case type.no_cases d n name = never_typed (HasCase type.no_cases name)
  typed_case (type.case_of other T more) d n name = case_typed other T more name (ReadsPayload T n) (ReadsCase more n name) (typed_payload T d.0 n) (typed_case more d.1 n name)
