-- What is read is merged, and its canonical text has at most twice the levels.
use Rattle.std.proofs.Common.{◌≡◌, ℕ, ◌≤◌, ◌<◌, ◌-◌, ◌*◌, ◌⊎◌, inl, inr, Bool, true, false, List, [], ◌∷◌, length, Option, Some, None, refl, sym, ap, ◌∙◌, subst, arith}
use Rattle.std.specs.Prelude.{if◌then◌else◌}
use Rattle.std.specs.Str.{bytes_eq}
use Rattle.wave_wasm.specs.Lists.{AllOf}
use Rattle.wave_wasm.specs.Types as type
use Rattle.wave_wasm.specs.Types.{TypeTree, MaybeType, Types, Fields, Cases, Simple}
use Rattle.wave_wasm.specs.Values as value
use Rattle.wave_wasm.specs.Values.{Value, MaybeValue, FieldValues, Leaf, no_value, a_value, values, entries}
use Rattle.wave_wasm.specs.Merge.{merge, leaf_eq, merged, merged_maybe, merged_values, merged_fields, merged_entries}
use Rattle.wave_wasm.specs.Names.{found_in}
use Rattle.wave_wasm.specs.Text.{is_no_option}
use Rattle.wave_grammar.specs.Token.{Token, brace_open, brace_close, bracket_open, bracket_close, paren_close}
use Rattle.wave_grammar.specs.CommaSeparated.{Spelling, FurtherItems, Items, Listed}
use Rattle.wave_grammar.specs.TypedGrammar as r
use Rattle.wave_grammar.specs.TypedGrammar.{Reads, ReadsPayload, ReadsFlat, ReadsTuple, ReadsFurther, ReadsField, ReadsCase, IsFlat, IsOption, FieldIs, Fills, look_up}
use Rattle.wave_grammar.proofs.RoundTrip.Depth.{height, height_of_maybe, height_of_values, height_of_fields, height_of_entries}
use Rattle.wave_grammar.proofs.RoundTrip.Names.{merge_twice, merge_keeps}

-- the value is merged, and its text has at most b levels
abbrev pub IsTidy : ℕ → Value → Type 0
IsTidy b v = (merged v ≡ v) × (height v ≤ b)

-- so is a payload
abbrev pub IsTidyMaybe : ℕ → MaybeValue → Type 0
IsTidyMaybe b payload = (merged_maybe payload ≡ payload) × (height_of_maybe payload ≤ b)

-- what is read within n levels: one level fewer, where no option or result may stand around it
abbrev pub IsTidyAt : TypeTree → ℕ → Value → Type 0
IsTidyAt T n v = (merged v ≡ v) × (height v ≤ 2 * n) × (IsFlat T → height v < 2 * n)

-- what is read is an item of which Q holds
abbrev pub Gives : {A : Type 0} → Spelling A → (A → Type 0) → Type 0
Gives {A} P Q = (tokens : List Token) (a : A) (rest : List Token) → P tokens a rest → Q a

-- ---- items

further_all : {A : Type 0} (close : Token) (P : Spelling A) (Q : A → Type 0) → Gives P Q → Gives (FurtherItems close P) (AllOf Q)
further_all close P Q gives tokens [] rest h = tt
further_all close P Q gives tokens (a ∷ items) rest (prefix, behind, e, p, h) = (gives prefix a behind p, further_all close P Q gives behind items rest h)

items_all : {A : Type 0} (close : Token) (P : Spelling A) (Q : A → Type 0) → Gives P Q → Gives (Items close P) (AllOf Q)
items_all close P Q gives tokens [] rest h = tt
items_all close P Q gives tokens (a ∷ items) rest (behind, p, h) = (gives tokens a behind p, further_all close P Q gives behind items rest h)

listed_all : {A : Type 0} (open_mark close : Token) (P : Spelling A) (Q : A → Type 0) → Gives P Q → Gives (Listed open_mark close P) (AllOf Q)
listed_all open_mark close P Q gives tokens items rest (inside, e, h) = items_all close P Q gives inside items rest h

-- items that are tidy
tidy_items : (b : ℕ) (vs : List Value) → AllOf (IsTidy b) vs → (merged_values (values vs) ≡ values vs) × (height_of_values (values vs) ≤ b)
tidy_items b [] h = (refl, omega arith)
tidy_items b (v ∷ vs) h =
    let (e, l) = tidy_items b vs h.1 in
    let first : merged v ≡ v = h.0.0 in
    let low : height v ≤ b = h.0.1 in
    (cc, omega arith)

-- ---- the rows

-- one level more
strictly : (T : TypeTree) (n : ℕ) (v : Value) → merged v ≡ v → height v < 2 * n → IsTidyAt T n v
strictly T n v e l = (e, omega arith, λ flat. l)

-- the same for a value that another is equal to
moved : (T : TypeTree) (n : ℕ) (v w : Value) → v ≡ w → IsTidyAt T n w → IsTidyAt T n v
moved T n v w e h = subst (λ (z : Value). IsTidyAt T n z) (sym e) h

list_tidy : (E : TypeTree) (n : ℕ) (P : Spelling Value) → Gives P (IsTidy (2 * (n - 1))) → Gives (r.Provided (0 < n) (r.AList P)) (IsTidyAt (type.list E) n)
list_tidy E n P gives tokens v rest (some, (items, h, e)) =
    let (f, l) = tidy_items (2 * (n - 1)) items (listed_all bracket_open bracket_close P (IsTidy (2 * (n - 1))) gives tokens items rest h) in
    moved (type.list E) n v (value.list (values items)) e (strictly (type.list E) n (value.list (values items)) (ap value.list f) (omega arith))

fixed_tidy : (E : TypeTree) (count n : ℕ) (P : Spelling Value) → Gives P (IsTidy (2 * (n - 1))) → Gives (r.Provided (0 < n) (r.AFixedList count P)) (IsTidyAt (type.fixed E count) n)
fixed_tidy E count n P gives tokens v rest (some, (items, h, long, e)) =
    let (f, l) = tidy_items (2 * (n - 1)) items (listed_all bracket_open bracket_close P (IsTidy (2 * (n - 1))) gives tokens items rest h) in
    moved (type.fixed E count) n v (value.fixed (values items)) e (strictly (type.fixed E count) n (value.fixed (values items)) (ap value.fixed f) (omega arith))

tuple_tidy : (Ts : Types) (n : ℕ) (P : Spelling (List Value)) → Gives P (AllOf (IsTidy (2 * (n - 1)))) → Gives (r.Provided (0 < n) (r.ATuple P)) (IsTidyAt (type.tuple Ts) n)
tuple_tidy Ts n P gives tokens v rest (some, (items, prefix, e, h, f)) =
    let (g, l) = tidy_items (2 * (n - 1)) items (gives prefix items rest h) in
    moved (type.tuple Ts) n v (value.tuple (values items)) f (strictly (type.tuple Ts) n (value.tuple (values items)) (ap value.tuple g) (omega arith))

-- what is found under a name
looked : {A : Type 0} (Q : A → Type 0) (found : List (List ℕ × A)) (name : List ℕ) (a : A) → AllOf (λ e. Q e.1) found → look_up found name ≡ Some a → Q a
looked Q [] name a h e = cc
looked Q (f ∷ found) name a h e = by_test (bytes_eq name f.0) (looked Q found name a h.1) e
  where
    by_test : (t : Bool) → (look_up found name ≡ Some a → Q a) → (if t then Some f.1 else look_up found name) ≡ Some a → Q a
    by_test true more g = let same : f.1 ≡ a = cc in subst Q same h.0
    by_test false more g = more g

-- a field's value, found or omitted
field_tidy : (T : TypeTree) (b : ℕ) (found : List (List ℕ × Value)) (name : List ℕ) (v : Value) → AllOf (λ e. IsTidy b e.1) found → (o : Option Value) → look_up found name ≡ o → FieldIs T o v
    → (merged v ≡ v) × ((if is_no_option v then 0 else height v) ≤ b)
field_tidy T b found name v h None e (option, f) = subst (λ (z : Value). (merged z ≡ z) × ((if is_no_option z then 0 else height z) ≤ b)) (sym f) (refl, omega arith)
field_tidy T b found name v h (Some w) e f =
    let k : IsTidy b w = looked (IsTidy b) found name w h e in
    subst (λ (z : Value). (merged z ≡ z) × ((if is_no_option z then 0 else height z) ≤ b)) (sym f) (k.0, by_test (is_no_option w) k.1)
  where
    by_test : (t : Bool) → height w ≤ b → (if t then 0 else height w) ≤ b
    by_test true l = omega arith
    by_test false l = l

fields_tidy : (fs : Fields) (b : ℕ) (found : List (List ℕ × Value)) (all : FieldValues) → AllOf (λ e. IsTidy b e.1) found → Fills fs found all → (merged_fields all ≡ all) × (height_of_fields all ≤ b)
fields_tidy type.no_fields b found all h e = subst (λ (z : FieldValues). (merged_fields z ≡ z) × (height_of_fields z ≤ b)) (sym e) (refl, omega arith)
fields_tidy (type.field name T more) b found all h (v, others, is, fills, e) =
    let (f, l) = field_tidy T b found name v h (look_up found name) refl is in
    let (g, m) = fields_tidy more b found others h fills in
    subst (λ (z : FieldValues). (merged_fields z ≡ z) × (height_of_fields z ≤ b)) (sym e) (cc, omega arith)

named_tidy : (b : ℕ) (P : List ℕ → Spelling Value) → ((name : List ℕ) → Gives (P name) (IsTidy b)) → Gives (r.Named P) (λ e. IsTidy b e.1)
named_tidy b P gives tokens e rest (text, prefix, f, g, p) = gives e.0 prefix e.1 rest p

record_tidy : (fs : Fields) (n : ℕ) (P : List ℕ → Spelling Value) → ((name : List ℕ) → Gives (P name) (IsTidy (2 * (n - 1)))) → Gives (r.Provided (0 < n) (r.ARecord fs P)) (IsTidyAt (type.record_type fs) n)
record_tidy fs n P gives tokens v rest (some, (found, all, braces, distinct, fills, e)) =
    let (f, l) = fields_tidy fs (2 * (n - 1)) found all (all_found braces) fills in
    moved (type.record_type fs) n v (value.record_value all) e (strictly (type.record_type fs) n (value.record_value all) (ap value.record_value f) (omega arith))
  where
    all_found : (r.EmptyBraces tokens found rest ⊎ Listed brace_open brace_close (r.Named P) tokens found rest × (0 < length found)) → AllOf (λ f. IsTidy (2 * (n - 1)) f.1) found
    all_found (inl (f, g)) = subst (AllOf (λ (x : List ℕ × Value). IsTidy (2 * (n - 1)) x.1)) (sym g) tt
    all_found (inr (h, l)) = listed_all brace_open brace_close (r.Named P) (λ f. IsTidy (2 * (n - 1)) f.1) (named_tidy (2 * (n - 1)) P gives) tokens found rest h

variant_tidy : (cs : Cases) (n : ℕ) (P : List ℕ → Spelling MaybeValue) → ((name : List ℕ) → Gives (P name) (IsTidyMaybe (2 * (n - 1)))) → Gives (r.Provided (0 < n) (r.AVariant P)) (IsTidyAt (type.variant cs) n)
variant_tidy cs n P gives tokens v rest (some, (name, payload, behind, h, p, e)) =
    let (f, l) = gives name behind payload rest p in
    moved (type.variant cs) n v (value.variant name payload) e (strictly (type.variant cs) n (value.variant name payload) (ap (value.variant name) f) (omega arith))

payload_tidy : (b : ℕ) (P : Spelling Value) → Gives P (IsTidy b) → Gives (r.Payload P) (IsTidyMaybe b)
payload_tidy b P gives tokens payload rest (w, (prefix, e, p), f) =
    let (g, l) = gives prefix w (paren_close ∷ rest) p in
    subst (λ (z : MaybeValue). IsTidyMaybe b z) (sym f) (ap a_value g, l)

bare_tidy : (b : ℕ) → Gives r.Bare (IsTidyMaybe b)
bare_tidy b tokens payload rest (e, f) = subst (λ (z : MaybeValue). IsTidyMaybe b z) (sym f) (refl, omega arith)

option_tidy : (P : TypeTree) (n : ℕ) → Gives (Reads P (n - 1)) (IsTidy (2 * (n - 1))) → Gives (Reads P n) (IsTidyAt P n) → Gives (Reads (type.option P) n) (IsTidyAt (type.option P) n)
option_tidy P n inner flat tokens v rest (inl (some, inl (e, f))) =
    moved (type.option P) n v (value.option no_value) f (strictly (type.option P) n (value.option no_value) refl (omega arith))
option_tidy P n inner flat tokens v rest (inl (some, inr (w, (behind, e, (prefix, f, p)), g))) =
    let (k, l) = inner prefix w (paren_close ∷ rest) p in
    moved (type.option P) n v (value.option (a_value w)) g (strictly (type.option P) n (value.option (a_value w)) (ap (λ (z : Value). value.option (a_value z)) k) (omega arith))
option_tidy P n inner flat tokens v rest (inr (w, (is_flat, p), e)) =
    let (k, l, less) = flat tokens w rest p in
    let low : height w < 2 * n = less is_flat in
    moved (type.option P) n v (value.option (a_value w)) e (ap (λ (z : Value). value.option (a_value z)) k, omega arith, λ never. absurd never)

result_tidy : (A B : MaybeType) (n : ℕ) → Gives (ReadsPayload A (n - 1)) (IsTidyMaybe (2 * (n - 1))) → Gives (ReadsPayload B (n - 1)) (IsTidyMaybe (2 * (n - 1))) → Gives (ReadsFlat A n) (λ w. (merged w ≡ w) × (height w < 2 * n))
    → Gives (Reads (type.result A B) n) (IsTidyAt (type.result A B) n)
result_tidy A B n one two flat tokens v rest (inl (some, inl (payload, (behind, e, p), f))) =
    let (g, l) = one behind payload rest p in
    moved (type.result A B) n v (value.ok payload) f (strictly (type.result A B) n (value.ok payload) (ap value.ok g) (omega arith))
result_tidy A B n one two flat tokens v rest (inl (some, inr (payload, (behind, e, p), f))) =
    let (g, l) = two behind payload rest p in
    moved (type.result A B) n v (value.err payload) f (strictly (type.result A B) n (value.err payload) (ap value.err g) (omega arith))
result_tidy A B n one two flat tokens v rest (inr (w, p, e)) =
    let (g, l) = flat tokens w rest p in
    moved (type.result A B) n v (value.ok (a_value w)) e (ap (λ (z : Value). value.ok (a_value z)) g, omega arith, λ never. absurd never)

-- entries whose values are tidy
tidy_entries : (b : ℕ) (es : List (Leaf × Value)) → AllOf (λ e. Unit {0} × IsTidy b e.1) es → (merged_entries (entries es) ≡ es) × (height_of_entries (entries es) ≤ b)
tidy_entries b [] h = (refl, omega arith)
tidy_entries b (e ∷ es) h =
    let (f, l) = tidy_entries b es h.1 in
    let low : height e.1 ≤ b = h.0.1.1 in
    (ap (λ (z : Value). (e.0, z) ∷ merged_entries (entries es)) h.0.1.0 ∙ ap (λ (z : List (Leaf × Value)). e ∷ z) f, omega arith)

keyed_tidy : (K : Simple) (b : ℕ) (P : Spelling Value) → Gives P (IsTidy b) → Gives (r.Keyed K P) (λ e. Unit {0} × IsTidy b e.1)
keyed_tidy K b P gives tokens e rest (token, prefix, f, k, p) = (tt, gives prefix e.1 rest p)

map_tidy : (K : Simple) (V : TypeTree) (n : ℕ) (P : Spelling Value) → Gives P (IsTidy (2 * (n - 1))) → Gives (r.Provided (0 < n) (r.AMap K P)) (IsTidyAt (type.map K V) n)
map_tidy K V n P gives tokens v rest (some, (pairs, braces, e)) =
    let (f, l) = tidy_entries (2 * (n - 1)) (merge leaf_eq pairs) (merge_keeps leaf_eq (λ key. Unit {0}) (IsTidy (2 * (n - 1))) pairs (all_pairs braces)) in
    moved (type.map K V) n v (value.map (entries (merge leaf_eq pairs))) e
    (strictly (type.map K V) n (value.map (entries (merge leaf_eq pairs))) (ap (λ (z : List (Leaf × Value)). value.map (entries (merge leaf_eq z))) f ∙ ap (λ (z : List (Leaf × Value)). value.map (entries z)) (merge_twice leaf_eq pairs)) (omega arith))
  where
    all_pairs : (r.EmptyBraces tokens pairs rest ⊎ Listed brace_open brace_close (r.Keyed K P) tokens pairs rest) → AllOf (λ f. Unit {0} × IsTidy (2 * (n - 1)) f.1) pairs
    all_pairs (inl (f, g)) = subst (AllOf (λ (x : Leaf × Value). Unit {0} × IsTidy (2 * (n - 1)) x.1)) (sym g) tt
    all_pairs (inr h) = listed_all brace_open brace_close (r.Keyed K P) (λ f. Unit {0} × IsTidy (2 * (n - 1)) f.1) (keyed_tidy K (2 * (n - 1)) P gives) tokens pairs rest h

-- one token, a case's name, flags
simple_tidy : (S : Simple) (n : ℕ) → Gives (Reads (type.simple S) n) (IsTidyAt (type.simple S) n)
simple_tidy S n tokens v rest (some, (token, one, e, h, f)) = moved (type.simple S) n v (value.leaf one) f (strictly (type.simple S) n (value.leaf one) refl (omega arith))

enum_tidy : (names : List (List ℕ)) (n : ℕ) → Gives (Reads (type.enum names) n) (IsTidyAt (type.enum names) n)
enum_tidy names n tokens v rest (some, (name, h, of, e)) = moved (type.enum names) n v (value.enum name) e (strictly (type.enum names) n (value.enum name) refl (omega arith))

flags_tidy : (names : List (List ℕ)) (n : ℕ) → Gives (Reads (type.flags names) n) (IsTidyAt (type.flags names) n)
flags_tidy names n tokens v rest (some, (found, h, d, of, e)) =
    moved (type.flags names) n v (value.flags (found_in found names)) e (strictly (type.flags names) n (value.flags (found_in found names)) refl (omega arith))

-- nothing, and one row or the other
never_gives : {A : Type 0} (Q : A → Type 0) → Gives r.Never Q
never_gives Q tokens a rest h = absurd h

either_gives : {A : Type 0} (Q : A → Type 0) (H : Type 0) (P P' : Spelling A) → Gives P Q → Gives P' Q → Gives (r.Either (r.Provided H P) P') Q
either_gives Q H P P' one two tokens a rest (inl (h, p)) = one tokens a rest p
either_gives Q H P P' one two tokens a rest (inr p) = two tokens a rest p

flat_tidy : (T : TypeTree) (n : ℕ) → Gives (Reads T n) (IsTidyAt T n) → Gives (ReadsFlat (type.a_type T) n) (λ w. (merged w ≡ w) × (height w < 2 * n))
flat_tidy T n gives tokens v rest (flat, p) = let (e, l, less) = gives tokens v rest p in (e, less flat)

-- the values of a tuple
first_tidy : (b : ℕ) (P : Spelling Value) (Further : Spelling (List Value)) → Gives P (IsTidy b) → Gives Further (AllOf (IsTidy b)) → Gives (r.First P Further) (AllOf (IsTidy b))
first_tidy b P Further one others tokens items rest (w, more, behind, p, h, e) = subst (AllOf (IsTidy b)) (sym e) (one tokens w behind p, others behind more rest h)

then_tidy : (b : ℕ) (P : Spelling Value) (Further : Spelling (List Value)) → Gives P (IsTidy b) → Gives Further (AllOf (IsTidy b)) → Gives (r.Then P Further) (AllOf (IsTidy b))
then_tidy b P Further one others tokens items rest (prefix, f, h) = first_tidy b P Further one others prefix items rest h

end_tidy : (b : ℕ) → Gives r.End (AllOf (IsTidy b))
end_tidy b tokens items rest (h, e) = subst (AllOf (IsTidy b)) (sym e) tt

-- ---- any type

tidy_of : (T : TypeTree) (n : ℕ) → Gives (Reads T n) (IsTidyAt T n) → Gives (Reads T n) (IsTidy (2 * n))
tidy_of T n gives tokens v rest p = let (e, l, less) = gives tokens v rest p in (e, l)

mutual
  pub tidy : (T : TypeTree) (n : ℕ) → Gives (Reads T n) (IsTidyAt T n)
  tidy (type.simple S) n = simple_tidy S n
  tidy (type.unreadable kind) n = never_gives (IsTidyAt (type.unreadable kind) n)
  tidy (type.list E) n = list_tidy E n (Reads E (n - 1)) (tidy_of E (n - 1) (tidy E (n - 1)))
  tidy (type.fixed E count) n = fixed_tidy E count n (Reads E (n - 1)) (tidy_of E (n - 1) (tidy E (n - 1)))
  tidy (type.record_type fs) n = record_tidy fs n (ReadsField fs (n - 1)) (λ name. tidy_field fs (n - 1) name)
  tidy (type.tuple Ts) n = tuple_tidy Ts n (ReadsTuple Ts (n - 1)) (tidy_tuple Ts (n - 1))
  tidy (type.variant cs) n = variant_tidy cs n (ReadsCase cs (n - 1)) (λ name. tidy_case cs (n - 1) name)
  tidy (type.enum names) n = enum_tidy names n
  tidy (type.option P) n = option_tidy P n (tidy_of P (n - 1) (tidy P (n - 1))) (tidy P n)
  tidy (type.result A B) n = result_tidy A B n (tidy_payload A (n - 1)) (tidy_payload B (n - 1)) (tidy_flat A n)
  tidy (type.flags names) n = flags_tidy names n
  tidy (type.map K V) n = map_tidy K V n (Reads V (n - 1)) (tidy_of V (n - 1) (tidy V (n - 1)))

  pub tidy_payload : (A : MaybeType) (n : ℕ) → Gives (ReadsPayload A n) (IsTidyMaybe (2 * n))
  tidy_payload type.no_type n = bare_tidy (2 * n)
  tidy_payload (type.a_type T) n = payload_tidy (2 * n) (Reads T n) (tidy_of T n (tidy T n))

  pub tidy_flat : (A : MaybeType) (n : ℕ) → Gives (ReadsFlat A n) (λ w. (merged w ≡ w) × (height w < 2 * n))
  tidy_flat type.no_type n = never_gives (λ w. (merged w ≡ w) × (height w < 2 * n))
  tidy_flat (type.a_type T) n = flat_tidy T n (tidy T n)

  pub tidy_tuple : (Ts : Types) (n : ℕ) → Gives (ReadsTuple Ts n) (AllOf (IsTidy (2 * n)))
  tidy_tuple type.no_types n = never_gives (AllOf (IsTidy (2 * n)))
  tidy_tuple (type.type_and T more) n = first_tidy (2 * n) (Reads T n) (ReadsFurther more n) (tidy_of T n (tidy T n)) (tidy_further more n)

  pub tidy_further : (Ts : Types) (n : ℕ) → Gives (ReadsFurther Ts n) (AllOf (IsTidy (2 * n)))
  tidy_further type.no_types n = end_tidy (2 * n)
  tidy_further (type.type_and T more) n = then_tidy (2 * n) (Reads T n) (ReadsFurther more n) (tidy_of T n (tidy T n)) (tidy_further more n)

  pub tidy_field : (fs : Fields) (n : ℕ) (name : List ℕ) → Gives (ReadsField fs n name) (IsTidy (2 * n))
  tidy_field type.no_fields n name = never_gives (IsTidy (2 * n))
  tidy_field (type.field other T more) n name = either_gives (IsTidy (2 * n)) (name ≡ other) (Reads T n) (ReadsField more n name) (tidy_of T n (tidy T n)) (tidy_field more n name)

  pub tidy_case : (cs : Cases) (n : ℕ) (name : List ℕ) → Gives (ReadsCase cs n name) (IsTidyMaybe (2 * n))
  tidy_case type.no_cases n name = never_gives (IsTidyMaybe (2 * n))
  tidy_case (type.case_of other T more) n name = either_gives (IsTidyMaybe (2 * n)) (name ≡ other) (ReadsPayload T n) (ReadsCase more n name) (tidy_payload T n) (tidy_case more n name)
