-- Reading parts one after the other, as a loop does.
use Rattle.std.proofs.Common.{◌≡◌, ℕ, zero, suc, ◌+◌, ◌<◌, ◌≤◌, List, [], ◌∷◌, ◌++◌, length, get_or, drop, map, Ok, Err, Bor, Global, refl, sym, ap, subst, ◌∙◌, append_assoc, arith}
use Rattle.std.proofs.lemmas.List.{append-nil}
use Rattle.json.specs.Json.{Json, Items, Members}
use Rattle.json.specs.Value.{value_view, items_view, members_view}
use Rattle.json.specs.declared.value.Value as declared
use Rattle.wave_wasm.specs.ConstructorContracts.{AreOf, FieldsAreOf, field_trees, entry_trees}
use Rattle.wave_wasm.specs.Lists.{AllOf}
use Rattle.wave_wasm.specs.Types.{TypeTree}
use Rattle.wave_wasm.specs.Values as value
use Rattle.wave_wasm.specs.Values.{Leaf, Value}
use Rattle.wave_wasm.proofs.CanonicalText.Sequences.{at_item, at_end}
use Rattle.wave_json.specs.declared.error.JsonErrorKind.{JsonErrorKind}
use Rattle.wave_json.specs.Private.Readers.{each_type_at, each_field_at, keyed, with_leaf}
use Rattle.wave_json.specs.Reading.{Fault, Reading, ◌>>=◌, under, item_step, member_step, each_at, field_at, left_out, member_of, members_at, value_at}

-- what was read before, and what is still read
abbrev pub with_front : {A : Type 0} → List A → Reading (List A) → Reading (List A)
with_front front read = read >>= λ xs. Ok (front ++ xs)

regroup : {A : Type 0} (front : List A) (one : A) (read : Reading (List A)) → with_front front (read >>= λ xs. Ok (one ∷ xs)) ≡ with_front (front ++ one ∷ []) read
regroup {A = A} front one (Ok xs) = ap (λ (l : List A). Ok l) (sym (append_assoc front (one ∷ []) xs))
regroup front one (Err e) = refl

-- one more was read: `step` says what is read of what is left, `left` what is read behind the next
pub goes_on : {A : Type 0} (front : List A) (one : A) (step left total : Reading (List A)) → step ≡ (left >>= λ xs. Ok (one ∷ xs)) → with_front front step ≡ total → with_front (front ++ one ∷ []) left ≡ total
goes_on front one step left total is so_far = sym (ap (with_front front) is ∙ regroup front one left) ∙ so_far

-- the next is a fault
pub stops_here : {A : Type 0} (front : List A) (step total : Reading (List A)) (e : Fault) → step ≡ Err e → with_front front step ≡ total → total ≡ Err e
stops_here front step total e is so_far = sym so_far ∙ ap (with_front front) is

-- nothing is left
pub is_done : {A : Type 0} (front : List A) (step total : Reading (List A)) → step ≡ Ok [] → with_front front step ≡ total → total ≡ Ok front
is_done {A = A} front step total is so_far = sym so_far ∙ (ap (with_front front) is ∙ ap (λ (l : List A). Ok l) (append-nil front))

-- ---- the items of an array

abbrev then_each : {A : Type 0} → (Json → Reading A) → ℕ → Items → A → Reading (List A)
then_each read n js x = each_at read n js >>= λ xs. Ok (x ∷ xs)

module _ {A : Type 0} (read : Json → Reading A) (js : List (declared.Value Global)) (i : ℕ) (j : declared.Value Global) (within : i < length js) (is : j ≡ get_or js i j) where
  pub each_step : (x : A) → under (item_step i) (read (value_view j)) ≡ Ok x → each_at read i (items_view (drop i js)) ≡ (each_at read (i + 1) (items_view (drop (i + 1) js)) >>= λ xs. Ok (x ∷ xs))
  each_step x e =
      let k : suc i ≡ i + 1 = omega arith in
      at_item (λ (l : List (declared.Value Global)). each_at read i (items_view l)) js i j within is
      ∙ (ap (λ (q : Reading A). q >>= then_each read (suc i) (items_view (drop (i + 1) js))) e ∙ ap (λ (n : ℕ). then_each read n (items_view (drop (i + 1) js)) x) k)

  pub each_stop : (e : Fault) → under (item_step i) (read (value_view j)) ≡ Err e → each_at read i (items_view (drop i js)) ≡ Err e
  each_stop e is_err =
      at_item (λ (l : List (declared.Value Global)). each_at read i (items_view l)) js i j within is
      ∙ ap (λ (q : Reading A). q >>= then_each read (suc i) (items_view (drop (i + 1) js))) is_err

pub each_end : {A : Type 0} (read : Json → Reading A) (js : List (declared.Value Global)) (i : ℕ) → length js ≤ i → each_at read i (items_view (drop i js)) ≡ Ok []
each_end read js i le = at_end (λ (l : List (declared.Value Global)). each_at read i (items_view l)) js i le

-- ---- what is known of what was read

pub all_push : {A : Type 0} (P : A → Type 0) (xs : List A) (x : A) → AllOf P xs → P x → AllOf P (xs ++ x ∷ [])
all_push P [] x all h = (h, tt)
all_push P (y ∷ ys) x all h = (all.0, all_push P ys x all.1 h)

-- what holds of all the types holds of the one at i
pub all_shown : {X Y : Type 0} (P : Y → Type 0) (f : X → Y) (xs : List X) (i : ℕ) (x : X) → i < length xs → x ≡ get_or xs i x → AllOf P (map f xs) → P (f x)
all_shown P f [] i x within is h = absurd (omega arith)
all_shown {X = X} P f (y ∷ ys) zero x within is h = subst (λ (z : X). P (f z)) (sym is) h.0
all_shown P f (y ∷ ys) (suc i) x within is h = all_shown P f ys i x (omega arith) is h.1

-- what is to come is of the types that are left
abbrev pub Completes : {S X : Type 0} → (S → TypeTree → Type 0) → (X → TypeTree) → List X → List X → List S → Type 0
Completes {S = S} of f all left front = (more : List S) → AreOf of (map f left) more → AreOf of (map f all) (front ++ more)

pub completes_none : {S X : Type 0} (of : S → TypeTree → Type 0) (f : X → TypeTree) (xs : List X) → Completes of f xs xs []
completes_none of f xs = λ more h. h

pub completes_more : {S X : Type 0} (of : S → TypeTree → Type 0) (f : X → TypeTree) (xs : List X) (i : ℕ) (x : X) (front : List S) (v : S) → i < length xs → x ≡ get_or xs i x → of v (f x) → Completes of f xs (drop i xs) front → Completes of f xs (drop (i + 1) xs) (front ++ v ∷ [])
completes_more of f xs i x front v within is h so_far = λ more left.
    subst (AreOf of (map f xs)) (sym (append_assoc front (v ∷ []) more))
    (so_far (v ∷ more) (subst (λ (l : List TypeTree). AreOf of l (v ∷ more)) (sym (at_item (map f) xs i x within is)) (h, left)))

pub completes_all : {S X : Type 0} (of : S → TypeTree → Type 0) (f : X → TypeTree) (xs : List X) (i : ℕ) (front : List S) → length xs ≤ i → Completes of f xs (drop i xs) front → AreOf of (map f xs) front
completes_all of f xs i front le so_far = subst (AreOf of (map f xs)) (append-nil front) (so_far [] (subst (λ (l : List TypeTree). AreOf of l []) (sym (at_end (map f) xs i le)) tt))

-- ---- a part of each field, under its name

abbrev pub CompletesFields : {S X : Type 0} → (S → TypeTree → Type 0) → (X → List ℕ × TypeTree) → List X → List X → List (Bor (List ℕ) × S) → Type 0
CompletesFields {S = S} of f all left front = (more : List (Bor (List ℕ) × S)) → FieldsAreOf of (map f left) more → FieldsAreOf of (map f all) (front ++ more)

pub fields_none : {S X : Type 0} (of : S → TypeTree → Type 0) (f : X → List ℕ × TypeTree) (xs : List X) → CompletesFields of f xs xs []
fields_none of f xs = λ more h. h

pub fields_more : {S X : Type 0} (of : S → TypeTree → Type 0) (f : X → List ℕ × TypeTree) (xs : List X) (i : ℕ) (x : X) (front : List (Bor (List ℕ) × S)) (v : Bor (List ℕ) × S) → i < length xs → x ≡ get_or xs i x → v.0.now ≡ (f x).0 → of v.1 (f x).1 → CompletesFields of f xs (drop i xs) front → CompletesFields of f xs (drop (i + 1) xs) (front ++ v ∷ [])
fields_more of f xs i x front v within is name h so_far = λ more left.
    subst (FieldsAreOf of (map f xs)) (sym (append_assoc front (v ∷ []) more))
    (so_far (v ∷ more) (subst (λ (l : List (List ℕ × TypeTree)). FieldsAreOf of l (v ∷ more)) (sym (at_item (map f) xs i x within is)) (name, h, left)))

pub fields_all : {S X : Type 0} (of : S → TypeTree → Type 0) (f : X → List ℕ × TypeTree) (xs : List X) (i : ℕ) (front : List (Bor (List ℕ) × S)) → length xs ≤ i → CompletesFields of f xs (drop i xs) front → FieldsAreOf of (map f xs) front
fields_all of f xs i front le so_far = subst (FieldsAreOf of (map f xs)) (append-nil front) (so_far [] (subst (λ (l : List (List ℕ × TypeTree)). FieldsAreOf of l []) (sym (at_end (map f) xs i le)) tt))

pub fields_push : {S : Type 0} (tree : S → Value) (items : List (Bor (List ℕ) × S)) (one : Bor (List ℕ) × S) → field_trees tree (items ++ one ∷ []) ≡ field_trees tree items ++ (one.0.now, tree one.1) ∷ []
fields_push tree [] one = refl
fields_push tree (x ∷ items) one = ap (λ (l : List (List ℕ × Value)). (x.0.now, tree x.1) ∷ l) (fields_push tree items one)

pub entries_push : {S : Type 0} (tree : S → Value) (items : List (S × S)) (one : S × S) → entry_trees tree (items ++ one ∷ []) ≡ entry_trees tree items ++ (tree one.0, tree one.1) ∷ []
entries_push tree [] one = refl
entries_push tree (x ∷ items) one = ap (λ (l : List (Value × Value)). (tree x.0, tree x.1) ∷ l) (entries_push tree items one)

-- ---- a part of each type

abbrev then_types : List TypeTree → ℕ → List Json → Value → Reading (List Value)
then_types Ts n js v = each_type_at Ts n js >>= λ vs. Ok (v ∷ vs)

module _ {X : Type 0} (f : X → TypeTree) (xs : List X) (js : List (declared.Value Global)) (i : ℕ) (x : X) (j : declared.Value Global) (within : i < length xs) (is : x ≡ get_or xs i x) (also : i < length js) (there : j ≡ get_or js i j) where
  one_type : each_type_at (map f (drop i xs)) i (map value_view (drop i js)) ≡ (under (item_step i) (value_at (f x) (value_view j)) >>= then_types (map f (drop (i + 1) xs)) (suc i) (map value_view (drop (i + 1) js)))
  one_type =
      at_item (λ (l : List X). each_type_at (map f l) i (map value_view (drop i js))) xs i x within is
      ∙ at_item (λ (l : List (declared.Value Global)). each_type_at (f x ∷ map f (drop (i + 1) xs)) i (map value_view l)) js i j also there

  pub types_step : (v : Value) → under (item_step i) (value_at (f x) (value_view j)) ≡ Ok v → each_type_at (map f (drop i xs)) i (map value_view (drop i js)) ≡ (each_type_at (map f (drop (i + 1) xs)) (i + 1) (map value_view (drop (i + 1) js)) >>= λ vs. Ok (v ∷ vs))
  types_step v e =
      let k : suc i ≡ i + 1 = omega arith in
      one_type ∙ (ap (λ (q : Reading Value). q >>= then_types (map f (drop (i + 1) xs)) (suc i) (map value_view (drop (i + 1) js))) e
      ∙ ap (λ (n : ℕ). then_types (map f (drop (i + 1) xs)) n (map value_view (drop (i + 1) js)) v) k)

  pub types_stop : (e : Fault) → under (item_step i) (value_at (f x) (value_view j)) ≡ Err e → each_type_at (map f (drop i xs)) i (map value_view (drop i js)) ≡ Err e
  types_stop e is_err = one_type ∙ ap (λ (q : Reading Value). q >>= then_types (map f (drop (i + 1) xs)) (suc i) (map value_view (drop (i + 1) js))) is_err

pub types_end : {X : Type 0} (f : X → TypeTree) (xs : List X) (js : List Json) (i : ℕ) → length xs ≤ i → each_type_at (map f (drop i xs)) i js ≡ Ok []
types_end {X = X} f xs js i le = at_end (λ (l : List X). each_type_at (map f l) i js) xs i le

-- ---- a part of each field

abbrev then_fields : List ℕ → List (List ℕ × TypeTree) → Members → Value → Reading (List (List ℕ × Value))
then_fields name fs ms v = each_field_at fs ms >>= λ others. Ok ((name, v) ∷ others)

abbrev pub one_field : List ℕ × TypeTree → Members → Reading Value
one_field f ms = field_at (value_at f.1) (left_out f.1 f.0) f.0 (member_of f.0 ms)

module _ {X : Type 0} (f : X → List ℕ × TypeTree) (xs : List X) (i : ℕ) (x : X) (ms : Members) (within : i < length xs) (is : x ≡ get_or xs i x) where
  pub field_step : (v : Value) → one_field (f x) ms ≡ Ok v → each_field_at (map f (drop i xs)) ms ≡ (each_field_at (map f (drop (i + 1) xs)) ms >>= λ others. Ok (((f x).0, v) ∷ others))
  field_step v e =
      at_item (λ (l : List X). each_field_at (map f l) ms) xs i x within is
      ∙ ap (λ (q : Reading Value). q >>= then_fields (f x).0 (map f (drop (i + 1) xs)) ms) e

  pub field_stop : (e : Fault) → one_field (f x) ms ≡ Err e → each_field_at (map f (drop i xs)) ms ≡ Err e
  field_stop e is_err =
      at_item (λ (l : List X). each_field_at (map f l) ms) xs i x within is
      ∙ ap (λ (q : Reading Value). q >>= then_fields (f x).0 (map f (drop (i + 1) xs)) ms) is_err

pub fields_end : {X : Type 0} (f : X → List ℕ × TypeTree) (xs : List X) (i : ℕ) (ms : Members) → length xs ≤ i → each_field_at (map f (drop i xs)) ms ≡ Ok []
fields_end {X = X} f xs i ms le = at_end (λ (l : List X). each_field_at (map f l) ms) xs i le

-- ---- a part of each member, and pairs

keyed_more : (k : Leaf) (v : Value) (q : Reading (List (Leaf × Value))) → keyed (q >>= λ es. Ok ((k, v) ∷ es)) ≡ (keyed q >>= λ es. Ok ((value.leaf k, v) ∷ es))
keyed_more k v (Ok es) = refl
keyed_more k v (Err e) = refl

abbrev Held : Type 0
Held = Bor (List ℕ) × declared.Value Global

abbrev then_members : (Json → Reading Value) → List ℕ → Members → Value → Reading (List (Leaf × Value))
then_members read name ms v = members_at read ms >>= λ es. Ok ((value.string name, v) ∷ es)

module _ (read : Json → Reading Value) (ms : List Held) (i : ℕ) (m : Held) (within : i < length ms) (is : m ≡ get_or ms i m) where
  pub member_next : (v : Value) → under (member_step m.0.now) (read (value_view m.1)) ≡ Ok v → keyed (members_at read (members_view (drop i ms))) ≡ (keyed (members_at read (members_view (drop (i + 1) ms))) >>= λ es. Ok ((value.leaf (value.string m.0.now), v) ∷ es))
  member_next v e =
      ap keyed (at_item (λ (l : List Held). members_at read (members_view l)) ms i m within is
      ∙ ap (λ (q : Reading Value). q >>= then_members read m.0.now (members_view (drop (i + 1) ms))) e)
      ∙ keyed_more (value.string m.0.now) v (members_at read (members_view (drop (i + 1) ms)))

  pub member_stop : (e : Fault) → under (member_step m.0.now) (read (value_view m.1)) ≡ Err e → keyed (members_at read (members_view (drop i ms))) ≡ Err e
  member_stop e is_err =
      ap keyed (at_item (λ (l : List Held). members_at read (members_view l)) ms i m within is
      ∙ ap (λ (q : Reading Value). q >>= then_members read m.0.now (members_view (drop (i + 1) ms))) is_err)

pub members_end : (read : Json → Reading Value) (ms : List Held) (i : ℕ) → length ms ≤ i → keyed (members_at read (members_view (drop i ms))) ≡ Ok []
members_end read ms i le = ap keyed (at_end (λ (l : List Held). members_at read (members_view l)) ms i le)

abbrev failed : {A : Type 0} → Fault → Reading A
failed e = Err e

-- a pair, its key as a value
abbrev pub as_pair : Reading (Leaf × Value) → Reading (Value × Value)
as_pair q = q >>= λ e. Ok (with_leaf e)

pair_ok : (q : Reading (Leaf × Value)) (x : Value × Value) → as_pair q ≡ Ok x → (e : Leaf × Value) × (q ≡ Ok e) × (with_leaf e ≡ x)
pair_ok (Ok e) x h = (e, refl, cc)
pair_ok (Err e) x h = absurd (cc)

fault_as : {A B : Type 0} (path : List ℕ) (kind : JsonErrorKind) (e : Fault) → failed {A = A} (record { kind = kind; path = path }) ≡ Err e → failed {A = B} (record { kind = kind; path = path }) ≡ Err e
fault_as {B = B} path kind e h = let same : record { kind = kind; path = path } ≡ e = cc in ap (failed {A = B}) same

pair_fault : (step : List ℕ) (q : Reading (Leaf × Value)) (e : Fault) → under step (as_pair q) ≡ Err e → under step q ≡ Err e
pair_fault step (Ok x) e h = absurd (cc)
pair_fault step (Err x) e h = fault_as (step ++ x.path) x.kind e h

module _ (read : Json → Reading (Leaf × Value)) (js : List (declared.Value Global)) (i : ℕ) (j : declared.Value Global) (within : i < length js) (is : j ≡ get_or js i j) where
  pub pair_next : (x : Value × Value) → as_pair (read (value_view j)) ≡ Ok x → keyed (each_at read i (items_view (drop i js))) ≡ (keyed (each_at read (i + 1) (items_view (drop (i + 1) js))) >>= λ es. Ok (x ∷ es))
  pair_next x e =
      let p = pair_ok (read (value_view j)) x e in
      ap keyed (each_step read js i j within is p.0 (ap (under (item_step i)) p.1))
      ∙ (keyed_more p.0.0 p.0.1 (each_at read (i + 1) (items_view (drop (i + 1) js)))
      ∙ ap (λ (y : Value × Value). keyed (each_at read (i + 1) (items_view (drop (i + 1) js))) >>= λ es. Ok (y ∷ es)) p.2)

  pub pair_stop : (e : Fault) → under (item_step i) (as_pair (read (value_view j))) ≡ Err e → keyed (each_at read i (items_view (drop i js))) ≡ Err e
  pair_stop e h = ap keyed (each_stop read js i j within is e (pair_fault (item_step i) (read (value_view j)) e h))

pub pairs_end : (read : Json → Reading (Leaf × Value)) (js : List (declared.Value Global)) (i : ℕ) → length js ≤ i → keyed (each_at read i (items_view (drop i js))) ≡ Ok []
pairs_end read js i le = ap keyed (each_end read js i le)

-- an item is the same, whatever would stand for one that is not there
pub get_same : {A : Type 0} (xs : List A) (i : ℕ) (a b : A) → i < length xs → get_or xs i a ≡ get_or xs i b
get_same [] i a b lt = absurd (omega (arith, lt))
get_same (x ∷ xs) zero a b lt = refl
get_same (x ∷ xs) (suc i) a b lt = get_same xs i a b (omega (arith, lt))

front_none : {A : Type 0} (read : Reading (List A)) → with_front [] read ≡ read
front_none (Ok xs) = refl
front_none (Err e) = refl

-- `f` is what an item says
pub first_front : {A B : Type 0} (f : A → B) (items : List A) (step total : Reading (List B)) → items ≡ [] → step ≡ total → with_front (map f items) step ≡ total
first_front {A = A} f items step total empty same = ap (λ (l : List A). with_front (map f l) step) empty ∙ (front_none step ∙ same)
