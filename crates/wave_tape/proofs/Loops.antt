-- Reading parts one after the other, as a loop does.
use Rattle.std.proofs.Common.{◌≡◌, ℕ, zero, suc, ◌+◌, ◌-◌, ◌<◌, ◌≤◌, List, [], ◌∷◌, ◌++◌, length, get_or, drop, map, Bool, true, false, cond, Option, Some, None, Ok, Err, Bor, refl, sym, ap, subst, ◌∙◌, append_assoc, arith}
use Rattle.std.specs.List.{slice_get}
use Rattle.std.specs.Str.{bytes_eq}
use Rattle.std.proofs.lemmas.List.{append-nil, length-map}
use Rattle.std.proofs.lemmas.Option.{slice_get-get_or}
use Rattle.std.proofs.lemmas.Slice.Eq.{bytes_eq-Decides}
use Rattle.wave_wasm.specs.Borrowed.{texts}
use Rattle.wave_tape.specs.declared.error.TapeErrorKind.TheVariants as kinds
use Rattle.wave_wasm.specs.Lists.{AllOf}
use Rattle.wave_wasm.specs.Types.{TypeTree}
use Rattle.wave_wasm.specs.Values.{Value}
use Rattle.wave_wasm.specs.ConstructorContracts.{AreOf, FieldsAreOf, field_trees, entry_trees}
use Rattle.wave_wasm.proofs.CanonicalText.Sequences.{at_item, at_end}
use Rattle.wave_tape.specs.Reading.{Fault, Reading, fault, ◌>>=◌, name_at, names_behind, or_fault, flags_at, times, pair_at, value_at}
use Rattle.wave_tape.specs.Private.Readers.{each_at, each_field_at}
use Rattle.wave_tape.proofs.Readings.{read_as}

-- what was read before, and what is still read
abbrev pub with_front : {A : Type 0} → List A → Reading (List A) → Reading (List A)
with_front front read = read >>= λ x. Ok (front ++ x.0, x.1)

regroup : {A : Type 0} (front : List A) (one : A) (read : Reading (List A)) → with_front front (read >>= λ x. Ok (one ∷ x.0, x.1)) ≡ with_front (front ++ one ∷ []) read
regroup {A = A} front one (Ok x) = ap (λ (xs : List A). read_as xs x.1) (sym (append_assoc front (one ∷ []) x.0))
regroup front one (Err f) = refl

-- one more was read: `step` says what is read of what is left, `left` what is read behind the next
pub goes_on : {A : Type 0} (front : List A) (one : A) (step left total : Reading (List A)) → step ≡ (left >>= λ x. Ok (one ∷ x.0, x.1)) → with_front front step ≡ total → with_front (front ++ one ∷ []) left ≡ total
goes_on front one step left total is so_far = sym (ap (with_front front) is ∙ regroup front one left) ∙ so_far

-- the next is a fault
pub stops_here : {A : Type 0} (front : List A) (step total : Reading (List A)) (f : Fault) → step ≡ Err f → with_front front step ≡ total → total ≡ Err f
stops_here front step total f is so_far = sym so_far ∙ ap (with_front front) is

-- nothing is left
pub is_done : {A : Type 0} (front : List A) (rest : List ℕ) (step total : Reading (List A)) → step ≡ Ok ([], rest) → with_front front step ≡ total → total ≡ Ok (front, rest)
is_done {A = A} front rest step total is so_far = sym so_far ∙ (ap (with_front front) is ∙ ap (λ (xs : List A). read_as xs rest) (append-nil front))

-- ---- so many parts

abbrev then_times : {A : Type 0} → (List ℕ → Reading A) → ℕ → A × List ℕ → Reading (List A)
then_times read n first = times read n first.1 >>= λ others. Ok (first.0 ∷ others.0, others.1)

pub times_step : {A : Type 0} (read : List ℕ → Reading A) (count i : ℕ) (bytes : List ℕ) (x : A) (after : List ℕ) → i < count → read bytes ≡ Ok (x, after) → times read (count - i) bytes ≡ (times read (count - (i + 1)) after >>= λ others. Ok (x ∷ others.0, others.1))
times_step {A = A} read count i bytes x after lt e =
    let k : count - i ≡ suc (count - (i + 1)) = omega arith in
    ap (λ (n : ℕ). times read n bytes) k ∙ ap (λ (q : Reading A). q >>= then_times read (count - (i + 1))) e

pub times_stop : {A : Type 0} (read : List ℕ → Reading A) (count i : ℕ) (bytes : List ℕ) (f : Fault) → i < count → read bytes ≡ Err f → times read (count - i) bytes ≡ Err f
times_stop {A = A} read count i bytes f lt e =
    let k : count - i ≡ suc (count - (i + 1)) = omega arith in
    ap (λ (n : ℕ). times read n bytes) k ∙ ap (λ (q : Reading A). q >>= then_times read (count - (i + 1))) e

pub times_end : {A : Type 0} (read : List ℕ → Reading A) (count i : ℕ) (bytes : List ℕ) → count ≤ i → times read (count - i) bytes ≡ Ok ([], bytes)
times_end read count i bytes le = let k : count - i ≡ 0 = omega arith in ap (λ (n : ℕ). times read n bytes) k

pub all_push : {A : Type 0} (P : A → Type 0) (xs : List A) (x : A) → AllOf P xs → P x → AllOf P (xs ++ x ∷ [])
all_push P [] x all h = (h, tt)
all_push P (y ∷ ys) x all h = (all.0, all_push P ys x all.1 h)

-- ---- a part of each type

abbrev then_each : List TypeTree → Value × List ℕ → Reading (List Value)
then_each Ts first = each_at Ts first.1 >>= λ others. Ok (first.0 ∷ others.0, others.1)

abbrev then_fields : List ℕ → List (List ℕ × TypeTree) → Value × List ℕ → Reading (List (List ℕ × Value))
then_fields name fs first = each_field_at fs first.1 >>= λ others. Ok ((name, first.0) ∷ others.0, others.1)

module _ {X : Type 0} (f : X → TypeTree) (xs : List X) (i : ℕ) (x : X) (within : i < length xs) (is : x ≡ get_or xs i x) where
  pub each_step : (bytes : List ℕ) (v : Value) (after : List ℕ) → value_at (f x) bytes ≡ Ok (v, after) → each_at (map f (drop i xs)) bytes ≡ (each_at (map f (drop (i + 1) xs)) after >>= λ others. Ok (v ∷ others.0, others.1))
  each_step bytes v after e =
      at_item (λ (l : List X). each_at (map f l) bytes) xs i x within is
      ∙ ap (λ (q : Reading Value). q >>= then_each (map f (drop (i + 1) xs))) e

  pub each_stop : (bytes : List ℕ) (y : Fault) → value_at (f x) bytes ≡ Err y → each_at (map f (drop i xs)) bytes ≡ Err y
  each_stop bytes y e =
      at_item (λ (l : List X). each_at (map f l) bytes) xs i x within is
      ∙ ap (λ (q : Reading Value). q >>= then_each (map f (drop (i + 1) xs))) e

pub each_end : {X : Type 0} (f : X → TypeTree) (xs : List X) (i : ℕ) (bytes : List ℕ) → length xs ≤ i → each_at (map f (drop i xs)) bytes ≡ Ok ([], bytes)
each_end {X = X} f xs i bytes le = at_end (λ (l : List X). each_at (map f l) bytes) xs i le

-- what holds of all the types holds of the one at i
pub all_shown : {X Y : Type 0} (P : Y → Type 0) (f : X → Y) (xs : List X) (i : ℕ) (x : X) → i < length xs → x ≡ get_or xs i x → AllOf P (map f xs) → P (f x)
all_shown P f [] i x within is h = absurd (omega arith)
all_shown {X = X} P f (y ∷ ys) zero x within is h = subst (λ (z : X). P (f z)) (sym is) h.0
all_shown P f (y ∷ ys) (suc i) x within is h = all_shown P f ys i x (omega arith) is h.1

-- what is to come is of the types that are left
abbrev pub Completes : {S X : Type 0} → (S → TypeTree → Type 0) → (X → TypeTree) → List X → List X → List S → Type 0
Completes {S = S} of f all left front = (more : List S) → AreOf of (map f left) more → AreOf of (map f all) (front ++ more)

pub completes_none : {S X : Type 0} (of : S → TypeTree → Type 0) (f : X → TypeTree) (xs : List X) → Completes of f xs xs []
completes_none of f xs = λ more h. h

pub completes_more : {S X : Type 0} (of : S → TypeTree → Type 0) (f : X → TypeTree) (xs : List X) (i : ℕ) (x : X) (front : List S) (v : S) → i < length xs → x ≡ get_or xs i x → of v (f x) → Completes of f xs (drop i xs) front → Completes of f xs (drop (i + 1) xs) (front ++ v ∷ [])
completes_more of f xs i x front v within is h so_far = λ more left.
    subst (AreOf of (map f xs)) (sym (append_assoc front (v ∷ []) more))
    (so_far (v ∷ more) (subst (λ (l : List TypeTree). AreOf of l (v ∷ more)) (sym (at_item (map f) xs i x within is)) (h, left)))

pub completes_all : {S X : Type 0} (of : S → TypeTree → Type 0) (f : X → TypeTree) (xs : List X) (i : ℕ) (front : List S) → length xs ≤ i → Completes of f xs (drop i xs) front → AreOf of (map f xs) front
completes_all of f xs i front le so_far = subst (AreOf of (map f xs)) (append-nil front) (so_far [] (subst (λ (l : List TypeTree). AreOf of l []) (sym (at_end (map f) xs i le)) tt))

-- ---- a part of each field, under its name

abbrev pub CompletesFields : {S X : Type 0} → (S → TypeTree → Type 0) → (X → List ℕ × TypeTree) → List X → List X → List (Bor (List ℕ) × S) → Type 0
CompletesFields {S = S} of f all left front = (more : List (Bor (List ℕ) × S)) → FieldsAreOf of (map f left) more → FieldsAreOf of (map f all) (front ++ more)

pub fields_none : {S X : Type 0} (of : S → TypeTree → Type 0) (f : X → List ℕ × TypeTree) (xs : List X) → CompletesFields of f xs xs []
fields_none of f xs = λ more h. h

pub fields_more : {S X : Type 0} (of : S → TypeTree → Type 0) (f : X → List ℕ × TypeTree) (xs : List X) (i : ℕ) (x : X) (front : List (Bor (List ℕ) × S)) (v : Bor (List ℕ) × S) → i < length xs → x ≡ get_or xs i x → v.0.now ≡ (f x).0 → of v.1 (f x).1 → CompletesFields of f xs (drop i xs) front → CompletesFields of f xs (drop (i + 1) xs) (front ++ v ∷ [])
fields_more of f xs i x front v within is name h so_far = λ more left.
    subst (FieldsAreOf of (map f xs)) (sym (append_assoc front (v ∷ []) more))
    (so_far (v ∷ more) (subst (λ (l : List (List ℕ × TypeTree)). FieldsAreOf of l (v ∷ more)) (sym (at_item (map f) xs i x within is)) (name, h, left)))

pub fields_all : {S X : Type 0} (of : S → TypeTree → Type 0) (f : X → List ℕ × TypeTree) (xs : List X) (i : ℕ) (front : List (Bor (List ℕ) × S)) → length xs ≤ i → CompletesFields of f xs (drop i xs) front → FieldsAreOf of (map f xs) front
fields_all of f xs i front le so_far = subst (FieldsAreOf of (map f xs)) (append-nil front) (so_far [] (subst (λ (l : List (List ℕ × TypeTree)). FieldsAreOf of l []) (sym (at_end (map f) xs i le)) tt))

module _ {X : Type 0} (f : X → List ℕ × TypeTree) (xs : List X) (i : ℕ) (x : X) (within : i < length xs) (is : x ≡ get_or xs i x) where
  pub field_step : (bytes : List ℕ) (v : Value) (after : List ℕ) → value_at (f x).1 bytes ≡ Ok (v, after) → each_field_at (map f (drop i xs)) bytes ≡ (each_field_at (map f (drop (i + 1) xs)) after >>= λ others. Ok (((f x).0, v) ∷ others.0, others.1))
  field_step bytes v after e =
      at_item (λ (l : List X). each_field_at (map f l) bytes) xs i x within is
      ∙ ap (λ (q : Reading Value). q >>= then_fields (f x).0 (map f (drop (i + 1) xs))) e

  pub field_stop : (bytes : List ℕ) (y : Fault) → value_at (f x).1 bytes ≡ Err y → each_field_at (map f (drop i xs)) bytes ≡ Err y
  field_stop bytes y e =
      at_item (λ (l : List X). each_field_at (map f l) bytes) xs i x within is
      ∙ ap (λ (q : Reading Value). q >>= then_fields (f x).0 (map f (drop (i + 1) xs))) e

pub fields_end : {X : Type 0} (f : X → List ℕ × TypeTree) (xs : List X) (i : ℕ) (bytes : List ℕ) → length xs ≤ i → each_field_at (map f (drop i xs)) bytes ≡ Ok ([], bytes)
fields_end {X = X} f xs i bytes le = at_end (λ (l : List X). each_field_at (map f l) bytes) xs i le

-- ---- nothing is read yet, and what is pushed

front_none : {A : Type 0} (read : Reading (List A)) → with_front [] read ≡ read
front_none (Ok x) = refl
front_none (Err f) = refl

-- `f` is what an item says
pub first_front : {A B : Type 0} (f : A → B) (items : List A) (step total : Reading (List B)) → items ≡ [] → step ≡ total → with_front (map f items) step ≡ total
first_front {A = A} f items step total empty same = ap (λ (l : List A). with_front (map f l) step) empty ∙ (front_none step ∙ same)

pub less_none : (count : ℕ) → count - 0 ≡ count
less_none count = omega arith

pub fields_push : {S : Type 0} (tree : S → Value) (items : List (Bor (List ℕ) × S)) (one : Bor (List ℕ) × S) → field_trees tree (items ++ one ∷ []) ≡ field_trees tree items ++ (one.0.now, tree one.1) ∷ []
fields_push tree [] one = refl
fields_push tree (x ∷ items) one = ap (λ (l : List (List ℕ × Value)). (x.0.now, tree x.1) ∷ l) (fields_push tree items one)

pub entries_push : {S : Type 0} (tree : S → Value) (items : List (S × S)) (one : S × S) → entry_trees tree (items ++ one ∷ []) ≡ entry_trees tree items ++ (tree one.0, tree one.1) ∷ []
entries_push tree [] one = refl
entries_push tree (x ∷ items) one = ap (λ (l : List (Value × Value)). (tree x.0, tree x.1) ∷ l) (entries_push tree items one)

-- ---- a key and its value

abbrev with_key : TypeTree → Value × List ℕ → Reading (Value × Value)
with_key V a = value_at V a.1 >>= λ b. Ok ((a.0, b.0), b.1)

abbrev behind_key : Value → Value × List ℕ → Reading (Value × Value)
behind_key k b = Ok ((k, b.0), b.1)

pub pair_read : (K V : TypeTree) (bytes : List ℕ) (k : Value) (mid : List ℕ) (v : Value) (rest : List ℕ) → value_at K bytes ≡ Ok (k, mid) → value_at V mid ≡ Ok (v, rest) → pair_at (value_at K) (value_at V) bytes ≡ Ok ((k, v), rest)
pair_read K V bytes k mid v rest a b = ap (λ (q : Reading Value). q >>= with_key V) a ∙ ap (λ (q : Reading Value). q >>= behind_key k) b

pub second_stop : (K V : TypeTree) (bytes : List ℕ) (k : Value) (mid : List ℕ) (x : Fault) → value_at K bytes ≡ Ok (k, mid) → value_at V mid ≡ Err x → pair_at (value_at K) (value_at V) bytes ≡ Err x
second_stop K V bytes k mid x a b = ap (λ (q : Reading Value). q >>= with_key V) a ∙ ap (λ (q : Reading Value). q >>= behind_key k) b

-- ---- names of flags

abbrev named : List (List ℕ) → ℕ → List ℕ → List ℕ × List ℕ → Reading (List (List ℕ))
named names n bytes name =
    or_fault (names_behind names name.0) (fault kinds.Name bytes) >>= λ later. flags_at later n name.1 >>= λ others. Ok (name.0 ∷ others.0, others.1)

abbrev found : ℕ → List ℕ → List ℕ → List (List ℕ) → Reading (List (List ℕ))
found n name rest later = flags_at later n rest >>= λ others. Ok (name ∷ others.0, others.1)

module _ (names : List (List ℕ)) (count i : ℕ) (bytes : List ℕ) (within : i < count) where
  one_flag : flags_at names (count - i) bytes ≡ (name_at bytes >>= named names (count - (i + 1)) bytes)
  one_flag = let k : count - i ≡ suc (count - (i + 1)) = omega arith in ap (λ (n : ℕ). flags_at names n bytes) k

  pub flags_stop : (x : Fault) → name_at bytes ≡ Err x → flags_at names (count - i) bytes ≡ Err x
  flags_stop x e = one_flag ∙ ap (λ (q : Reading (List ℕ)). q >>= named names (count - (i + 1)) bytes) e

  pub flags_none : (name after : List ℕ) → name_at bytes ≡ Ok (name, after) → names_behind names name ≡ None → flags_at names (count - i) bytes ≡ Err (fault kinds.Name bytes)
  flags_none name after e none =
      one_flag ∙ (ap (λ (q : Reading (List ℕ)). q >>= named names (count - (i + 1)) bytes) e
      ∙ ap (λ (o : Option (List (List ℕ))). or_fault o (fault kinds.Name bytes) >>= found (count - (i + 1)) name after) none)

  pub flags_step : (name after : List ℕ) (later : List (List ℕ)) → name_at bytes ≡ Ok (name, after) → names_behind names name ≡ Some later → flags_at names (count - i) bytes ≡ (flags_at later (count - (i + 1)) after >>= λ others. Ok (name ∷ others.0, others.1))
  flags_step name after later e is =
      one_flag ∙ (ap (λ (q : Reading (List ℕ)). q >>= named names (count - (i + 1)) bytes) e
      ∙ ap (λ (o : Option (List (List ℕ))). or_fault o (fault kinds.Name bytes) >>= found (count - (i + 1)) name after) is)

pub flags_end : (names : List (List ℕ)) (count i : ℕ) (bytes : List ℕ) → count ≤ i → flags_at names (count - i) bytes ≡ Ok ([], bytes)
flags_end names count i bytes le = let k : count - i ≡ 0 = omega arith in ap (λ (n : ℕ). flags_at names n bytes) k

-- the name that stands at a place
pub name_there : (names : List (Bor (List ℕ))) (place : ℕ) (d : Bor (List ℕ)) (name : List ℕ) → slice_get (texts names) place ≡ Some name → (get_or names place d).now ≡ name
name_there [] place d name e = absurd cc
name_there (n ∷ names) zero d name e = some_same n.now name e
  where
    some_same : (x y : List ℕ) → Some x ≡ Some y → x ≡ y
    some_same x y e = cc
name_there (n ∷ names) (suc place) d name e = name_there names place d name e

-- another name
pub behind_next : (names : List (List ℕ)) (i : ℕ) (name other : List ℕ) → i < length names → other ≡ get_or names i other → bytes_eq name other ≡ false → names_behind (drop i names) name ≡ names_behind (drop (i + 1) names) name
behind_next names i name other within is apart =
    at_item (λ (l : List (List ℕ)). names_behind l name) names i other within is
    ∙ ap (λ (b : Bool). cond b (Some (drop (i + 1) names)) (names_behind (drop (i + 1) names) name)) apart

-- the name itself
pub behind_here : (names : List (List ℕ)) (i : ℕ) (name other : List ℕ) → i < length names → other ≡ get_or names i other → bytes_eq name other ≡ true → names_behind (drop i names) name ≡ Some (drop (i + 1) names)
behind_here names i name other within is same =
    at_item (λ (l : List (List ℕ)). names_behind l name) names i other within is
    ∙ ap (λ (b : Bool). cond b (Some (drop (i + 1) names)) (names_behind (drop (i + 1) names) name)) same

pub behind_end : (names : List (List ℕ)) (i : ℕ) (name : List ℕ) → length names ≤ i → names_behind (drop i names) name ≡ None
behind_end names i name le = at_end (λ (l : List (List ℕ)). names_behind l name) names i le

-- the text at a place
pub text_there : (names : List (Bor (List ℕ))) (i : ℕ) (d : Bor (List ℕ)) → i < length names → (get_or names i d).now ≡ get_or (texts names) i (get_or names i d).now
text_there [] i d within = absurd (omega arith)
text_there (n ∷ names) zero d within = refl
text_there (n ∷ names) (suc i) d within = text_there names i d (omega arith)

pub place_there : (names : List (List ℕ)) (i : ℕ) (name : List ℕ) → i < length names → name ≡ get_or names i name → slice_get names i ≡ Some name
place_there names i name within is = slice_get-get_or names i name within ∙ ap Some (sym is)

-- the name stands at a place
pub record FoundAt (names : List (Bor (List ℕ))) (from i : ℕ) (name : List ℕ) : Type 0 where
  pub stands : slice_get (texts names) i ≡ Some name
  pub behind : names_behind (drop from (texts names)) name ≡ Some (drop (i + 1) (texts names))

module _ (names : List (Bor (List ℕ))) (from i : ℕ) (name text : List ℕ) (d : Bor (List ℕ)) (within : i < length names) (is : text ≡ (get_or names i d).now) (so_far : names_behind (drop from (texts names)) name ≡ names_behind (drop i (texts names)) name) where
  inside : i < length (texts names)
  inside = omega (arith, within, length-map names (λ (n : Bor (List ℕ)). n.now))

  at_place : text ≡ get_or (texts names) i text
  at_place = subst (λ (t : List ℕ). t ≡ get_or (texts names) i t) (sym is) (text_there names i d within)

  pub found_place : bytes_eq name text ≡ true → FoundAt names from i name
  found_place same =
      let equal : name ≡ text = (bytes_eq-Decides name text).0 same in
      record {
        stands = place_there (texts names) i name inside (subst (λ (t : List ℕ). t ≡ get_or (texts names) i t) (sym equal) at_place);
        behind = so_far ∙ behind_here (texts names) i name text inside at_place same;
      }

  pub next_place : bytes_eq name text ≡ false → names_behind (drop from (texts names)) name ≡ names_behind (drop (i + 1) (texts names)) name
  next_place apart = so_far ∙ behind_next (texts names) i name text inside at_place apart
