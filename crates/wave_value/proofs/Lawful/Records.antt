-- From what `Value` says of records to the laws of values.
use Rattle.std.proofs.Common.{ℕ, ◌≡◌, ◌≢◌, inl, inr, Bool, true, false, List, [], ◌∷◌, map, refl, sym, ap, subst, ◌∙◌, Option, Some, None, Bor, IsPermutation}
use Rattle.std.specs.Option.{option_or}
use Rattle.std.specs.Prelude.{if◌then◌else◌}
use Rattle.std.specs.List.{All}
use Rattle.std.specs.Str.{bytes_eq}
use Rattle.std.proofs.lemmas.Bool.{false≢true, false_from_ne_true}
use Rattle.std.proofs.lemmas.List.Elements.{All-nil, All-cons, All-head, All-tail}
use Rattle.std.proofs.lemmas.List.Sorted.{IsPermutation-refl, IsPermutation-sym, IsPermutation-trans, IsPermutation-cons, IsPermutation-middle, IsPermutation-map, All-permutation}
use Rattle.std.proofs.lemmas.Slice.Eq.{bytes_eq-Decides}
use Rattle.wave_wasm.specs.Lists.{AllOf, SomeOf}
use Rattle.wave_wasm.specs.Names.{IsOneOf, IsNoneOf, AreDistinct, is_one_of}
use Rattle.wave_wasm.specs.Borrowed.{named}
use Rattle.wave_wasm.specs.Types as type
use Rattle.wave_wasm.specs.Types.{TypeTree, Fields, HasDistinctNames, field_names, record_parts}
use Rattle.wave_wasm.specs.Values as value
use Rattle.wave_wasm.specs.Values.{Value, field_values}
use Rattle.wave_wasm.specs.HasType.{HasType}
use Rattle.wave_wasm.specs.ConstructorContracts.{IsMemory, Makes, MakesRecord, FieldsAreOf, FullRecord, field_trees}
use Rattle.wave_wasm.specs.declared.wasm.WasmValueError.{WasmValueError}
use Rattle.wave_wasm.specs.declared.wasm.WasmValueError.TheVariants as error
use Rattle.wave_wasm.proofs.Names.NameTests.{is_one, none_of}
use Rattle.wave_value.specs.FullTypes.{IsFull}
use Rattle.wave_value.specs.RecordConstructor.{last_under, HasOwn, HasOther, IsRepeated, TakesRecord, BuiltRecord, RefusesRecord}
use Rattle.wave_value.specs.TypedValue.{TypedValue, IsAt}
use Rattle.wave_value.specs.ValueModel.{first_names, trees, beside}
use Rattle.wave_value.proofs.Lawful.Values.{one_none, among}
use Rattle.wave_value.proofs.ValueModel.Lists.{field_list-field_values}

-- ---- names

never_repeated : (ns : List (List ℕ)) (n : List ℕ) → AreDistinct ns → IsRepeated ns n → ⊥
never_repeated [] n d h = h
never_repeated (m ∷ ns) n d (inl h) = one_none ns m (subst (IsOneOf ns) h.0 h.1) d.0
never_repeated (m ∷ ns) n d (inr h) = never_repeated ns n d.1 h

names_are : (fs : Fields) → field_names fs ≡ first_names (type.field_list fs)
names_are type.no_fields = refl
names_are (type.field n T fs) = ap (λ ns. n ∷ ns) (names_are fs)

same_text : (a : List ℕ) → bytes_eq a a ≡ true
same_text a = (bytes_eq-Decides a a).1 refl

other_text : (a b : List ℕ) → a ≢ b → bytes_eq a b ≡ false
other_text a b n = false_from_ne_true (bytes_eq a b) (λ e. n ((bytes_eq-Decides a b).0 e))

-- ---- the last value under a name, where names are distinct

module _ {A : Type 0} where
  or_none : (o : Option A) → option_or o None ≡ o
  or_none None = refl
  or_none (Some a) = refl

  none_last : (gs : List (List ℕ × A)) (n : List ℕ) → IsNoneOf (first_names gs) n → last_under gs n ≡ None
  none_last [] n h = refl
  none_last (g ∷ gs) n h =
      ap (λ b. option_or (last_under gs n) (if b then Some g.1 else None)) (other_text g.0 n (λ e. h.0 (sym e))) ∙ (or_none (last_under gs n) ∙ none_last gs n h.1)

  -- what has a last value was handed in
  last_among : (gs : List (List ℕ × A)) (n : List ℕ) → last_under gs n ≢ None → IsOneOf (first_names gs) n
  last_among gs n some = by (is_one_of (first_names gs) n) refl
    where
      by : (b : Bool) → is_one_of (first_names gs) n ≡ b → IsOneOf (first_names gs) n
      by true e = is_one (first_names gs) n e
      by false e = absurd (some (none_last gs n (none_of (first_names gs) n e)))

  -- the fields without the first of this name
  abbrev without : List ℕ → List (List ℕ × A) → List (List ℕ × A)
  without n [] = []
  without n (g ∷ gs) = if bytes_eq g.0 n then gs else g ∷ without n gs

  -- the one under the name, and the others
  to_prefix : (gs : List (List ℕ × A)) (n : List ℕ) (v : A) → AreDistinct (first_names gs) → last_under gs n ≡ Some v → IsPermutation gs ((n, v) ∷ without n gs)
  to_prefix [] n v d e = absurd (cc)
  to_prefix (g ∷ gs) n v d e = by (bytes_eq g.0 n) refl (to_prefix gs n v d.1) e
    where
      here : (w : A) → last_under gs n ≡ None → option_or (last_under gs n) (Some w) ≡ Some v → w ≡ v
      here w none e = let first : Some w ≡ Some v = ap (λ o. option_or o (Some w)) (sym none) ∙ e in cc

      by : (b : Bool) → bytes_eq g.0 n ≡ b → (last_under gs n ≡ Some v → IsPermutation gs ((n, v) ∷ without n gs)) → option_or (last_under gs n) (if b then Some g.1 else None) ≡ Some v → IsPermutation (g ∷ gs) ((n, v) ∷ (if b then gs else g ∷ without n gs))
      by true t rest e =
          let same = (bytes_eq-Decides g.0 n).0 t in
          let value_is = here g.1 (none_last gs n (subst (IsNoneOf (first_names gs)) same d.0)) e in
          subst (λ (p : List ℕ × A). IsPermutation (g ∷ gs) (p ∷ gs)) (λ i. (same i, value_is i)) (IsPermutation-refl (g ∷ gs))
      by false t rest e =
          IsPermutation-trans _ _ _ (IsPermutation-cons g _ _ (rest (sym (or_none (last_under gs n)) ∙ e))) (IsPermutation-middle (g ∷ []) (n, v) (without n gs))

  other_last : (gs : List (List ℕ × A)) (n m : List ℕ) → m ≢ n → last_under (without n gs) m ≡ last_under gs m
  other_last [] n m other = refl
  other_last (g ∷ gs) n m other = by (bytes_eq g.0 n) refl (other_last gs n m other)
    where
      by : (b : Bool) → bytes_eq g.0 n ≡ b → last_under (without n gs) m ≡ last_under gs m → last_under (if b then gs else g ∷ without n gs) m ≡ option_or (last_under gs m) (if bytes_eq g.0 m then Some g.1 else None)
      by true t rest =
          sym (ap (λ b. option_or (last_under gs m) (if b then Some g.1 else None)) (other_text g.0 m (λ e. other (sym e ∙ (bytes_eq-Decides g.0 n).0 t))) ∙ or_none (last_under gs m))
      by false t rest = ap (λ o. option_or o (if bytes_eq g.0 m then Some g.1 else None)) rest

  none_without : (gs : List (List ℕ × A)) (n m : List ℕ) → IsNoneOf (first_names gs) m → IsNoneOf (first_names (without n gs)) m
  none_without [] n m h = tt
  none_without (g ∷ gs) n m h = by (bytes_eq g.0 n) (none_without gs n m h.1)
    where
      by : (b : Bool) → IsNoneOf (first_names (without n gs)) m → IsNoneOf (first_names (if b then gs else g ∷ without n gs)) m
      by true rest = h.1
      by false rest = (h.0, rest)

  distinct_without : (gs : List (List ℕ × A)) (n : List ℕ) → AreDistinct (first_names gs) → AreDistinct (first_names (without n gs))
  distinct_without [] n d = tt
  distinct_without (g ∷ gs) n d = by (bytes_eq g.0 n) (distinct_without gs n d.1)
    where
      by : (b : Bool) → AreDistinct (first_names (without n gs)) → AreDistinct (first_names (if b then gs else g ∷ without n gs))
      by true rest = d.1
      by false rest = (none_without gs n g.0 d.0, rest)

  one_without : (gs : List (List ℕ × A)) (n m : List ℕ) → AreDistinct (first_names gs) → IsOneOf (first_names (without n gs)) m → IsOneOf (first_names gs) m × (m ≢ n)
  one_without [] n m d h = absurd h
  one_without (g ∷ gs) n m d h = by (bytes_eq g.0 n) refl (one_without gs n m d.1) h
    where
      by : (b : Bool) → bytes_eq g.0 n ≡ b → (IsOneOf (first_names (without n gs)) m → IsOneOf (first_names gs) m × (m ≢ n)) → IsOneOf (first_names (if b then gs else g ∷ without n gs)) m → IsOneOf (first_names (g ∷ gs)) m × (m ≢ n)
      by true t rest h = (inr h, λ e. one_none (first_names gs) g.0 (subst (IsOneOf (first_names gs)) (e ∙ sym ((bytes_eq-Decides g.0 n).0 t)) h) d.0)
      by false t rest (inl e) = (inl e, λ same. false≢true (sym t ∙ (bytes_eq-Decides g.0 n).1 (sym e ∙ same)))
      by false t rest (inr h) = let more = rest h in (inr more.0, more.1)

-- ---- what is made

same_last : (gs : List (List ℕ × TypedValue)) (n : List ℕ) (fs : List (List ℕ × TypeTree)) → IsNoneOf (first_names fs) n → map (λ f. last_under (without n gs) f.0) fs ≡ map (λ f. last_under gs f.0) fs
same_last gs n [] h = refl
same_last gs n (f ∷ fs) h = λ i. other_last gs n f.0 (λ e. h.0 (sym e)) i ∷ same_last gs n fs h.1 i

-- the fields in the type's order are those that were handed in
shuffled : (fs : List (List ℕ × TypeTree)) (gs : List (List ℕ × TypedValue)) (vs : List TypedValue) → AreDistinct (first_names fs) → AreDistinct (first_names gs) → ((m : List ℕ) → IsOneOf (first_names gs) m → IsOneOf (first_names fs) m) → map (λ f. last_under gs f.0) fs ≡ map Some vs
    → IsPermutation (map (λ g. (g.0, g.1.tree)) gs) (beside (first_names fs) (trees vs))
shuffled [] [] [] d k h e = IsPermutation-refl []
shuffled [] (g ∷ gs) vs d k h e = absurd (h g.0 (inl refl))
shuffled [] [] (v ∷ vs) d k h e = absurd (cc)
shuffled (f ∷ fs) gs [] d k h e = absurd (cc)
shuffled (f ∷ fs) gs (v ∷ vs) d k h e =
    let first : last_under gs f.0 ≡ Some v = cc in
    let more : map (λ (g : List ℕ × TypeTree). last_under gs g.0) fs ≡ map Some vs = cc in
    let show : List ℕ × TypedValue → List ℕ × Value = λ g. (g.0, g.1.tree) in
    let rest : (m : List ℕ) → IsOneOf (first_names (without f.0 gs)) m → IsOneOf (first_names fs) m =
    λ m one. let w = one_without gs f.0 m k one in later m (h m w.0) w.1
    in
    IsPermutation-trans _ _ _ (IsPermutation-map show _ _ (to_prefix gs f.0 v k first))
    (IsPermutation-cons (f.0, v.tree) _ _ (shuffled fs (without f.0 gs) vs d.1 (distinct_without gs f.0 k) rest (same_last gs f.0 fs d.0 ∙ more)))
  where
    later : (m : List ℕ) → IsOneOf (first_names (f ∷ fs)) m → m ≢ f.0 → IsOneOf (first_names fs) m
    later m (inl e) other = absurd (other e)
    later m (inr one) other = one

pub names_of_parts : (T : TypeTree) → HasDistinctNames T → AreDistinct (first_names (record_parts T))
names_of_parts (type.record_type fs) h = subst AreDistinct (names_are fs) h.0
names_of_parts _ h = tt

known_of : (T : TypeTree) (given : List (List ℕ × TypedValue)) (n : List ℕ) → TakesRecord T given → IsOneOf (first_names given) n → IsOneOf (first_names (record_parts T)) n
known_of (type.record_type fs) given n h one = among (first_names (type.field_list fs)) (first_names given) n h.1 one
known_of _ given n h one = absurd h

names_handed : (fields : List (Bor (List ℕ) × TypedValue)) → map (λ f. f.0.now) fields ≡ first_names (named fields)
names_handed [] = refl
names_handed (f ∷ fields) = ap (λ ns. f.0.now ∷ ns) (names_handed fields)

trees_handed : (fields : List (Bor (List ℕ) × TypedValue)) → map (λ (g : List ℕ × TypedValue). (g.0, g.1.tree)) (named fields) ≡ field_trees (λ (v : TypedValue). v.tree) fields
trees_handed [] = refl
trees_handed (f ∷ fields) = ap (λ fs. (f.0.now, f.1.tree) ∷ fs) (trees_handed fields)

-- a record that is made is one of the fields that are handed in
pub built_record : (T : TypeTree) (fields : List (Bor (List ℕ) × TypedValue)) (v : TypedValue) → BuiltRecord (named fields) T v → TakesRecord T (named fields) → MakesRecord (λ v. v.tree) (λ v T. IsAt T v) T fields v
built_record T fields v m takes = λ distinct different.
    let all = field_values (beside (first_names (record_parts T)) (trees m.last)) in
    let moved = shuffled (record_parts T) (named fields) m.last (names_of_parts T distinct) (subst AreDistinct (names_handed fields) different) (λ n one. known_of T (named fields) n takes one) m.are_last in
    let built : Makes (λ (v : TypedValue). v.tree) (λ v T. IsAt T v) (value.record_value all) T v = record { means = m.built.tree; fits = m.built.fits; is_of = record { own = m.built.own; fits = subst (HasType T) (sym m.built.tree) m.built.fits } } in
    (all, subst (IsPermutation (field_trees (λ (v : TypedValue). v.tree) fields)) (sym (field_list-field_values (beside (first_names (record_parts T)) (trees m.last)))) (subst (λ fs. IsPermutation fs (beside (first_names (record_parts T)) (trees m.last))) (trees_handed fields) moved), built)

-- ---- what is refused

module _ {X : Type 0} where
  all_from : (P : X → Type 0) (xs : List X) → AllOf P xs → All P xs
  all_from P [] h = All-nil P
  all_from P (x ∷ xs) h = All-cons P x xs h.0 (all_from P xs h.1)

  all_to : (P : X → Type 0) (xs : List X) → All P xs → AllOf P xs
  all_to P [] h = tt
  all_to P (x ∷ xs) h = (All-head P x xs h, all_to P xs (All-tail P x xs h))

  pub all_moved : (P : X → Type 0) (xs ys : List X) → IsPermutation xs ys → AllOf P xs → AllOf P ys
  all_moved P xs ys moved h = all_to P ys (All-permutation P xs ys moved (all_from P xs h))

  all_weaker : (P Q : X → Type 0) (xs : List X) → ((x : X) → P x → Q x) → AllOf P xs → AllOf Q xs
  all_weaker P Q [] f h = tt
  all_weaker P Q (x ∷ xs) f h = (f x h.0, all_weaker P Q xs f h.1)

-- where names are distinct, each value is the last under its name
pub each_last : (fields : List (Bor (List ℕ) × TypedValue)) → AreDistinct (first_names (named fields)) → AllOf (λ f. last_under (named fields) f.0.now ≡ Some f.1) fields
each_last [] d = tt
each_last (f ∷ fields) d = (
  ap (λ o. option_or o (if bytes_eq f.0.now f.0.now then Some f.1 else None)) (none_last (named fields) f.0.now d.0) ∙ ap (λ b. if b then Some f.1 else None) (same_text f.0.now),
  all_weaker (λ g. last_under (named fields) g.0.now ≡ Some g.1) (λ g. last_under (named (f ∷ fields)) g.0.now ≡ Some g.1) fields
      (λ g e. ap (λ o. option_or o (if bytes_eq f.0.now g.0.now then Some f.1 else None)) e) (each_last fields d.1),
)

each_own : (under : List ℕ → Option TypedValue) (fs : List (List ℕ × TypeTree)) (ordered : List (Bor (List ℕ) × TypedValue)) → AllOf (λ f. under f.0.now ≡ Some f.1) ordered → FieldsAreOf (λ v T. IsAt T v) fs ordered → AllOf (λ f. HasOwn f.1 (under f.0)) fs
each_own under [] ordered last h = tt
each_own under (f ∷ fs) [] last h = absurd h
each_own under (f ∷ fs) (g ∷ gs) last h =
    (subst (HasOwn f.1) (sym (ap under (sym h.0) ∙ last.0)) h.1.own, each_own under fs gs last.1 h.2)

each_known : (fs : List (List ℕ × TypeTree)) (ordered : List (Bor (List ℕ) × TypedValue)) → FieldsAreOf (λ v T. IsAt T v) fs ordered → AllOf (λ f. IsOneOf (first_names fs) f.0.now) ordered
each_known [] [] h = tt
each_known [] (g ∷ gs) h = absurd h
each_known (f ∷ fs) [] h = absurd h
each_known (f ∷ fs) (g ∷ gs) h =
    (inl h.0, all_weaker (λ o. IsOneOf (first_names fs) o.0.now) (λ o. IsOneOf (first_names (f ∷ fs)) o.0.now) gs (λ o one. inr one) (each_known fs gs h.2))

all_known : (ns : List (List ℕ)) (fields : List (Bor (List ℕ) × TypedValue)) (n : List ℕ) → AllOf (λ f. IsOneOf ns f.0.now) fields → IsOneOf (first_names (named fields)) n → IsOneOf ns n
all_known ns [] n h one = absurd one
all_known ns (f ∷ fields) n h (inl e) = subst (IsOneOf ns) (sym e) h.0
all_known ns (f ∷ fields) n h (inr one) = all_known ns fields n h.1 one

own_some : (under : List ℕ → Option TypedValue) (fs : List (List ℕ × TypeTree)) (n : List ℕ) → AllOf (λ f. HasOwn f.1 (under f.0)) fs → IsOneOf (first_names fs) n → under n ≢ None
own_some under [] n h one none = one
own_some under (f ∷ fs) n h (inl e) none = subst (HasOwn f.1) (ap under (sym e) ∙ none) h.0
own_some under (f ∷ fs) n h (inr one) none = own_some under fs n h.1 one none

own_and_other : (words : TypedValue → List ℕ) (t s : List ℕ) (T : TypeTree) (o : Option TypedValue) → HasOwn T o → HasOther words t s T o → ⊥
own_and_other words t s T None own other = own
own_and_other words t s T (Some v) own other = other.0 own

never_other : (words : TypedValue → List ℕ) (t s : List ℕ) (under : List ℕ → Option TypedValue) (fs : List (List ℕ × TypeTree)) → AllOf (λ f. HasOwn f.1 (under f.0)) fs → SomeOf (λ f. HasOther words t s f.1 (under f.0)) fs → ⊥
never_other words t s under [] h one = one
never_other words t s under (f ∷ fs) h (inl other) = own_and_other words t s f.1 (under f.0) h.0 other
never_other words t s under (f ∷ fs) h (inr one) = never_other words t s under fs h.1 one

record_memory : (words : TypedValue → List ℕ) (fs : Fields) (given : List (List ℕ × TypedValue)) (e : WasmValueError) → AreDistinct (first_names (type.field_list fs)) → AllOf (λ f. HasOwn f.1 (last_under given f.0)) (type.field_list fs)
    → ((n : List ℕ) → IsOneOf (first_names given) n → IsOneOf (first_names (type.field_list fs)) n) → RefusesRecord words (type.record_type fs) given e → IsMemory e
record_memory words fs given (error.WrongTypeKind k s) d own known r = absurd (r.0 refl)
record_memory words fs given (error.MissingField n) d own known (is, (one, inl none)) = absurd (own_some (last_under given) (type.field_list fs) _ own one none)
record_memory words fs given (error.MissingField n) d own known (is, (one, inr twice)) = absurd (never_repeated (first_names (type.field_list fs)) _ d twice)
record_memory words fs given (error.UnknownField n) d own known (is, (some, none)) = absurd (none (known _ (last_among given _ some)))
record_memory words fs given (error.WrongValueType s t) d own known (is, other) = absurd (never_other words _ _ (last_under given) (type.field_list fs) own other)
record_memory words fs given (error.Memory m) d own known r = tt
record_memory words fs given _ d own known r = absurd r.1

-- fields of the stated types are refused for lack of memory alone
pub full_record : (words : TypedValue → List ℕ) (T : TypeTree) (fields : List (Bor (List ℕ) × TypedValue)) (e : WasmValueError) → RefusesRecord words T (named fields) e → FullRecord (λ v T. IsAt T v) IsFull T fields e
full_record words T fields e r = λ full fs is different ordered moved h.
    let distinct : HasDistinctNames (type.record_type fs) = subst HasDistinctNames is full in
    let last = all_moved (λ f. last_under (named fields) f.0.now ≡ Some f.1) fields ordered moved (each_last fields (subst AreDistinct (names_handed fields) different)) in
    let known = all_moved (λ f. IsOneOf (first_names (type.field_list fs)) f.0.now) ordered fields (IsPermutation-sym fields ordered moved) (each_known (type.field_list fs) ordered h) in
    record_memory words fs (named fields) e (names_of_parts (type.record_type fs) distinct) (each_own (last_under (named fields)) (type.field_list fs) ordered last h) (λ n one. all_known (first_names (type.field_list fs)) fields n known one) (subst (λ U. RefusesRecord words U (named fields) e) is r)
