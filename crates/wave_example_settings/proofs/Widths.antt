-- A record with another width.
use Rattle.std.proofs.Common.{Bor, ℕ, ◌≡◌, ◌≢◌, inl, inr, Bool, true, false, List, [], ◌∷◌, ◌++◌, map, Option, Some, None, option_map, cond, refl, sym, ap, subst, ◌∙◌}
use Rattle.std.specs.Option.{option_or}
use Rattle.std.specs.Prelude.{if◌then◌else◌, codes, pos}
use Rattle.std.specs.Str.{bytes_eq}
use Rattle.std.proofs.lemmas.Bool.{false_from_ne_true}
use Rattle.std.proofs.lemmas.Slice.Eq.{bytes_eq-Decides}
use Rattle.std.proofs.lemmas.List.{map-append}
use Rattle.wave_wasm.specs.Borrowed.{named, denoted_fields}
use Rattle.wave_wasm.specs.Lists.{AllOf, SomeOf}
use Rattle.wave_wasm.specs.Names.{IsOneOf, IsNoneOf, AreDistinct, AreAllOf}
use Rattle.wave_wasm.specs.Types as type
use Rattle.wave_wasm.specs.Types.{TypeTree, Fields, field_list, record_parts, kind_of}
use Rattle.wave_wasm.specs.Values as value
use Rattle.wave_wasm.specs.Values.{Value, FieldValues, field_values, record_fields}
use Rattle.wave_wasm.specs.HasType.{HasType, HasFields}
use Rattle.wave_wasm.specs.ConstructorContracts.{IsMemory}
use Rattle.wave_wasm.specs.declared.wasm.WasmValueError.{WasmValueError}
use Rattle.wave_wasm.specs.declared.wasm.WasmValueError.TheVariants as error
use Rattle.wave_value.specs.TypedValue.{TypedValue, IsTyped, typed_leaf}
use Rattle.wave_value.specs.ValueModel.{first_names, trees, beside}
use Rattle.wave_value.specs.RecordConstructor.{last_under, HasOwn, HasOther, IsRepeated, TakesRecord, BuiltRecord, RefusesRecord}
use Rattle.wave_value.proofs.ConstructorAnswers.Records.{last_more}
use Rattle.wave_example_settings.proofs.WidthFields.{given}
use Rattle.wave_example_settings.specs.Settings.{number, with_number, with_width, TakesWidth, RefusesWidth}

-- ---- the last value under a name

abbrev width_name : List ℕ
width_name = codes "width"

like : (n m : List ℕ) → n ≡ m → bytes_eq n m ≡ true
like n m is = (bytes_eq-Decides n m).1 is

unlike : (n m : List ℕ) → n ≢ m → bytes_eq n m ≡ false
unlike n m other = false_from_ne_true (bytes_eq n m) (λ e. other ((bytes_eq-Decides n m).0 e))

none_under : (gs : List (List ℕ × TypedValue)) (n : List ℕ) → IsNoneOf (first_names gs) n → last_under gs n ≡ None
none_under [] n h = refl
none_under (g ∷ gs) n h = rw (none_under gs n h.1) (rw (unlike g.0 n (λ is. h.0 (sym is))) refl)

-- where no name stands twice it is the only one
only_under : (gs : List (List ℕ × TypedValue)) → AreDistinct (first_names gs) → AllOf (λ g. last_under gs g.0 ≡ Some g.1) gs
only_under [] d = tt
only_under (g ∷ gs) d = (rw (none_under gs g.0 d.0) (rw (like g.0 g.0 refl) refl), stay gs (only_under gs d.1))
  where
    stay : (hs : List (List ℕ × TypedValue)) → AllOf (λ h. last_under gs h.0 ≡ Some h.1) hs → AllOf (λ h. last_under (g ∷ gs) h.0 ≡ Some h.1) hs
    stay [] a = tt
    stay (h ∷ hs) a = (ap (λ o. option_or o (if bytes_eq g.0 h.0 then Some g.1 else None)) a.0, stay hs a.1)

-- ---- what is made: the same fields, with this width

-- a value after its name, with this number where that is the width
abbrev widened : ℕ → List ℕ × TypedValue → List ℕ × Value
widened n g = with_number n (g.0, g.1.tree)

-- the fields of a record after the width
abbrev pub with_last : List (List ℕ × TypedValue) → TypedValue → List (List ℕ × TypedValue)
with_last gs w = gs ++ (width_name, w) ∷ []

under_more : (n : ℕ) (w : TypedValue) (b : Bool) (o : Option TypedValue) (v : TypedValue) → w.tree ≡ number n → o ≡ Some v → option_map (λ u. u.tree) (cond b (Some w) o) ≡ Some (if b then number n else v.tree)
under_more n w true o v is e = ap Some is
under_more n w false o v is e = ap (option_map (λ u. u.tree)) e

are_widened : (n : ℕ) (w : TypedValue) (all gs : List (List ℕ × TypedValue)) → w.tree ≡ number n → AllOf (λ g. last_under all g.0 ≡ Some g.1) gs → AllOf (λ g. option_map (λ u. u.tree) (last_under (with_last all w) g.0) ≡ Some (widened n g).1) gs
are_widened n w all [] is h = tt
are_widened n w all (g ∷ gs) is h = (rw (last_more all width_name w g.0) (under_more n w (bytes_eq width_name g.0) (last_under all g.0) g.1 is h.0), are_widened n w all gs is h.1)

beside_widened : (n : ℕ) (under : List ℕ → Option TypedValue) (fs : List (List ℕ × TypeTree)) (gs : List (List ℕ × TypedValue)) (last : List TypedValue) → first_names gs ≡ first_names fs → map (λ f. under f.0) fs ≡ map Some last
    → AllOf (λ g. option_map (λ u. u.tree) (under g.0) ≡ Some (widened n g).1) gs → beside (first_names fs) (trees last) ≡ map (widened n) gs
beside_widened n under [] [] [] names are h = refl
beside_widened n under [] [] (v ∷ last) names are h = absurd (cc are)
beside_widened n under [] (g ∷ gs) last names are h = absurd (cc names)
beside_widened n under (f ∷ fs) [] last names are h = absurd (cc names)
beside_widened n under (f ∷ fs) (g ∷ gs) [] names are h = absurd (cc are)
beside_widened n under (f ∷ fs) (g ∷ gs) (v ∷ last) names are h =
    let head : g.0 ≡ f.0 = cc names in
    let under_head : under f.0 ≡ Some v = cc are in
    let here : Some v.tree ≡ Some (widened n g).1 = ap (option_map (λ u. u.tree)) (sym under_head) ∙ (ap (λ m. option_map (λ u. u.tree) (under m)) (sym head) ∙ h.0) in
    let tree_is : v.tree ≡ (widened n g).1 = cc here in
    let more = beside_widened n under fs gs last (cc names) (cc are) h.1 in
    λ i. (sym head i, tree_is i) ∷ more i

names_of : (fs : Fields) (all : FieldValues) → HasFields fs all → first_names (value.field_list all) ≡ first_names (field_list fs)
names_of type.no_fields all h = ap (λ a. first_names (value.field_list a)) h
names_of (type.field name T more) all (w, others, at, has, is) = ap (λ a. first_names (value.field_list a)) is ∙ ap (λ ns. name ∷ ns) (names_of more others has)

denoted_names : (gs : List (List ℕ × TypedValue)) → first_names (map (λ g. (g.0, g.1.tree)) gs) ≡ first_names gs
denoted_names [] = refl
denoted_names (g ∷ gs) = ap (λ ns. g.0 ∷ ns) (denoted_names gs)

all_widened : (n : ℕ) (gs : List (List ℕ × TypedValue)) → map (widened n) gs ≡ map (with_number n) (map (λ g. (g.0, g.1.tree)) gs)
all_widened n [] = refl
all_widened n (g ∷ gs) = ap (λ fs. widened n g ∷ fs) (all_widened n gs)

-- the record that is made of a record's fields and the width after them
pub has_width : (T : TypeTree) (old : Value) (gs : List (List ℕ × TypedValue)) (n : ℕ) (w v : TypedValue) → HasType T old → map (λ g. (g.0, g.1.tree)) gs ≡ record_fields old → TakesRecord T gs → w.tree ≡ number n → BuiltRecord (with_last gs w) T v
    → v.tree ≡ with_width n old
has_width (type.record_type fs) old gs n w v (all, has, is) denoted taken is_number built =
    let fields_are : record_fields old ≡ value.field_list all = ap record_fields is in
    let names : first_names gs ≡ first_names (field_list fs) = sym (denoted_names gs) ∙ (ap first_names (denoted ∙ fields_are) ∙ names_of fs all has) in
    let under = only_under gs (subst AreDistinct (sym names) taken.0) in
    let fields = beside_widened n (last_under (with_last gs w)) (field_list fs) gs built.last names built.are_last (are_widened n w gs gs is_number under) in
    built.built.tree ∙ ap (λ ps. value.record_value (field_values ps)) (fields ∙ (all_widened n gs ∙ ap (map (with_number n)) denoted))
has_width _ old gs n w v has denoted taken is_number built = absurd taken

-- ---- where records of the type have a width

own_width : (w : TypedValue) (all : List (List ℕ × TypedValue)) (f : List ℕ × TypeTree) → width_name ≡ f.0 → HasOwn f.1 (last_under (with_last all w) f.0) → w.own ≡ f.1
own_width w all f is own =
    let there : last_under (with_last all w) f.0 ≡ Some w = rw (last_more all width_name w f.0) (rw (like width_name f.0 is) refl) in
    subst (HasOwn f.1) there own

takes : (w : TypedValue) (all : List (List ℕ × TypedValue)) (fs : List (List ℕ × TypeTree)) → w.own ≡ type.simple (type.whole type.u32) → IsOneOf (first_names fs) width_name → AllOf (λ f. HasOwn f.1 (last_under (with_last all w) f.0)) fs
    → SomeOf (λ f. f ≡ (width_name, type.simple (type.whole type.u32))) fs
takes w all [] is one own = absurd one
takes w all (f ∷ fs) is (inl name) own = inl (λ i. (sym name i, (sym (own_width w all f name own.0) ∙ is) i))
takes w all (f ∷ fs) is (inr one) own = inr (takes w all fs is one own.1)

last_one : (names : List (List ℕ)) (all : List (List ℕ × TypedValue)) (w : TypedValue) → AreAllOf names (first_names (with_last all w)) → IsOneOf names width_name
last_one names [] w h = h.0
last_one names (g ∷ all) w h = last_one names all w h.1

-- the constructor takes a width only there
pub takes_width : (T : TypeTree) (gs : List (List ℕ × TypedValue)) (w : TypedValue) → w.own ≡ type.simple (type.whole type.u32) → TakesRecord T (with_last gs w) → TakesWidth T
takes_width (type.record_type fs) gs w is taken = takes w gs (field_list fs) is (last_one (first_names (field_list fs)) gs w taken.1) taken.2
takes_width _ gs w is taken = absurd taken

-- ---- and what is refused there

one_none : (names : List (List ℕ)) (n : List ℕ) → IsOneOf names n → IsNoneOf names n → ⊥
one_none (m ∷ names) n (inl e) none = none.0 e
one_none (m ∷ names) n (inr one) none = one_none names n one none.1
one_none [] n one none = one

never_twice : (names : List (List ℕ)) (n : List ℕ) → AreDistinct names → IsRepeated names n → ⊥
never_twice [] n d twice = twice
never_twice (m ∷ names) n d (inl (is, one)) = one_none names m (subst (IsOneOf names) is one) d.0
never_twice (m ∷ names) n d (inr twice) = never_twice names n d.1 twice

name_in : (fs : List (List ℕ × TypeTree)) → SomeOf (λ f. f ≡ (width_name, type.simple (type.whole type.u32))) fs → IsOneOf (first_names fs) width_name
name_in [] one = one
name_in (f ∷ fs) (inl e) = inl (sym (ap (λ p. p.0) e))
name_in (f ∷ fs) (inr one) = inr (name_in fs one)

-- the value that is the last under a field's name has its type
own_stays : (w : TypedValue) (b : Bool) (o : Option TypedValue) (T : TypeTree) → (b ≡ true → w.own ≡ T) → HasOwn T o → HasOwn T (cond b (Some w) o)
own_stays w true o T is own = is refl
own_stays w false o T is own = own

owns : (w : TypedValue) (all : List (List ℕ × TypedValue)) (fs : List (List ℕ × TypeTree)) → AllOf (λ f. width_name ≡ f.0 → w.own ≡ f.1) fs → AllOf (λ f. HasOwn f.1 (last_under all f.0)) fs → AllOf (λ f. HasOwn f.1 (last_under (with_last all w) f.0)) fs
owns w all [] is own = tt
owns w all (f ∷ fs) is own =
    (rw (last_more all width_name w f.0) (own_stays w (bytes_eq width_name f.0) (last_under all f.0) f.1 (λ e. is.0 ((bytes_eq-Decides width_name f.0).0 e)) own.0), owns w all fs is.1 own.1)

no_width : (w : TypedValue) (fs : List (List ℕ × TypeTree)) → IsNoneOf (first_names fs) width_name → AllOf (λ f. width_name ≡ f.0 → w.own ≡ f.1) fs
no_width w [] none = tt
no_width w (f ∷ fs) none = (λ is. absurd (none.0 is), no_width w fs none.1)

is_width : (w : TypedValue) (fs : List (List ℕ × TypeTree)) → w.own ≡ type.simple (type.whole type.u32) → AreDistinct (first_names fs) → SomeOf (λ f. f ≡ (width_name, type.simple (type.whole type.u32))) fs → AllOf (λ f. width_name ≡ f.0 → w.own ≡ f.1) fs
is_width w [] own d one = tt
is_width w (f ∷ fs) own d (inl e) = (λ is. own ∙ sym (ap (λ p. p.1) e), no_width w fs (subst (IsNoneOf (first_names fs)) (ap (λ p. p.0) e) d.0))
is_width w (f ∷ fs) own d (inr one) = (λ is. absurd (one_none (first_names fs) width_name (name_in fs one) (subst (IsNoneOf (first_names fs)) (sym is) d.0)), is_width w fs own d.1 one)

all_of : (names : List (List ℕ)) (all : List (List ℕ × TypedValue)) (w : TypedValue) → AreAllOf names (first_names all) → IsOneOf names width_name → AreAllOf names (first_names (with_last all w))
all_of names [] w h one = (one, tt)
all_of names (g ∷ all) w h one = (h.0, all_of names all w h.1 one)

-- the constructor takes the width there
taken_there : (fs : Fields) (gs : List (List ℕ × TypedValue)) (w : TypedValue) → w.own ≡ type.simple (type.whole type.u32) → TakesRecord (type.record_type fs) gs → TakesWidth (type.record_type fs) → TakesRecord (type.record_type fs) (with_last gs w)
taken_there fs gs w own taken there =
    (taken.0, all_of (first_names (field_list fs)) gs w taken.1 (name_in (field_list fs) there), owns w gs (field_list fs) (is_width w (field_list fs) own taken.0 there) taken.2)

-- what holds of each meets what holds of one
meets : {A : Type 0} (P Q : A → Type 0) (xs : List A) → ((x : A) → P x → Q x → ⊥) → AllOf P xs → SomeOf Q xs → ⊥
meets P Q [] apart all one = one
meets P Q (x ∷ xs) apart all (inl q) = apart x all.0 q
meets P Q (x ∷ xs) apart all (inr one) = meets P Q xs apart all.1 one

named_so : (fs : List (List ℕ × TypeTree)) (n : List ℕ) → IsOneOf (first_names fs) n → SomeOf (λ f. n ≡ f.0) fs
named_so [] n one = one
named_so (f ∷ fs) n (inl e) = inl e
named_so (f ∷ fs) n (inr one) = inr (named_so fs n one)

not_both : (words : TypedValue → List ℕ) (t s : List ℕ) (T : TypeTree) (o : Option TypedValue) → HasOwn T o → HasOther words t s T o → ⊥
not_both words t s T None own other = own
not_both words t s T (Some v) own other = other.0 own

some_name : (all : List (List ℕ)) (gs : List (List ℕ × TypedValue)) (n : List ℕ) → AreAllOf all (first_names gs) → last_under gs n ≢ None → IsOneOf all n
some_name all [] n h some = absurd (some refl)
some_name all (g ∷ gs) n h some = by (bytes_eq g.0 n) refl (some_name all gs n h.1)
  where
    by : (b : Bool) → bytes_eq g.0 n ≡ b → (last_under gs n ≢ None → IsOneOf all n) → IsOneOf all n
    by true e later = subst (IsOneOf all) ((bytes_eq-Decides g.0 n).0 e) h.0
    by false e later = later (λ none. some (rw none (rw e refl)))

-- fields that it takes are refused for lack of memory alone
memory_alone : (words : TypedValue → List ℕ) (fs : Fields) (gs : List (List ℕ × TypedValue)) (e : WasmValueError) → TakesRecord (type.record_type fs) gs → RefusesRecord words (type.record_type fs) gs e → IsMemory e
memory_alone words fs gs (error.WrongTypeKind k s) taken r = absurd (r.0 refl)
memory_alone words fs gs (error.MissingField n) taken (is, (one, inl none)) = absurd (meets _ _ (field_list fs) (λ f own is. subst (HasOwn f.1) (ap (last_under gs) (sym is) ∙ none) own) taken.2 (named_so (field_list fs) _ one))
memory_alone words fs gs (error.MissingField n) taken (is, (one, inr twice)) = absurd (never_twice (first_names (field_list fs)) _ taken.0 twice)
memory_alone words fs gs (error.UnknownField n) taken (is, (some, none)) = absurd (none (some_name (first_names (field_list fs)) gs _ taken.1 some))
memory_alone words fs gs (error.WrongValueType s t) taken (is, other) = absurd (meets _ _ (field_list fs) (λ f. not_both words _ _ f.1 (last_under gs f.0)) taken.2 other)
memory_alone words fs gs (error.Memory m) taken r = tt
memory_alone words fs gs _ taken r = absurd r.1

-- the width is refused only where the type has none, or for lack of memory
pub refuses_width : (words : TypedValue → List ℕ) (T : TypeTree) (gs : List (List ℕ × TypedValue)) (w : TypedValue) (e : WasmValueError) → w.own ≡ type.simple (type.whole type.u32) → TakesRecord T gs → RefusesRecord words T (with_last gs w) e → RefusesWidth T e
refuses_width words (type.record_type fs) gs w e own taken r = by e (λ there. memory_alone words fs (with_last gs w) e (taken_there fs gs w own taken there) r)
  where
    by : (e : WasmValueError) → (TakesWidth (type.record_type fs) → IsMemory e) → RefusesWidth (type.record_type fs) e
    by (error.Memory m) so = inl tt
    by _ so = inr so
refuses_width words _ gs w e own taken r = absurd taken

-- ---- the fields that are handed in

untyped : (xs : List (Bor (List ℕ) × Bor TypedValue)) → map (λ g. (g.0, g.1.tree)) (denoted_fields (λ (w : TypedValue). w) xs) ≡ denoted_fields (λ w. w.tree) xs
untyped [] = refl
untyped (x ∷ xs) = ap (λ fs. (x.0.now, x.1.now.tree) ∷ fs) (untyped xs)

pub handed_in : (ys xs : List (Bor (List ℕ) × Bor TypedValue)) (fields all : List (Bor (List ℕ) × TypedValue)) (name : Bor (List ℕ)) (w : TypedValue) → named fields ≡ denoted_fields (λ v. v) ys → map (λ y. y) ys ≡ xs → all ≡ fields ++ (name, w) ∷ [] → name.now ≡ width_name
    → named all ≡ with_last (denoted_fields (λ v. v) xs) w
handed_in ys xs fields all name w kept end pushed is =
    ap named pushed ∙ (map-append (λ f. (f.0.now, f.1)) fields ((name, w) ∷ []) ∙ (ap (λ fs. fs ++ (name.now, w) ∷ []) (kept ∙ ap (denoted_fields (λ (v : TypedValue). v)) (given ys xs end)) ∙ ap (λ n. with_name n) is))
  where
    with_name : List ℕ → List (List ℕ × TypedValue)
    with_name n = denoted_fields (λ v. v) xs ++ (n, w) ∷ []

-- ---- together

module _ (T : TypeTree) (s w : TypedValue) (n : ℕ) (xs : List (Bor (List ℕ) × Bor TypedValue)) (all : List (List ℕ × TypedValue)) (same : T ≡ s.own) (taken : TakesRecord s.own (denoted_fields (λ v. v) xs)) (handed : all ≡ with_last (denoted_fields (λ v. v) xs) w) (leaf : w ≡ typed_leaf (value.whole type.u32 (pos n))) where
  -- what is made
  pub changed : (v : TypedValue) → IsTyped s → denoted_fields (λ v. v.tree) xs ≡ record_fields s.tree → BuiltRecord all T v → v.tree ≡ with_width n s.tree
  changed v typed denoted built =
      has_width s.own s.tree (denoted_fields (λ v. v) xs) n w v typed (untyped xs ∙ denoted) taken (ap (λ u. u.tree) leaf) (subst (λ U. BuiltRecord (with_last (denoted_fields (λ v. v) xs) w) U v) same (subst (λ gs. BuiltRecord gs T v) handed built))

  -- where it is made
  pub has_one : TakesRecord T all → TakesWidth s.own
  has_one made = takes_width s.own (denoted_fields (λ v. v) xs) w (ap (λ u. u.own) leaf) (subst (λ U. TakesRecord U (with_last (denoted_fields (λ v. v) xs) w)) same (subst (TakesRecord T) handed made))

  -- and where it is refused
  pub has_none : (words : TypedValue → List ℕ) (e : WasmValueError) → RefusesRecord words T all e → RefusesWidth s.own e
  has_none words e refused =
      refuses_width words s.own (denoted_fields (λ v. v) xs) w e (ap (λ u. u.own) leaf) taken (subst (λ U. RefusesRecord words U (with_last (denoted_fields (λ v. v) xs) w) e) same (subst (λ gs. RefusesRecord words T gs e) handed refused))
