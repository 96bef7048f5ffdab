-- What the constructor of flags makes and refuses.
use Rattle.std.proofs.Common.{ℕ, ◌≡◌, ◌<◌, ◌≤◌, ◌+◌, Bool, true, false, ◌||◌, List, [], ◌∷◌, ◌++◌, map, length, take, get_or, refl, sym, ap, subst, ◌∙◌, arith, Option, Some, None, cond, Bor}
use Rattle.std.specs.Prelude.{if◌then◌else◌, unwrap_or}
use Rattle.std.specs.Str.{bytes_eq}
use Rattle.std.specs.BTreeMap as tree
use Rattle.std.specs.BTreeMap.{BTreeMap}
use Rattle.std.specs.Cmp.Lexicographic.{slice_cmp}
use Rattle.std.specs.Ordering.{nat_cmp}
use Rattle.std.proofs.lemmas.List.{take_more, take_all, map-append, append-nil, length-map, get_or-map}
use Rattle.std.proofs.lemmas.List.Elements.{filter-append}
use Rattle.std.proofs.lemmas.List.Folds.{list_any-append}
use Rattle.std.proofs.lemmas.Map.Text.{btree_map_updates_str}
use Rattle.std.proofs.lemmas.Slice.Eq.{bytes_eq-Decides}
use Rattle.wave_wasm.specs.Names.{IsOneOf, IsNoneOf, AreAllOf, is_one_of, found_in}
use Rattle.wave_wasm.specs.Borrowed.{texts}
use Rattle.wave_wasm.specs.Types.{TypeTree, kind_of, flags_names}
use Rattle.wave_wasm.specs.Values as value
use Rattle.wave_wasm.specs.HasType.{HasType}
use Rattle.wave_wasm.specs.declared.wasm.WasmTypeKind.TheVariants as kinds
use Rattle.wave_wasm.specs.declared.wasm.WasmValueError.{WasmValueError}
use Rattle.wave_wasm.specs.declared.wasm.WasmValueError.TheVariants as error
use Rattle.wave_wasm.proofs.Names.NameTests.{is_one, passes, none_of}
use Rattle.wave_wasm.proofs.TypesOfValues.TypeOfKind.{formed_as}
use Rattle.wave_type.proofs.TypeReading.PartSteps.{eq_turn}
use Rattle.wave_value.specs.ValueModel.{name_at}
use Rattle.wave_value.specs.Private.ValueModel.{Grows, FlagsFit}
use Rattle.wave_value.specs.ConstructorRules.{Built}
use Rattle.wave_value.specs.Private.ConstructorRules.{SaysCase}
use Rattle.wave_value.specs.Private.CaseRules.{MarksNames, MarksOneMore}
use Rattle.wave_value.specs.Private.RecordConstructor.{held}
use Rattle.wave_value.specs.CaseRules.{RefusesNames}
use Rattle.wave_value.proofs.ValueModel.ContentMeaning.{one_of, flags_value}

-- ---- marks

pub texts_more : (xs : List (Bor (List ℕ))) (i : ℕ) (d : Bor (List ℕ)) → i < length xs → texts (take (i + 1) xs) ≡ texts (take i xs) ++ (get_or xs i d).now ∷ []
texts_more xs i d lt = rw (take_more xs i d lt) (map-append (λ (n : Bor (List ℕ)). n.now) (take i xs) (get_or xs i d ∷ []))

one_of_next : (names : List (List ℕ)) (name q : List ℕ) → (is_one_of names q || (bytes_eq name q || false)) ≡ is_one_of (names ++ name ∷ []) q
one_of_next names name q = ap (λ (b : Bool). is_one_of names q || (b || false)) (eq_turn name q) ∙ sym (list_any-append (bytes_eq q) names (name ∷ []))

key_next : (m n : BTreeMap (Bor (List ℕ)) Bool) (names : List (List ℕ)) (name : List ℕ) → MarksNames m names []
    → tree.UpdatesBy (λ a b. slice_cmp nat_cmp a.now b.now) (λ k. slice_cmp nat_cmp name k.now) m n (Some false) → MarksNames n (names ++ name ∷ []) []
key_next m n names name h u = λ q.
    btree_map_updates_str name m n (Some false) u q
    ∙ (ap (cond (bytes_eq name q) (Some false)) (h q)
    ∙ (pick (bytes_eq name q) (is_one_of names q)
    ∙ ap (λ (t : Bool). if t then Some false else None) (one_of_next names name q)))
  where
    pick : (a b : Bool) → cond a (Some false) (if b then Some false else None) ≡ (if (b || (a || false)) then Some false else None)
    pick true true = refl
    pick true false = refl
    pick false true = refl
    pick false false = refl

-- one more key
pub key_more : (m n : BTreeMap (Bor (List ℕ)) Bool) (xs : List (Bor (List ℕ))) (i : ℕ) (d : Bor (List ℕ)) → i < length xs → MarksNames m (texts (take i xs)) []
    → tree.UpdatesBy (λ a b. slice_cmp nat_cmp a.now b.now) (λ k. slice_cmp nat_cmp (get_or xs i d).now k.now) m n (Some false) → MarksNames n (texts (take (i + 1) xs)) []
key_more m n xs i d lt h u = subst (λ names. MarksNames n names []) (sym (texts_more xs i d lt)) (key_next m n (texts (take i xs)) (get_or xs i d).now h u)

-- a map that has the name as a key, with its mark
pub marks_there : (m n : BTreeMap (Bor (List ℕ)) Bool) (name : List ℕ) (x : Bool) → Some x ≡ held m name
    → tree.UpdatesBy (λ a b. slice_cmp nat_cmp a.now b.now) (λ k. slice_cmp nat_cmp name k.now) m n (Some true) → MarksOneMore m n name true
marks_there m n name x there u = λ names marked h.
    let known : is_one_of names name ≡ true = is_known (is_one_of names name) (is_one_of marked name) (there ∙ h name) in (
      λ q. btree_map_updates_str name m n (Some true) u q
          ∙ (ap (cond (bytes_eq name q) (Some true)) (h q)
          ∙ (pick (bytes_eq name q) (is_one_of names q) (is_one_of marked q) (λ is. subst (λ (w : List ℕ). is_one_of names w ≡ true) ((bytes_eq-Decides name q).0 is) known)
          ∙ ap (λ (t : Bool). if is_one_of names q then Some t else None) (one_of_next marked name q))),
      sym known,
    )
  where
    is_known : (b c : Bool) → Some x ≡ (if b then Some c else None) → b ≡ true
    is_known true c e = refl
    is_known false c e = absurd (cc)

    pick : (a b c : Bool) → (a ≡ true → b ≡ true) → cond a (Some true) (if b then Some c else None) ≡ (if b then Some (c || (a || false)) else None)
    pick true true true f = refl
    pick true true false f = refl
    pick true false c f = let wrong = f refl in absurd (cc)
    pick false true true f = refl
    pick false true false f = refl
    pick false false c f = refl

-- a map that hasn't, unchanged
pub marks_absent : (m n : BTreeMap (Bor (List ℕ)) Bool) (name : List ℕ) → None ≡ held m name → n ≡ m → MarksOneMore m n name false
marks_absent m n name absent same = λ names marked h.
    let unknown : is_one_of names name ≡ false = is_unknown (is_one_of names name) (is_one_of marked name) (absent ∙ h name) in (
      λ q. ap (λ (o : BTreeMap (Bor (List ℕ)) Bool). held o q) same
          ∙ (h q
          ∙ (pick (bytes_eq name q) (is_one_of names q) (is_one_of marked q) (λ is. subst (λ (w : List ℕ). is_one_of names w ≡ false) ((bytes_eq-Decides name q).0 is) unknown)
          ∙ ap (λ (t : Bool). if is_one_of names q then Some t else None) (one_of_next marked name q))),
      sym unknown,
    )
  where
    is_unknown : (b c : Bool) → None ≡ (if b then Some c else None) → b ≡ false
    is_unknown true c e = absurd (cc)
    is_unknown false c e = refl

    pick : (a b c : Bool) → (a ≡ true → b ≡ false) → (if b then Some c else None) ≡ (if b then Some (c || (a || false)) else None)
    pick true true c f = let wrong = f refl in absurd (cc)
    pick true false c f = refl
    pick false true true f = refl
    pick false true false f = refl
    pick false false c f = refl

is_marked : (m : BTreeMap (Bor (List ℕ)) Bool) (names marked : List (List ℕ)) (name : List ℕ) (b : Bool) → MarksNames m names marked → b ≡ unwrap_or (held m name) false → b ≡ true → IsOneOf marked name
is_marked m names marked name b h is reported = by (is_one_of names name) (is_one_of marked name) refl (sym reported ∙ (is ∙ ap (λ (o : Option Bool). unwrap_or o false) (h name)))
  where
    by : (b c : Bool) → is_one_of marked name ≡ c → true ≡ unwrap_or (if b then Some c else None) false → IsOneOf marked name
    by true true e t = is_one marked name e
    by true false e t = absurd (cc)
    by false c e t = absurd (cc)

not_marked : (m : BTreeMap (Bor (List ℕ)) Bool) (names marked : List (List ℕ)) (name : List ℕ) (b : Bool) → MarksNames m names marked → IsOneOf names name → b ≡ unwrap_or (held m name) false → b ≡ false → IsNoneOf marked name
not_marked m names marked name b h one is reported = by (is_one_of names name) (is_one_of marked name) (passes names name one) refl (sym reported ∙ (is ∙ ap (λ (o : Option Bool). unwrap_or o false) (h name)))
  where
    by : (b c : Bool) → b ≡ true → is_one_of marked name ≡ c → false ≡ unwrap_or (if b then Some c else None) false → IsNoneOf marked name
    by true true there e t = absurd (cc)
    by true false there e t = none_of marked name e
    by false c there e t = absurd (cc)

one_at : (xs : List (Bor (List ℕ))) (i : ℕ) (d : Bor (List ℕ)) → i < length xs → IsOneOf (texts xs) (get_or xs i d).now
one_at xs i d lt = subst (IsOneOf (texts xs)) (get_or-map (λ (n : Bor (List ℕ)). n.now) xs i d [] lt) (one_of (texts xs) i (omega (arith, length-map xs (λ (n : Bor (List ℕ)). n.now), lt)))

-- ---- the names that are marked

all_push : (names ns : List (List ℕ)) (n : List ℕ) → AreAllOf names ns → IsOneOf names n → AreAllOf names (ns ++ n ∷ [])
all_push names [] n h one = (one, tt)
all_push names (m ∷ ns) n h one = (h.0, all_push names ns n h.1 one)

-- one more name is marked
pub marked_more : (m : BTreeMap (Bor (List ℕ)) Bool) (marked : List (List ℕ)) (xs : List (Bor (List ℕ))) (i : ℕ) (d : Bor (List ℕ)) (b : Bool) → i < length xs → MarksNames m (texts xs) marked
    → b ≡ unwrap_or (held m (get_or xs i d).now) false → b ≡ true → AreAllOf marked (texts (take i xs)) → AreAllOf marked (texts (take (i + 1) xs))
marked_more m marked xs i d b lt marks is reported h =
    subst (AreAllOf marked) (sym (texts_more xs i d lt)) (all_push marked (texts (take i xs)) (get_or xs i d).now h (is_marked m (texts xs) marked (get_or xs i d).now b marks is reported))

-- each name, at the end of the loop
pub marked_all : (marked : List (List ℕ)) (xs : List (Bor (List ℕ))) (i : ℕ) → length xs ≤ i → AreAllOf marked (texts (take i xs)) → AreAllOf marked (texts xs)
marked_all marked xs i le h = subst (λ ys. AreAllOf marked (texts ys)) (take_all i xs le) h

refused : (names handed : List (List ℕ)) (n : List ℕ) (e : WasmValueError) → IsOneOf handed n → IsNoneOf names n → SaysCase n e → RefusesNames names handed e
refused names handed n (error.UnknownCase m) one none says = (subst (IsOneOf handed) (sym says) one, subst (IsNoneOf names) (sym says) none)
refused names handed n (error.Memory r) one none says = tt
refused names handed n _ one none says = absurd says

-- a name that isn't marked
pub name_refused : (m : BTreeMap (Bor (List ℕ)) Bool) (marked : List (List ℕ)) (xs : List (Bor (List ℕ))) (i : ℕ) (d : Bor (List ℕ)) (b : Bool) (e : WasmValueError) → i < length xs → MarksNames m (texts xs) marked
    → b ≡ unwrap_or (held m (get_or xs i d).now) false → b ≡ false → SaysCase (get_or xs i d).now e → RefusesNames marked (texts xs) e
name_refused m marked xs i d b e lt marks is reported says =
    let among = one_at xs i d lt in
    refused marked (texts xs) (get_or xs i d).now e among (not_marked m (texts xs) marked (get_or xs i d).now b marks among is reported) says

-- ---- the places that are found

pub grows_wider : (from n m : ℕ) (is : List ℕ) → n ≤ m → Grows from n is → Grows from m is
grows_wider from n m [] le h = tt
grows_wider from n m (i ∷ is) le h = (h.0, omega (arith, h.1), grows_wider (i + 1) n m is le h.2)

pub grows_push : (from n : ℕ) (is : List ℕ) → from ≤ n → Grows from n is → Grows from (n + 1) (is ++ n ∷ [])
grows_push from n [] le h = (le, omega arith, tt)
grows_push from n (i ∷ is) le h = (h.0, omega (arith, h.1), grows_push (i + 1) n is (omega (arith, h.1)) h.2)

-- the places so far, and what they are called
abbrev pub PlacesSoFar : List (List ℕ) → List (Bor (List ℕ)) → ℕ → List ℕ → Type 0
PlacesSoFar handed all i is = Grows 0 i is × (map (name_at (texts all)) is ≡ found_in handed (texts (take i all)))

found_push : (handed ns : List (List ℕ)) (n : List ℕ) (b : Bool) → is_one_of handed n ≡ b → found_in handed (ns ++ n ∷ []) ≡ found_in handed ns ++ (if b then n ∷ [] else [])
found_push handed ns n b e = filter-append (is_one_of handed) ns (n ∷ []) ∙ ap (λ t. found_in handed ns ++ (if t then n ∷ [] else [])) e

found_more : (handed : List (List ℕ)) (all : List (Bor (List ℕ))) (i : ℕ) (d : Bor (List ℕ)) (b : Bool) → i < length all → is_one_of handed (get_or all i d).now ≡ b
    → found_in handed (texts (take (i + 1) all)) ≡ found_in handed (texts (take i all)) ++ (if b then (get_or all i d).now ∷ [] else [])
found_more handed all i d b lt e = ap (found_in handed) (texts_more all i d lt) ∙ found_push handed (texts (take i all)) (get_or all i d).now b e

-- one more name was marked
pub marks_more : (new : BTreeMap (Bor (List ℕ)) Bool) (handed : List (List ℕ)) (all : List (Bor (List ℕ))) (i : ℕ) (d : Bor (List ℕ)) → i < length all → MarksNames new handed (texts (take i all) ++ (get_or all i d).now ∷ []) → MarksNames new handed (texts (take (i + 1) all))
marks_more new handed all i d lt h = subst (MarksNames new handed) (sym (texts_more all i d lt)) h

-- a name that is handed over has its place
pub place_found : (handed : List (List ℕ)) (all : List (Bor (List ℕ))) (i : ℕ) (d : Bor (List ℕ)) (b : Bool) (is : List ℕ) → i < length all → b ≡ is_one_of handed (get_or all i d).now → b ≡ true → PlacesSoFar handed all i is → PlacesSoFar handed all (i + 1) (is ++ i ∷ [])
place_found handed all i d b is lt found there h =
    let more = found_more handed all i d true lt (sym found ∙ there) in
    let called : map (name_at (texts all)) (is ++ i ∷ []) ≡ found_in handed (texts (take i all)) ++ (get_or all i d).now ∷ [] =
    map-append (name_at (texts all)) is (i ∷ []) ∙ (λ j. h.1 j ++ get_or-map (λ (n : Bor (List ℕ)). n.now) all i d [] lt j ∷ []) in
    (grows_push 0 i is (omega arith) h.0, called ∙ sym more)

-- a name that isn't has none
pub place_passed : (handed : List (List ℕ)) (all : List (Bor (List ℕ))) (i : ℕ) (d : Bor (List ℕ)) (b : Bool) (is : List ℕ) → i < length all → b ≡ is_one_of handed (get_or all i d).now → b ≡ false → PlacesSoFar handed all i is → PlacesSoFar handed all (i + 1) is
place_passed handed all i d b is lt found not_there h =
    let more = found_more handed all i d false lt (sym found ∙ not_there) in
    (grows_wider 0 i (i + 1) is (omega arith) h.0, h.1 ∙ (sym (append-nil (found_in handed (texts (take i all)))) ∙ sym more))

-- all places, at the end of the loop
pub places_end : (handed : List (List ℕ)) (all : List (Bor (List ℕ))) (i : ℕ) (is : List ℕ) → i ≤ length all → length all ≤ i → PlacesSoFar handed all i is → Grows 0 (length all) is × (map (name_at (texts all)) is ≡ found_in handed (texts all))
places_end handed all i is below above h = (grows_wider 0 i (length all) is below h.0, h.1 ∙ ap (λ xs. found_in handed (texts xs)) (take_all i all above))

-- ---- flags

places_fit : (T : TypeTree) (is : List ℕ) → kinds.Flags ≡ kind_of T → Grows 0 (length (flags_names T)) is → FlagsFit T is
places_fit T is kind h =
    let (names, form) = formed_as kinds.Flags T kind in
    subst (λ U. Grows 0 (length (flags_names U)) is → FlagsFit U is) (sym form) (λ g. g) h

-- what was made are those of the type's names that were handed over
pub flags_built : (T own : TypeTree) (handed : List (List ℕ)) (is : List ℕ) → kinds.Flags ≡ kind_of T → own ≡ T → Grows 0 (length (flags_names T)) is
    → map (name_at (flags_names T)) is ≡ found_in handed (flags_names T)
    → Built (value.flags (found_in handed (flags_names T))) T (record { own = own; tree = value.flags (map (name_at (flags_names own)) is) })
flags_built T own handed is kind same h called =
    let found : map (name_at (flags_names own)) is ≡ found_in handed (flags_names T) = ap (λ U. map (name_at (flags_names U)) is) same ∙ called in
    let fit : FlagsFit own is = subst (λ U. FlagsFit U is) (sym same) (places_fit T is kind h) in
    let fits : HasType own (value.flags (map (name_at (flags_names own)) is)) = flags_value own is fit in
    record { own = same; tree = ap value.flags found; fits = subst (λ U. HasType U (value.flags (found_in handed (flags_names T)))) same (subst (λ ns. HasType own (value.flags ns)) found fits) }
