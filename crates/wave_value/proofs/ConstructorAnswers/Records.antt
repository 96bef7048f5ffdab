-- What the constructor of records makes and refuses.
use Rattle.std.proofs.Common.{ℕ, zero, suc, ◌≡◌, ◌≢◌, ◌<◌, ◌≤◌, ◌+◌, ◌⊎◌, inl, inr, Bool, true, false, ◌||◌, List, [], ◌∷◌, ◌++◌, map, length, take, get_or, refl, sym, ap, subst, ◌∙◌, arith, Option, Some, None, cond, Bor, String, string_bytes}
use Rattle.std.specs.Option.{option_or}
use Rattle.std.specs.BTreeMap as tree
use Rattle.std.specs.BTreeMap.{BTreeMap}
use Rattle.std.specs.Cmp.Lexicographic.{slice_cmp}
use Rattle.std.specs.Ordering.{nat_cmp}
use Rattle.std.specs.Prelude.{if◌then◌else◌}
use Rattle.std.specs.Map.{lookup}
use Rattle.std.specs.Str.{bytes_eq}
use Rattle.std.specs.declared.alloc.Global.{Global}
use Rattle.std.proofs.lemmas.Bool.{false≢true}
use Rattle.std.proofs.lemmas.List.{take_all, take_more, map-append}
use Rattle.std.proofs.lemmas.Option.{same_Some, none-some}
use Rattle.std.proofs.lemmas.List.Folds.{list_any-append}
use Rattle.std.proofs.lemmas.Map.Text.{btree_map_updates_str}
use Rattle.std.proofs.lemmas.Slice.Eq.{bytes_eq-Decides}
use Rattle.wave_wasm.specs.Lists.{AllOf, SomeOf}
use Rattle.wave_wasm.specs.Names.{IsOneOf, AreDistinct, AreAllOf, is_one_of}
use Rattle.wave_wasm.specs.Borrowed.{named}
use Rattle.wave_wasm.specs.Types as type
use Rattle.wave_wasm.specs.Types.{TypeTree, Fields, fields_of, field_list, record_parts}
use Rattle.wave_wasm.specs.Values as value
use Rattle.wave_wasm.specs.Values.{field_values}
use Rattle.wave_wasm.specs.declared.wasm.WasmValueError.{WasmValueError}
use Rattle.wave_wasm.specs.declared.wasm.WasmValueError.TheVariants as error
use Rattle.wave_wasm.proofs.Names.NameTests.{is_one, passes, none_of, distinct_more}
use Rattle.wave_value.specs.RecordConstructor.{last_under, HasOwn, HasOther, TakesRecord, BuiltRecord, RefusesRecord, IsRepeated, RefusesFields}
use Rattle.wave_value.specs.Private.RecordConstructor.{held, FieldsHeld, InOrder, SaysMissingField, SaysUnknownField}
use Rattle.wave_value.specs.ConstructorRules.{TellsOther}
use Rattle.wave_value.specs.Private.ConstructorRules.{SaysType}
use Rattle.wave_value.specs.TypedValue.{TypedValue, IsAt}
use Rattle.wave_type.specs.TypeModel.{by_bytes, record_part}
use Rattle.wave_value.specs.ValueModel.{first_names, trees, beside}
use Rattle.wave_value.specs.Private.ValueModel.{FieldsAt, RecordFits}
use Rattle.wave_type.proofs.TypeTrees.Lists.{field_list-fields_of}
use Rattle.wave_type.proofs.TypeReading.PartSteps.{eq_turn}
use Rattle.wave_value.proofs.ValueModel.Lists.{some_mapped}
use Rattle.wave_value.proofs.ValueModel.ContentMeaning.{record_value}

-- ---- the last value under each name

module _ {A : Type 0} where
  or_cond : (b : Bool) (v : A) (o p : Option A) → option_or (cond b (Some v) o) p ≡ cond b (Some v) (option_or o p)
  or_cond true v o p = refl
  or_cond false v o p = refl

  -- one more value
  pub last_more : (fs : List (List ℕ × A)) (m : List ℕ) (v : A) (name : List ℕ) → last_under (fs ++ (m, v) ∷ []) name ≡ cond (bytes_eq m name) (Some v) (last_under fs name)
  last_more [] m v name = refl
  last_more (f ∷ fs) m v name =
      let rest : Option A = if bytes_eq f.0 name then Some f.1 else None in
      ap (λ o. option_or o rest) (last_more fs m v name) ∙ or_cond (bytes_eq m name) v (last_under fs name) rest

  -- one more value in the map
  pub held_more : (m n : BTreeMap (Bor (List ℕ)) A) (given : List (Bor (List ℕ) × A)) (name : Bor (List ℕ)) (v : A) → ((q : List ℕ) → held m q ≡ last_under (named given) q)
      → tree.UpdatesBy (λ a b. slice_cmp nat_cmp a.now b.now) (λ k. slice_cmp nat_cmp name.now k.now) m n (Some v) → (q : List ℕ) → held n q ≡ last_under (named (given ++ (name, v) ∷ [])) q
  held_more m n given name v h u q =
      btree_map_updates_str name.now m n (Some v) u q
      ∙ (ap (λ o. cond (bytes_eq name.now q) (Some v) o) (h q)
      ∙ (sym (last_more (named given) name.now v q) ∙ ap (λ l. last_under l q) (sym (map-append (λ f. (f.0.now, f.1)) given ((name, v) ∷ [])))))

-- ---- the values in the fields' order

-- some of the fields were taken out of the map: their names are distinct, and it holds the others still
pub record Taking (fs : List (List ℕ × TypeTree)) (under now : List ℕ → Option TypedValue) (vs : List TypedValue) : Type 0 where
  pub left : (name : List ℕ) → now name ≡ cond (is_one_of (first_names fs) name) None (under name)
  pub held : FieldsHeld under fs vs
  pub distinct : AreDistinct (first_names fs)

out_of : (a b : Bool) (o : Option TypedValue) → cond b None (cond a None o) ≡ cond (a || (b || false)) None o
out_of true true o = refl
out_of true false o = refl
out_of false true o = refl
out_of false false o = refl

none_left : (b : Bool) (o : Option TypedValue) (v : TypedValue) → cond b None o ≡ Some v → (b ≡ false) × (o ≡ Some v)
none_left true o v e = absurd (cc)
none_left false o v e = (refl, e)

held_push : (under : List ℕ → Option TypedValue) (fs : List (List ℕ × TypeTree)) (vs : List TypedValue) (f : List ℕ × TypeTree) (v : TypedValue) → FieldsHeld under fs vs → under f.0 ≡ Some v → IsAt f.1 v → FieldsHeld under (fs ++ f ∷ []) (vs ++ v ∷ [])
held_push under [] [] f v h e at = (e, at, tt)
held_push under [] (w ∷ vs) f v h e at = absurd h
held_push under (g ∷ fs) [] f v h e at = absurd h
held_push under (g ∷ fs) (w ∷ vs) f v h e at = (h.0, h.1, held_push under fs vs f v h.2 e at)

-- one more field
pub taking_push : (fs : List (List ℕ × TypeTree)) (under now new : List ℕ → Option TypedValue) (vs : List TypedValue) (f : List ℕ × TypeTree) (v : TypedValue) → Taking fs under now vs → now f.0 ≡ Some v → IsAt f.1 v → ((name : List ℕ) → new name ≡ cond (bytes_eq f.0 name) None (now name)) → Taking (fs ++ f ∷ []) under new (vs ++ v ∷ [])
taking_push fs under now new vs f v t e at step =
    let names = first_names fs in
    let there : (is_one_of names f.0 ≡ false) × (under f.0 ≡ Some v) = none_left (is_one_of names f.0) (under f.0) v (sym (t.left f.0) ∙ e) in
    let pushed : first_names (fs ++ f ∷ []) ≡ names ++ f.0 ∷ [] = map-append (λ p. p.0) fs (f ∷ []) in
    record {
      left = λ name. step name ∙ (ap (λ o. cond (bytes_eq f.0 name) None o) (t.left name) ∙ (out_of (is_one_of names name) (bytes_eq f.0 name) (under name)
          ∙ (ap (λ b. cond (is_one_of names name || (b || false)) None (under name)) (eq_turn f.0 name)
          ∙ (ap (λ b. cond b None (under name)) (sym (list_any-append (bytes_eq name) names (f.0 ∷ []))) ∙ ap (λ ns. cond (is_one_of ns name) None (under name)) (sym pushed)))));
      held = held_push under fs vs f v t.held there.1 at;
      distinct = subst AreDistinct (sym pushed) (distinct_more names f.0 t.distinct (none_of names f.0 there.0));
    }

-- ---- at a turn of the loop over the fields

one_name : (xs : List (String Global × TypeTree)) (i : ℕ) (f : String Global × TypeTree) → i < length xs → f ≡ get_or xs i f → IsOneOf (first_names (map by_bytes xs)) (string_bytes f.0)
one_name [] i f lt is = absurd (omega (arith, lt))
one_name (x ∷ xs) zero f lt is = inl (ap (λ (g : String Global × TypeTree). string_bytes g.0) is)
one_name (x ∷ xs) (suc i) f lt is = inr (one_name xs i f (omega (arith, lt)) is)

repeated : (xs : List (String Global × TypeTree)) (i : ℕ) (f : String Global × TypeTree) → i < length xs → f ≡ get_or xs i f → IsOneOf (first_names (map by_bytes (take i xs))) (string_bytes f.0) → IsRepeated (first_names (map by_bytes xs)) (string_bytes f.0)
repeated [] i f lt is h = absurd (omega (arith, lt))
repeated (x ∷ xs) zero f lt is h = absurd h
repeated (x ∷ xs) (suc i) f lt is (inl e) = inl (e, one_name xs i f (omega (arith, lt)) is)
repeated (x ∷ xs) (suc i) f lt is (inr h) = inr (repeated xs i f (omega (arith, lt)) is h)

-- no value is left under the name, or there was none
missing_or_repeated : (b : Bool) (o : Option TypedValue) → cond b None o ≡ None → (o ≡ None) ⊎ (b ≡ true)
missing_or_repeated true o e = inr refl
missing_or_repeated false o e = inl e

missing_is : (words : TypedValue → List ℕ) (ys : List (List ℕ × TypeTree)) (under : List ℕ → Option TypedValue) (n : List ℕ) (e : WasmValueError) → IsOneOf (first_names ys) n → (under n ≡ None) ⊎ IsRepeated (first_names ys) n → SaysMissingField n e → RefusesFields words ys under e
missing_is words ys under n (error.MissingField m) one why says =
    subst (λ k. IsOneOf (first_names ys) k × ((under k ≡ None) ⊎ IsRepeated (first_names ys) k)) (sym says) (one, why)
missing_is words ys under n (error.Memory r) one why says = tt
missing_is words ys under n _ one why says = absurd says

-- a field without a value
pub missing_refused : (words : TypedValue → List ℕ) (xs ys : List (String Global × TypeTree)) (i : ℕ) (f : String Global × TypeTree) (n : List ℕ) (under now : List ℕ → Option TypedValue) (vs : List TypedValue) (e : WasmValueError) → xs ≡ ys → i < length xs → f ≡ get_or xs i f → n ≡ string_bytes f.0 → Taking (map by_bytes (take i xs)) under now vs → now n ≡ None → SaysMissingField n e → RefusesFields words (map by_bytes ys) under e
missing_refused words xs ys i f n under now vs e same lt is called t none says =
    let there : now (string_bytes f.0) ≡ None = subst (λ k. now k ≡ None) called none in
    let why : (under (string_bytes f.0) ≡ None) ⊎ IsRepeated (first_names (map by_bytes xs)) (string_bytes f.0) =
    elim (missing_or_repeated (is_one_of (first_names (map by_bytes (take i xs))) (string_bytes f.0)) (under (string_bytes f.0)) (sym (t.left (string_bytes f.0)) ∙ there)) [
      | inl none ↦ inl none
      | inr twice ↦ inr (repeated xs i f lt is (is_one (first_names (map by_bytes (take i xs))) (string_bytes f.0) twice))
    ]
    in
    subst (λ zs. RefusesFields words (map by_bytes zs) under e) same (missing_is words (map by_bytes xs) under (string_bytes f.0) e (one_name xs i f lt is) why (subst (λ k. SaysMissingField k e) called says))

-- the value under the name was there from the beginning
was_under : (fs : List (List ℕ × TypeTree)) (under now : List ℕ → Option TypedValue) (vs : List TypedValue) (n : List ℕ) (v : TypedValue) → Taking fs under now vs → now n ≡ Some v → under n ≡ Some v
was_under fs under now vs n v t e = (none_left (is_one_of (first_names fs) n) (under n) v (sym (t.left n) ∙ e)).1

pub other_is : (words : TypedValue → List ℕ) (ys : List (List ℕ × TypeTree)) (under : List ℕ → Option TypedValue) (T : TypeTree) (v : TypedValue) (e : WasmValueError) → ((t s : List ℕ) → TellsOther words t s T v → SomeOf (λ g. HasOther words t s g.1 (under g.0)) ys) → v.own ≢ T → SaysType words T v e → RefusesFields words ys under e
other_is words ys under T v (error.WrongValueType t s) one other says = one (string_bytes t) (string_bytes s) (other, says.0, says.1)
other_is words ys under T v (error.Memory r) one other says = tt
other_is words ys under T v _ one other says = absurd says

-- a value of another type
pub other_refused : (words : TypedValue → List ℕ) (xs ys : List (String Global × TypeTree)) (i : ℕ) (f : String Global × TypeTree) (n : List ℕ) (under now : List ℕ → Option TypedValue) (vs : List TypedValue) (v : TypedValue) (e : WasmValueError) → xs ≡ ys → i < length xs → f ≡ get_or xs i f → n ≡ string_bytes f.0 → Taking (map by_bytes (take i xs)) under now vs → now n ≡ Some v → v.own ≢ f.1 → SaysType words f.1 v e → RefusesFields words (map by_bytes ys) under e
other_refused words xs ys i f n under now vs v e same lt is called taking some other says =
    let there = was_under _ under now vs n v taking some in
    let one = λ (t : List ℕ) (s : List ℕ) (tells : TellsOther words t s f.1 v). some_mapped by_bytes (λ g. HasOther words t s g.1 (under g.0)) xs i f lt is (subst (HasOther words t s f.1) (sym (subst (λ k. under k ≡ Some v) called there)) tells) in
    subst (λ zs. RefusesFields words (map by_bytes zs) under e) same (other_is words (map by_bytes xs) under f.1 v e one other says)

-- one more field was taken
pub taking_more : (xs : List (String Global × TypeTree)) (i : ℕ) (f : String Global × TypeTree) (n : List ℕ) (under : List ℕ → Option TypedValue) (m new : BTreeMap (Bor (List ℕ)) TypedValue) (vs : List TypedValue) (v : TypedValue) → i < length xs → f ≡ get_or xs i f → n ≡ string_bytes f.0 → Taking (map by_bytes (take i xs)) under (held m) vs → held m n ≡ Some v → IsAt f.1 v
    → tree.UpdatesBy (λ a b. slice_cmp nat_cmp a.now b.now) (λ k. slice_cmp nat_cmp n k.now) m new None → Taking (map by_bytes (take (i + 1) xs)) under (held new) (vs ++ v ∷ [])
taking_more xs i f n under m new vs v lt is called t some at u =
    let more : map by_bytes (take (i + 1) xs) ≡ map by_bytes (take i xs) ++ by_bytes f ∷ [] =
    ap (map by_bytes) (take_more xs i f lt ∙ ap (λ g. take i xs ++ g ∷ []) (sym is)) ∙ map-append by_bytes (take i xs) (f ∷ [])
    in
    let step : (q : List ℕ) → held new q ≡ cond (bytes_eq (string_bytes f.0) q) None (held m q) =
    λ q. btree_map_updates_str n m new None u q ∙ ap (λ k. cond (bytes_eq k q) None (held m q)) called
    in
    subst (λ fs. Taking fs under (held new) (vs ++ v ∷ [])) (sym more)
    (taking_push (map by_bytes (take i xs)) under (held m) (held new) vs (by_bytes f) v t (subst (λ k. held m k ≡ Some v) called some) at step)

-- ---- after the loop

whole_taken : (xs ys : List (String Global × TypeTree)) (i : ℕ) (under now : List ℕ → Option TypedValue) (vs : List TypedValue) → xs ≡ ys → length xs ≤ i → Taking (map by_bytes (take i xs)) under now vs → Taking (map by_bytes ys) under now vs
whole_taken xs ys i under now vs same le t = subst (λ zs. Taking (map by_bytes zs) under now vs) (take_all i xs le ∙ same) t

unknown_is : (words : TypedValue → List ℕ) (fs : List (List ℕ × TypeTree)) (under : List ℕ → Option TypedValue) (n : List ℕ) (e : WasmValueError) → under n ≢ None → (IsOneOf (first_names fs) n → ⊥) → SaysUnknownField n e → RefusesFields words fs under e
unknown_is words fs under n (error.UnknownField m) some none says = subst (λ k. (under k ≢ None) × (IsOneOf (first_names fs) k → ⊥)) (sym says) (some, none)
unknown_is words fs under n (error.Memory r) some none says = tt
unknown_is words fs under n _ some none says = absurd says

-- a value is left
pub unknown_refused : (words : TypedValue → List ℕ) (xs ys : List (String Global × TypeTree)) (i : ℕ) (under now : List ℕ → Option TypedValue) (vs : List TypedValue) (n : List ℕ) (v : TypedValue) (e : WasmValueError) → xs ≡ ys → length xs ≤ i → Taking (map by_bytes (take i xs)) under now vs → now n ≡ Some v → SaysUnknownField n e → RefusesFields words (map by_bytes ys) under e
unknown_refused words xs ys i under now vs n v e same le t some says =
    let whole = whole_taken xs ys i under now vs same le t in
    let names = first_names (map by_bytes ys) in
    let there : (is_one_of names n ≡ false) × (under n ≡ Some v) = none_left (is_one_of names n) (under n) v (sym (whole.left n) ∙ some) in
    unknown_is words (map by_bytes ys) under n e (λ none. none-some v (sym none ∙ there.1)) (λ one. false≢true (sym there.0 ∙ passes names n one)) says

empty_holds : (test : Bor (List ℕ) → Bool) (es : List (Bor (List ℕ) × TypedValue)) → length es ≤ 0 → lookup test es ≡ None
empty_holds test [] none = refl
empty_holds test (e ∷ es) none = absurd (omega (arith, none))

-- nothing is left
pub all_in_order : (xs ys : List (String Global × TypeTree)) (i : ℕ) (under : List ℕ → Option TypedValue) (m : BTreeMap (Bor (List ℕ)) TypedValue) (vs : List TypedValue) → xs ≡ ys → length xs ≤ i → Taking (map by_bytes (take i xs)) under (held m) vs → (0 < length m.entries → ⊥) → InOrder (map by_bytes ys) under vs
all_in_order xs ys i under m vs same le t none =
    let whole = whole_taken xs ys i under (held m) vs same le t in
    let names = first_names (map by_bytes ys) in
    record {
      held = whole.held;
      distinct = whole.distinct;
      known = λ n some. is_one names n (by (is_one_of names n) (under n) (sym (whole.left n) ∙ empty_holds _ m.entries (omega (arith, none))) some);
    }
  where
    by : (b : Bool) (o : Option TypedValue) → cond b None o ≡ None → o ≢ None → b ≡ true
    by true o e some = refl
    by false o e some = absurd (some e)

-- ---- the record

-- a type with such fields is a record's
pub record_is : (T : TypeTree) (parts : List (List ℕ × TypeTree)) → Some (fields_of parts) ≡ record_part T → type.record_type (fields_of parts) ≡ T
record_is (type.record_type fs) parts e = ap type.record_type (same_Some (fields_of parts) fs e)
record_is _ parts e = absurd (cc)

fields_at : (under : List ℕ → Option TypedValue) (fs : List (List ℕ × TypeTree)) (vs : List TypedValue) → FieldsHeld under fs vs → FieldsAt fs vs
fields_at under [] [] h = tt
fields_at under [] (v ∷ vs) h = absurd h
fields_at under (f ∷ fs) [] h = absurd h
fields_at under (f ∷ fs) (v ∷ vs) h = (h.1, fields_at under fs vs h.2)

-- the values are at the fields of the type
pub record_fits : (T : TypeTree) (parts : List (List ℕ × TypeTree)) (under : List ℕ → Option TypedValue) (vs : List TypedValue) → Some (fields_of parts) ≡ record_part T → InOrder parts under vs → RecordFits T vs
record_fits T parts under vs is o =
    subst (λ U. RecordFits U vs) (record_is T parts is) (subst (λ fs. AreDistinct (first_names fs) × FieldsAt fs vs) (sym (field_list-fields_of parts)) (o.distinct, fields_at under parts vs o.held))

are_held : (under : List ℕ → Option TypedValue) (fs : List (List ℕ × TypeTree)) (vs : List TypedValue) → FieldsHeld under fs vs → map (λ f. under f.0) fs ≡ map Some vs
are_held under [] [] h = refl
are_held under [] (v ∷ vs) h = absurd h
are_held under (f ∷ fs) [] h = absurd h
are_held under (f ∷ fs) (v ∷ vs) h = λ i. h.0 i ∷ are_held under fs vs h.2 i

pub parts_of : (T : TypeTree) (parts : List (List ℕ × TypeTree)) → Some (fields_of parts) ≡ record_part T → parts ≡ record_parts T
parts_of T parts is = sym (field_list-fields_of parts) ∙ ap record_parts (record_is T parts is)

-- one record is made of the last values
pub record_built : (T own : TypeTree) (parts : List (List ℕ × TypeTree)) (given : List (List ℕ × TypedValue)) (vs : List TypedValue) → own ≡ T → Some (fields_of parts) ≡ record_part T → InOrder parts (last_under given) vs
    → BuiltRecord given T (record { own = own; tree = value.record_value (field_values (beside (first_names (record_parts own)) (trees vs))) })
record_built T own parts given vs same is o = record {
  last = vs;
  are_last = subst (λ fs. map (λ f. last_under given f.0) fs ≡ map Some vs) (parts_of T parts is) (are_held (last_under given) parts vs o.held);
  built = record {
    own = same;
    tree = ap (λ U. value.record_value (field_values (beside (first_names (record_parts U)) (trees vs)))) same;
    fits = record_value T vs (record_fits T parts (last_under given) vs is o);
  };
}

some_stays : (o p : Option TypedValue) → p ≢ None → option_or o p ≢ None
some_stays None p h e = h e
some_stays (Some v) p h e = cc

first_stays : (o p : Option TypedValue) → o ≢ None → option_or o p ≢ None
first_stays None p h e = h refl
first_stays (Some v) p h e = cc

-- what was handed in has a last value
pub found : (fs : List (List ℕ × TypedValue)) (n : List ℕ) → IsOneOf (first_names fs) n → last_under fs n ≢ None
found [] n h = absurd h
found (f ∷ fs) n (inl e) = some_stays (last_under fs n) (if bytes_eq f.0 n then Some f.1 else None) (yes (bytes_eq f.0 n) ((bytes_eq-Decides f.0 n).1 (sym e)))
  where
    yes : (b : Bool) → b ≡ true → (if b then Some f.1 else None) ≢ None
    yes true e some = cc
    yes false e some = absurd (false≢true e)
found (f ∷ fs) n (inr h) = first_stays (last_under fs n) (if bytes_eq f.0 n then Some f.1 else None) (found fs n h)

pub all_of : (names ms : List (List ℕ)) → ((n : List ℕ) → IsOneOf ms n → IsOneOf names n) → AreAllOf names ms
all_of names [] h = tt
all_of names (m ∷ ms) h = (h m (inl refl), all_of names ms (λ n one. h n (inr one)))

each_own : (under : List ℕ → Option TypedValue) (fs : List (List ℕ × TypeTree)) (vs : List TypedValue) → FieldsHeld under fs vs → AllOf (λ f. HasOwn f.1 (under f.0)) fs
each_own under [] vs h = tt
each_own under (f ∷ fs) [] h = absurd h
each_own under (f ∷ fs) (v ∷ vs) h = (subst (HasOwn f.1) (sym h.0) h.1.own, each_own under fs vs h.2)

-- the fields are taken
pub record_taken : (T : TypeTree) (parts : List (List ℕ × TypeTree)) (given : List (List ℕ × TypedValue)) (vs : List TypedValue) → Some (fields_of parts) ≡ record_part T → InOrder parts (last_under given) vs → TakesRecord T given
record_taken T parts given vs is o =
    let names = first_names parts in
    let known : AreAllOf names (first_names given) = all_of names (first_names given) (λ n one. o.known n (found given n one)) in
    let own : AllOf (λ f. HasOwn f.1 (last_under given f.0)) parts = each_own (last_under given) parts vs o.held in
    subst (λ U. TakesRecord U given) (record_is T parts is)
    (subst (λ fs. AreDistinct (first_names fs) × AreAllOf (first_names fs) (first_names given) × AllOf (λ f. HasOwn f.1 (last_under given f.0)) fs) (sym (field_list-fields_of parts)) (o.distinct, known, own))

fields_refused : (words : TypedValue → List ℕ) (parts : List (List ℕ × TypeTree)) (given : List (List ℕ × TypedValue)) (e : WasmValueError) → RefusesFields words (field_list (fields_of parts)) (last_under given) e → RefusesRecord words (type.record_type (fields_of parts)) given e
fields_refused words parts given (error.MissingField n) r = (refl, r)
fields_refused words parts given (error.UnknownField n) r = (refl, r)
fields_refused words parts given (error.WrongValueType s t) r = (refl, r)
fields_refused words parts given (error.Memory m) r = tt
fields_refused words parts given _ r = absurd r

-- the fields are refused
pub record_refused : (words : TypedValue → List ℕ) (T : TypeTree) (parts : List (List ℕ × TypeTree)) (given : List (List ℕ × TypedValue)) (e : WasmValueError) → Some (fields_of parts) ≡ record_part T → RefusesFields words parts (last_under given) e → RefusesRecord words T given e
record_refused words T parts given e is r =
    subst (λ U. RefusesRecord words U given e) (record_is T parts is)
    (fields_refused words parts given e (subst (λ fs. RefusesFields words fs (last_under given) e) (sym (field_list-fields_of parts)) r))
