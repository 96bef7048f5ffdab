-- What a reader answers, from what its steps answer.
use Rattle.std.proofs.Common.{◌≡◌, ◌≢◌, inl, inr, ℕ, zero, suc, eqb, if◌then◌else◌, Bool, true, false, List, [], ◌∷◌, length, map, Option, Some, Result, Ok, Err, Global, refl, sym, ap, subst, ◌∙◌, arith, rules}
use Rattle.std.specs.Prelude.{IfOk, IfErr}
use Rattle.std.specs.Global.{Vec}
use Rattle.std.proofs.lemmas.Bool.{eqb-true}
use Rattle.std.proofs.lemmas.List.{length-map}
use Rattle.std.proofs.lemmas.Result.{IfErr-weaker}
use Rattle.json.specs.Json.{Json, Items, no_items, item}
use Rattle.json.specs.Find.{as_array}
use Rattle.json.specs.Value.{value_view, items_view}
use Rattle.json.specs.declared.value.Value as declared
use Rattle.wave_wasm.specs.ConstructorContracts.{IsMemory, Makes, MakesList, MakesTuple, FullList, FullTuple, HasFullParts, TypedList, TypedTuple}
use Rattle.wave_wasm.specs.Lists.{AllOf}
use Rattle.wave_wasm.specs.Names.{AreDistinct}
use Rattle.wave_wasm.specs.Types as type
use Rattle.wave_wasm.specs.Types.{TypeTree, Types, no_types, type_and, type_list, count_of, list_length, HasDistinctNames, EachNames, EachNamesOfTypes}
use Rattle.wave_wasm.specs.Values as value
use Rattle.wave_wasm.specs.Values.{Value, values}
use Rattle.wave_wasm.specs.declared.wasm.WasmValueError.{WasmValueError}
use Rattle.wave_json.specs.declared.error.JsonErrorKind.TheVariants as kinds
use Rattle.wave_json.specs.declared.error.Stop.{Stop}
use Rattle.wave_json.specs.declared.error.Stop.TheVariants as stops
use Rattle.wave_json.specs.Private.Readers.{IsBuilt, IsReadAs, IsRead, AreRead, AreReadEach, HasLength, each_type_at}
use Rattle.wave_json.specs.Reading.{Reading, ◌>>=◌, here, or_fault, under, item_step, items_count, each_at, types_at, value_at}
use Rattle.wave_json.proofs.Stops.{fails_of, stops_at}
use Rattle.wave_json.proofs.TypeParts.{IsListType, IsTuple}

-- ---- lemmas on readings

pub bind_ok : {A B : Type 0} (r : Reading A) (f : A → Reading B) (y : B) → (r >>= f) ≡ Ok y → (x : A) × (r ≡ Ok x) × (f x ≡ Ok y)
bind_ok (Ok x) f y e = (x, refl, e)
bind_ok (Err z) f y e = absurd (cc)

abbrev read_as : {A : Type 0} → A → Reading A
read_as x = Ok x

pub ok_is : {A : Type 0} (x y : A) → read_as x ≡ Ok y → x ≡ y
ok_is x y e = cc

pub bind_same : {A B : Type 0} (r : Reading A) (f g : A → Reading B) → ((x : A) → f x ≡ g x) → (r >>= f) ≡ (r >>= g)
bind_same (Ok x) f g h = h x
bind_same (Err e) f g h = refl

-- ---- arrays

-- what is read of the items of an array
pub array_read : {A B : Type 0} (o : Option A) (x : A) (f : A → Reading B) → Some x ≡ o → (or_fault o kinds.Mismatch >>= f) ≡ f x
array_read {A = A} o x f e = ap (λ (p : Option A). or_fault p kinds.Mismatch >>= f) (sym e)

pub count_is : (js : List (declared.Value Global)) → items_count (items_view js) ≡ length js
count_is [] = refl
count_is (j ∷ js) = ap suc (count_is js)

each_long : {A : Type 0} (read : Json → Reading A) (n : ℕ) (js : Items) (xs : List A) → each_at read n js ≡ Ok xs → length xs ≡ items_count js
each_long {A = A} read n no_items xs e = ap (λ (l : List A). length l) (sym (ok_is [] xs e))
each_long {A = A} read n (item j js) xs e =
    let a = bind_ok (under (item_step n) (read j)) (λ x. each_at read (suc n) js >>= λ ys. Ok (x ∷ ys)) xs e in
    let b = bind_ok (each_at read (suc n) js) (λ ys. Ok (a.0 ∷ ys)) xs a.2 in
    ap (λ (l : List A). length l) (sym (ok_is (a.0 ∷ b.0) xs b.2)) ∙ ap suc (each_long read (suc n) js b.0 b.1)

abbrev as_list : List Value → Reading Value
as_list vs = Ok (value.list (values vs))

abbrev as_fixed : List Value → Reading Value
as_fixed vs = Ok (value.fixed (values vs))

abbrev as_tuple : List Value → Reading Value
as_tuple vs = Ok (value.tuple (values vs))

pub same_count : (m n : ℕ) → m ≡ n → eqb m n ≡ true
same_count m n e = ap (λ (k : ℕ). eqb m k) (sym e) ∙ self m
  where
    self : (m : ℕ) → eqb m m ≡ true
    self zero = refl
    self (suc m) = search rules

other_count : (m n : ℕ) → m ≢ n → eqb m n ≡ false
other_count m n other = by (eqb m n) refl
  where
    by : (b : Bool) → eqb m n ≡ b → b ≡ false
    by true e = absurd (other (eqb-true m n e))
    by false e = refl

-- as many items as the type says
pub fixed_each : (E : TypeTree) (n : ℕ) (j : Json) (js : List (declared.Value Global)) → Some (items_view js) ≡ as_array j → length js ≡ n → value_at (type.fixed E n) j ≡ (each_at (value_at E) 0 (items_view js) >>= as_fixed)
fixed_each E n j js e long =
    array_read (as_array j) (items_view js) (λ ks. if eqb (items_count ks) n then (each_at (value_at E) 0 ks >>= as_fixed) else Err (here kinds.Length)) e
    ∙ ap (λ (b : Bool). if b then (each_at (value_at E) 0 (items_view js) >>= as_fixed) else Err (here kinds.Length)) (same_count (items_count (items_view js)) n (count_is js ∙ long))

pub list_short : (T E : TypeTree) (j : Json) (js : List (declared.Value Global)) → IsListType T E → Some (items_view js) ≡ as_array j → (HasLength (list_length T) (length js) → ⊥) → value_at T j ≡ Err (here kinds.Length)
list_short T E j js (inl is) e other = absurd (other (subst (λ (U : TypeTree). HasLength (list_length U) (length js)) (sym is) tt))
list_short T E j js (inr (n, is)) e other =
    ap (λ (U : TypeTree). value_at U j) is
    ∙ (array_read (as_array j) (items_view js) (λ ks. if eqb (items_count ks) n then (each_at (value_at E) 0 ks >>= as_fixed) else Err (here kinds.Length)) e
    ∙ ap (λ (b : Bool). if b then (each_at (value_at E) 0 (items_view js) >>= as_fixed) else Err (here kinds.Length)) (other_count (items_count (items_view js)) n
    (λ same. other (subst (λ (U : TypeTree). HasLength (list_length U) (length js)) (sym is) (sym (count_is js) ∙ same)))))

types_each : (Ts : Types) (n : ℕ) (js : List (declared.Value Global)) → length js ≡ count_of Ts → types_at Ts n (items_view js) ≡ each_type_at (type_list Ts) n (map value_view js)
types_each no_types n js e = refl
types_each (type_and T more) n [] e = absurd (omega (arith, e))
types_each (type_and T more) n (j ∷ js) e =
    bind_same (under (item_step n) (value_at T (value_view j))) (λ v. types_at more (suc n) (items_view js) >>= λ vs. Ok (v ∷ vs)) (λ v. each_type_at (type_list more) (suc n) (map value_view js) >>= λ vs. Ok (v ∷ vs))
    (λ v. ap (λ (q : Reading (List Value)). q >>= λ vs. Ok (v ∷ vs)) (types_each more (suc n) js (omega (arith, e))))

count_types : (Ts : Types) → count_of Ts ≡ length (type_list Ts)
count_types no_types = refl
count_types (type_and T more) = ap suc (count_types more)

abbrev tuple_of : Types → Items → Reading Value
tuple_of Ts js = if eqb (items_count js) (count_of Ts) then (types_at Ts 0 js >>= as_tuple) else Err (here kinds.Length)

tuple_each : (Ts : Types) (j : Json) (js : List (declared.Value Global)) → Some (items_view js) ≡ as_array j → length js ≡ length (type_list Ts) → value_at (type.tuple Ts) j ≡ (each_type_at (type_list Ts) 0 (map value_view js) >>= as_tuple)
tuple_each Ts j js e long =
    array_read (as_array j) (items_view js) (tuple_of Ts) e
    ∙ (ap (λ (b : Bool). if b then (types_at Ts 0 (items_view js) >>= as_tuple) else Err (here kinds.Length)) (same_count (items_count (items_view js)) (count_of Ts) (count_is js ∙ (long ∙ sym (count_types Ts))))
    ∙ ap (λ (q : Reading (List Value)). q >>= as_tuple) (types_each Ts 0 js (long ∙ sym (count_types Ts))))

pub tuple_short : (T : TypeTree) (Ps : List TypeTree) (j : Json) (js : List (declared.Value Global)) → IsTuple T Ps → Some (items_view js) ≡ as_array j → length js ≢ length Ps → value_at T j ≡ Err (here kinds.Length)
tuple_short T Ps j js is e other =
    ap (λ (U : TypeTree). value_at U j) is.is
    ∙ (array_read (as_array j) (items_view js) (tuple_of is.types) e
    ∙ ap (λ (b : Bool). if b then (types_at is.types 0 (items_view js) >>= as_tuple) else Err (here kinds.Length)) (other_count (items_count (items_view js)) (count_of is.types)
    (λ same. other (sym (count_is js) ∙ (same ∙ (count_types is.types ∙ ap (λ (l : List TypeTree). length l) (sym is.parts_are)))))))

pub types_all : (P : List (List ℕ) → Type 0) (Ts : Types) → EachNamesOfTypes P Ts → AllOf (EachNames P) (type_list Ts)
types_all P no_types h = tt
types_all P (type_and T more) h = (h.0, types_all P more h.1)

module _ {S : Type 0} (tree : S → Value) (of : S → TypeTree → Type 0) (Full : TypeTree → Type 0) where
  pub as_type : (T U : TypeTree) (j : Json) (r : Result S Stop) → T ≡ U → IsRead tree of Full U j r → IsRead tree of Full T j r
  as_type T U j r is h = subst (λ (X : TypeTree). IsRead tree of Full X j r) (sym is) h

  -- what was made of what was read
  pub built_read : (T : TypeTree) (read : Reading Value) (asked : Value) (made : Result S WasmValueError) (r : Result S Stop) → IsBuilt made r → IfOk made (λ v. HasDistinctNames T → Makes tree of asked T v) → IfErr made (λ e. HasDistinctNames T → Full T → IsMemory e) → (HasDistinctNames T → read ≡ Ok asked) → IsReadAs tree of Full T read r
  built_read T read asked (Ok v) (Ok x) b ok err reads = λ distinct.
      let m = ok distinct in (
        reads distinct ∙ ap (λ (w : Value). Ok w) (sym m.means ∙ ap tree (sym b)),
        subst (λ (w : S). of w T) (sym b) m.is_of,
      )
  built_read T read asked (Ok v) (Err s) b ok err reads = absurd b
  built_read T read asked (Err e) (Ok x) b ok err reads = absurd b
  built_read T read asked (Err e) (Err stops.Memory) b ok err reads = λ distinct. tt
  built_read T read asked (Err e) (Err (stops.Refused trail)) b ok err reads = λ distinct full. b (err distinct full)
  built_read T read asked (Err e) (Err (stops.Fault kind trail)) b ok err reads = absurd b

module _ {S : Type 0} (tree : S → Value) (of : S → TypeTree → Type 0) (Full : TypeTree → Type 0) (parts : HasFullParts Full) where
  -- a list

  pub list_stopped : (T E : TypeTree) (j : Json) (js : List (declared.Value Global)) (s : Stop) → IsListType T E → Some (items_view js) ≡ as_array j → HasLength (list_length T) (length js) → AreRead tree of Full E (items_view js) (Err s) → IsRead tree of Full T j (Err s)
  list_stopped T E j js s (inl is) e long h =
      as_type tree of Full T (type.list E) j (Err s) is (λ distinct.
      fails_of (Full E) (Full (type.list E)) s (each_at (value_at E) 0 (items_view js)) (value_at (type.list E) j) (λ full. (parts (type.list E) full).0)
      (λ x f. array_read (as_array j) (items_view js) (λ ks. each_at (value_at E) 0 ks >>= as_list) e ∙ stops_at (each_at (value_at E) 0 (items_view js)) as_list x f) (h distinct))
  list_stopped T E j js s (inr (n, is)) e long h =
      as_type tree of Full T (type.fixed E n) j (Err s) is (λ distinct.
      fails_of (Full E) (Full (type.fixed E n)) s (each_at (value_at E) 0 (items_view js)) (value_at (type.fixed E n) j) (λ full. (parts (type.fixed E n) full).0)
      (λ x f. fixed_each E n j js e (subst (λ (U : TypeTree). HasLength (list_length U) (length js)) is long) ∙ stops_at (each_at (value_at E) 0 (items_view js)) as_fixed x f) (h distinct))

  read_long : (E : TypeTree) (n : ℕ) (js : List (declared.Value Global)) (x : Vec S) → length js ≡ n → AreRead tree of Full E (items_view js) (Ok x) → HasDistinctNames E → length x.items ≡ n
  read_long E n js x long h distinct = sym (length-map x.items tree) ∙ (each_long (value_at E) 0 (items_view js) (map tree x.items) (h distinct).0 ∙ (count_is js ∙ long))

  pub list_typed : (T E : TypeTree) (js : List (declared.Value Global)) (x : Vec S) → IsListType T E → HasLength (list_length T) (length js) → AreRead tree of Full E (items_view js) (Ok x) → HasDistinctNames T → TypedList of T x.items
  list_typed T E js x (inl is) long h = subst (λ (U : TypeTree). HasDistinctNames U → TypedList of U x.items) (sym is) (λ distinct. (h distinct).1)
  list_typed T E js x (inr (n, is)) long h =
      subst (λ (U : TypeTree). HasDistinctNames U → TypedList of U x.items) (sym is) (λ distinct. (read_long E n js x (subst (λ (U : TypeTree). HasLength (list_length U) (length js)) is long) h distinct, (h distinct).1))

  pub list_read : (T E : TypeTree) (j : Json) (js : List (declared.Value Global)) (x : Vec S) (made : Result S WasmValueError) (r : Result S Stop) → IsListType T E → Some (items_view js) ≡ as_array j → HasLength (list_length T) (length js) → AreRead tree of Full E (items_view js) (Ok x) → IsBuilt made r → IfOk made (MakesList tree of T x.items) → IfErr made (FullList of Full T x.items) → IsRead tree of Full T j r
  list_read T E j js x made r (inl is) e long h b ok err =
      as_type tree of Full T (type.list E) j r is (built_read tree of Full (type.list E) (value_at (type.list E) j) (value.list (values (map tree x.items))) made r b
      (subst (λ (U : TypeTree). IfOk made (MakesList tree of U x.items)) is ok)
      (IfErr-weaker made (FullList of Full (type.list E) x.items) (λ z. HasDistinctNames (type.list E) → Full (type.list E) → IsMemory z) (λ z f distinct full. f full E (inl refl) (h distinct).1) (subst (λ (U : TypeTree). IfErr made (FullList of Full U x.items)) is err))
      (λ distinct. array_read (as_array j) (items_view js) (λ ks. each_at (value_at E) 0 ks >>= as_list) e ∙ ap (λ (q : Reading (List Value)). q >>= as_list) (h distinct).0))
  list_read T E j js x made r (inr (n, is)) e long h b ok err =
      let fits = subst (λ (U : TypeTree). HasLength (list_length U) (length js)) is long in
      as_type tree of Full T (type.fixed E n) j r is (built_read tree of Full (type.fixed E n) (value_at (type.fixed E n) j) (value.fixed (values (map tree x.items))) made r b
      (subst (λ (U : TypeTree). IfOk made (MakesList tree of U x.items)) is ok)
      (IfErr-weaker made (FullList of Full (type.fixed E n) x.items) (λ z. HasDistinctNames (type.fixed E n) → Full (type.fixed E n) → IsMemory z)
      (λ z f distinct full. f full E (inr (ap (type.fixed E) (sym (read_long E n js x fits h distinct)))) (h distinct).1) (subst (λ (U : TypeTree). IfErr made (FullList of Full U x.items)) is err))
      (λ distinct. fixed_each E n j js e fits ∙ ap (λ (q : Reading (List Value)). q >>= as_fixed) (h distinct).0))

  -- a tuple

  pub tuple_stopped : (T : TypeTree) (Ps : List TypeTree) (j : Json) (js : List (declared.Value Global)) (s : Stop) → IsTuple T Ps → Some (items_view js) ≡ as_array j → length js ≡ length Ps → AreReadEach tree of Full Ps (map value_view js) (Err s) → IsRead tree of Full T j (Err s)
  tuple_stopped T Ps j js s is e long h =
      let each = subst (λ (l : List TypeTree). AreReadEach tree of Full l (map value_view js) (Err s)) is.parts_are h in
      let fits = subst (λ (l : List TypeTree). length js ≡ length l) is.parts_are long in
      as_type tree of Full T (type.tuple is.types) j (Err s) is.is (λ distinct.
      fails_of (AllOf Full (type_list is.types)) (Full (type.tuple is.types)) s (each_type_at (type_list is.types) 0 (map value_view js)) (value_at (type.tuple is.types) j) (λ full. parts (type.tuple is.types) full)
      (λ x f. tuple_each is.types j js e fits ∙ stops_at (each_type_at (type_list is.types) 0 (map value_view js)) as_tuple x f) (each (types_all AreDistinct is.types distinct)))

  pub tuple_typed : (T : TypeTree) (Ps : List TypeTree) (js : List (declared.Value Global)) (x : Vec S) → IsTuple T Ps → AreReadEach tree of Full Ps (map value_view js) (Ok x) → HasDistinctNames T → TypedTuple of T x.items
  tuple_typed T Ps js x is h =
      let each = subst (λ (l : List TypeTree). AreReadEach tree of Full l (map value_view js) (Ok x)) is.parts_are h in
      subst (λ (U : TypeTree). HasDistinctNames U → TypedTuple of U x.items) (sym is.is) (λ distinct. (each (types_all AreDistinct is.types distinct)).1)

  pub tuple_read : (T : TypeTree) (Ps : List TypeTree) (j : Json) (js : List (declared.Value Global)) (x : Vec S) (made : Result S WasmValueError) (r : Result S Stop) → IsTuple T Ps → Some (items_view js) ≡ as_array j → length js ≡ length Ps → AreReadEach tree of Full Ps (map value_view js) (Ok x) → IsBuilt made r → IfOk made (MakesTuple tree of T x.items) → IfErr made (FullTuple of Full T x.items) → IsRead tree of Full T j r
  tuple_read T Ps j js x made r is e long h b ok err =
      let each = subst (λ (l : List TypeTree). AreReadEach tree of Full l (map value_view js) (Ok x)) is.parts_are h in
      let fits = subst (λ (l : List TypeTree). length js ≡ length l) is.parts_are long in
      as_type tree of Full T (type.tuple is.types) j r is.is (built_read tree of Full (type.tuple is.types) (value_at (type.tuple is.types) j) (value.tuple (values (map tree x.items))) made r b
      (subst (λ (U : TypeTree). IfOk made (MakesTuple tree of U x.items)) is.is ok)
      (IfErr-weaker made (FullTuple of Full (type.tuple is.types) x.items) (λ z. HasDistinctNames (type.tuple is.types) → Full (type.tuple is.types) → IsMemory z)
      (λ z f distinct full. f full is.types refl (each (types_all AreDistinct is.types distinct)).1) (subst (λ (U : TypeTree). IfErr made (FullTuple of Full U x.items)) is.is err))
      (λ distinct. tuple_each is.types j js e fits ∙ ap (λ (q : Reading (List Value)). q >>= as_tuple) (each (types_all AreDistinct is.types distinct)).0))
