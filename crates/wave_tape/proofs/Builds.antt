-- Values of parts, from the parts that were read.
use Rattle.std.proofs.Common.{◌≡◌, inl, inr, ℕ, zero, suc, ◌≤◌, List, [], ◌∷◌, length, map, Result, Ok, Err, Bor, refl, sym, ap, subst, ◌∙◌, arith}
use Rattle.std.specs.Prelude.{IfOk, IfErr}
use Rattle.std.specs.Global.{Vec}
use Rattle.std.specs.Int.{w64}
use Rattle.std.proofs.lemmas.List.{length-map}
use Rattle.std.proofs.lemmas.Result.{IfErr-weaker}
use Rattle.wave_wasm.specs.Lists.{AllOf}
use Rattle.wave_wasm.specs.Names.{AreDistinct}
use Rattle.wave_wasm.specs.Types as type
use Rattle.wave_wasm.specs.Types.{TypeTree, Types, no_types, type_and, type_list, HasDistinctNames, EachNames, EachNamesOfTypes}
use Rattle.wave_wasm.specs.Values as value
use Rattle.wave_wasm.specs.Values.{Value, values}
use Rattle.wave_wasm.specs.ConstructorContracts.{IsMemory, MakesList, MakesTuple, FullList, FullTuple, HasFullParts, AreOf, TypedList, TypedTuple}
use Rattle.wave_wasm.specs.declared.wasm.WasmValueError.{WasmValueError}
use Rattle.wave_tape.specs.Names.{AreTexts}
use Rattle.wave_tape.specs.declared.error.Stop.{Stop}
use Rattle.wave_tape.specs.Reading.{Fault, Reading, ◌>>=◌, number_at, zero_at, times, row_at, value_at, types_at, type_row_at}
use Rattle.wave_tape.specs.Private.Readers.{IsFaultOf, IsBuilt, IsRead, AreRead, AreReadEach, each_at}
use Rattle.wave_tape.proofs.Fields.{bind_ok, ok_is}
use Rattle.wave_tape.proofs.TypeParts.{IsTuple}
use Rattle.wave_tape.proofs.Readings.{stops_at, fails_of, read_as, built_read, fault_read}

-- ---- what is read behind the first part

abbrev as_list : List Value × List ℕ → Reading Value
as_list x = Ok (value.list (values x.0), x.1)

abbrev list_behind : TypeTree → ℕ × List ℕ → Reading Value
list_behind E n = times (value_at E) n.0 n.1 >>= as_list

abbrev as_fixed : List Value × List ℕ → Reading Value
as_fixed x = Ok (value.fixed (values x.0), x.1)

abbrev pub as_tuple : List Value × List ℕ → Reading Value
as_tuple x = Ok (value.tuple (values x.0), x.1)

abbrev pub as_none : List ℕ → Reading (List Value)
as_none rest = Ok ([], rest)

-- ---- lemmas on readings

pub bind_same : {A B : Type 0} (r : Result A Fault) (f g : A → Result B Fault) → ((x : A) → f x ≡ g x) → (r >>= f) ≡ (r >>= g)
bind_same (Ok x) f g h = h x
bind_same (Err e) f g h = refl

pub bind_twice : {A B C : Type 0} (r : Result A Fault) (f : A → Result B Fault) (g : B → Result C Fault) → ((r >>= f) >>= g) ≡ (r >>= λ x. f x >>= g)
bind_twice (Ok x) f g = refl
bind_twice (Err e) f g = refl

abbrev fails_as : {A : Type 0} → Fault → Result A Fault
fails_as x = Err x

-- a fault behind which nothing can fail
pub bind_err : {A B : Type 0} (r : Result A Fault) (f : A → B) (x : Fault) → (r >>= λ a. Ok (f a)) ≡ Err x → r ≡ Err x
bind_err (Ok a) f x e = absurd cc
bind_err {A = A} (Err y) f x e = let same : y ≡ x = cc in ap (fails_as {A = A}) same

times_long : {A : Type 0} (read : List ℕ → Reading A) (n : ℕ) (bytes : List ℕ) (xs : List A) (rest : List ℕ) → times read n bytes ≡ Ok (xs, rest) → length xs ≡ n
times_long {A = A} read zero bytes xs rest e = ap (λ (x : List A × List ℕ). length x.0) (sym (ok_is ([], bytes) (xs, rest) e))
times_long {A = A} read (suc n) bytes xs rest e =
    let a = bind_ok (read bytes) (λ first. times read n first.1 >>= λ others. Ok (first.0 ∷ others.0, others.1)) (xs, rest) e in
    let b = bind_ok (times read n a.0.1) (λ others. Ok (a.0.0 ∷ others.0, others.1)) (xs, rest) a.2 in
    ap (λ (x : List A × List ℕ). length x.0) (sym (ok_is (a.0.0 ∷ b.0.0, b.0.1) (xs, rest) b.2)) ∙ ap suc (times_long read n a.0.1 b.0.0 b.0.1 b.1)

pub row_times : (read : List ℕ → Reading Value) (n : ℕ) (bytes : List ℕ) → 1 ≤ n → row_at read n bytes ≡ times read n bytes
row_times read zero bytes some = absurd (omega (arith, some))
row_times read (suc n) bytes some = refl

types_each : (Ts : Types) (bytes : List ℕ) → types_at Ts bytes ≡ each_at (type_list Ts) bytes
types_each no_types bytes = refl
types_each (type_and T more) bytes =
    bind_same (value_at T bytes) (λ first. types_at more first.1 >>= λ others. Ok (first.0 ∷ others.0, others.1)) (λ first. each_at (type_list more) first.1 >>= λ others. Ok (first.0 ∷ others.0, others.1))
    (λ first. ap (λ (q : Reading (List Value)). q >>= λ others. read_as (first.0 ∷ others.0) others.1) (types_each more first.1))

pub row_each : (Ts : Types) (bytes : List ℕ) → 1 ≤ length (type_list Ts) → type_row_at Ts bytes ≡ each_at (type_list Ts) bytes
row_each no_types bytes some = absurd (omega (arith, some))
row_each (type_and T more) bytes some = types_each (type_and T more) bytes

pub row_none : (Ts : Types) (bytes rest : List ℕ) → type_list Ts ≡ [] → zero_at bytes ≡ Ok rest → type_row_at Ts bytes ≡ Ok ([], rest)
row_none no_types bytes rest none e = ap (λ (q : Result (List ℕ) Fault). q >>= as_none) e
row_none (type_and T more) bytes rest none e = absurd cc

pub row_none_stop : (Ts : Types) (bytes : List ℕ) (x : Fault) → type_list Ts ≡ [] → zero_at bytes ≡ Err x → type_row_at Ts bytes ≡ Err x
row_none_stop no_types bytes x none e = ap (λ (q : Result (List ℕ) Fault). q >>= as_none) e
row_none_stop (type_and T more) bytes x none e = absurd cc

pub types_all : (P : List (List ℕ) → Type 0) (Ts : Types) → EachNamesOfTypes P Ts → AllOf (EachNames P) (type_list Ts)
types_all P no_types h = tt
types_all P (type_and T more) h = (h.0, types_all P more h.1)

-- ---- lists, tuples

module _ {S : Type 0} (tree : S → Value) (of : S → TypeTree → Type 0) (Full : TypeTree → Type 0) (parts : HasFullParts Full) where
  pub as_type : (T U : TypeTree) (bytes : List ℕ) (r : Result (S × Bor (List ℕ)) Stop) → T ≡ U → IsRead tree of Full U bytes r → IsRead tree of Full T bytes r
  as_type T U bytes r is h = subst (λ (X : TypeTree). IsRead tree of Full X bytes r) (sym is) h

  -- a fault in the part that is read first
  pub first_stopped : {A : Type 0} (T U : TypeTree) (bytes : List ℕ) (s : Stop) (part : Result A Fault) (behind : A → Reading Value) → T ≡ U → value_at U bytes ≡ (part >>= behind) → IsFaultOf s part → IsRead tree of Full T bytes (Err s)
  first_stopped T U bytes s part behind is reads h =
      as_type T U bytes (Err s) is (fault_read tree of Full U bytes s part (λ x e. reads ∙ stops_at part behind x e) h)

  pub list_counted : (T E : TypeTree) (bytes : List ℕ) (s : Stop) → T ≡ type.list E → IsFaultOf s (number_at w64 bytes) → IsRead tree of Full T bytes (Err s)
  list_counted T E bytes s is h = first_stopped T (type.list E) bytes s (number_at w64 bytes) (list_behind E) is refl h

  pub list_stopped : (T E : TypeTree) (bytes : List ℕ) (n : ℕ) (rest : List ℕ) (s : Stop) → T ≡ type.list E → number_at w64 bytes ≡ Ok (n, rest) → AreRead tree of Full E n rest (Err s) → IsRead tree of Full T bytes (Err s)
  list_stopped T E bytes n rest s is count h =
      as_type T (type.list E) bytes (Err s) is (λ distinct named.
      fails_of (Full E) (Full (type.list E)) s (times (value_at E) n rest) (value_at (type.list E) bytes) (λ full. (parts (type.list E) full).0)
      (λ x e. ap (λ (q : Reading ℕ). q >>= list_behind E) count ∙ stops_at (times (value_at E) n rest) as_list x e) (h distinct named))

  pub list_typed : (T E : TypeTree) (n : ℕ) (rest : List ℕ) (x : Vec S × Bor (List ℕ)) → T ≡ type.list E → AreRead tree of Full E n rest (Ok x) → HasDistinctNames T → TypedList of T x.0.items
  list_typed T E n rest x is h = subst (λ (U : TypeTree). HasDistinctNames U → TypedList of U x.0.items) (sym is) (λ distinct. (h distinct).1)

  pub list_read : (T E : TypeTree) (bytes : List ℕ) (n : ℕ) (rest : List ℕ) (x : Vec S × Bor (List ℕ)) (made : Result S WasmValueError) (r : Result (S × Bor (List ℕ)) Stop) → T ≡ type.list E → number_at w64 bytes ≡ Ok (n, rest) → AreRead tree of Full E n rest (Ok x) → IsBuilt made x.1.now r → IfOk made (MakesList tree of T x.0.items) → IfErr made (FullList of Full T x.0.items) → IsRead tree of Full T bytes r
  list_read T E bytes n rest x made r is count h b ok err =
      as_type T (type.list E) bytes r is (built_read tree of Full (type.list E) bytes (value.list (values (map tree x.0.items))) x.1.now made r b
      (subst (λ (U : TypeTree). IfOk made (MakesList tree of U x.0.items)) is ok)
      (IfErr-weaker made (FullList of Full (type.list E) x.0.items) (λ e. HasDistinctNames (type.list E) → Full (type.list E) → IsMemory e) (λ e f distinct full. f full E (inl refl) (h distinct).1) (subst (λ (U : TypeTree). IfErr made (FullList of Full U x.0.items)) is err))
      (λ distinct. ap (λ (q : Reading ℕ). q >>= list_behind E) count ∙ ap (λ (q : Reading (List Value)). q >>= as_list) (h distinct).0))

  -- a list of a fixed length, of no items
  pub none_fixed_stopped : (T E : TypeTree) (n : ℕ) (bytes : List ℕ) (s : Stop) → T ≡ type.fixed E n → n ≡ 0 → IsFaultOf s (zero_at bytes) → IsRead tree of Full T bytes (Err s)
  none_fixed_stopped T E n bytes s is none h =
      as_type T (type.fixed E 0) bytes (Err s) (is ∙ ap (type.fixed E) none)
      (fault_read tree of Full (type.fixed E 0) bytes s (zero_at bytes) (λ x e. ap (λ (q : Result (List ℕ) Fault). (q >>= as_none) >>= as_fixed) e) h)

  pub none_fixed_read : (T E : TypeTree) (n : ℕ) (bytes rest : List ℕ) (items : List S) (made : Result S WasmValueError) (r : Result (S × Bor (List ℕ)) Stop) → T ≡ type.fixed E n → n ≡ 0 → zero_at bytes ≡ Ok rest → items ≡ [] → IsBuilt made rest r → IfOk made (MakesList tree of T items) → IfErr made (FullList of Full T items) → IsRead tree of Full T bytes r
  none_fixed_read T E n bytes rest items made r is none reads empty b ok err =
      let same = is ∙ ap (type.fixed E) none in
      as_type T (type.fixed E 0) bytes r same (built_read tree of Full (type.fixed E 0) bytes (value.fixed value.no_values) rest made r b
      (subst (λ (l : List S). IfOk made (MakesList tree of (type.fixed E 0) l)) empty (subst (λ (U : TypeTree). IfOk made (MakesList tree of U items)) same ok))
      (IfErr-weaker made (FullList of Full (type.fixed E 0) []) (λ e. HasDistinctNames (type.fixed E 0) → Full (type.fixed E 0) → IsMemory e) (λ e f distinct full. f full E (inr refl) tt)
      (subst (λ (l : List S). IfErr made (FullList of Full (type.fixed E 0) l)) empty (subst (λ (U : TypeTree). IfErr made (FullList of Full U items)) same err)))
      (λ distinct. ap (λ (q : Result (List ℕ) Fault). (q >>= as_none) >>= as_fixed) reads))

  pub fixed_stopped : (T E : TypeTree) (n : ℕ) (bytes : List ℕ) (s : Stop) → T ≡ type.fixed E n → 1 ≤ n → AreRead tree of Full E n bytes (Err s) → IsRead tree of Full T bytes (Err s)
  fixed_stopped T E n bytes s is some h =
      as_type T (type.fixed E n) bytes (Err s) is (λ distinct named.
      fails_of (Full E) (Full (type.fixed E n)) s (times (value_at E) n bytes) (value_at (type.fixed E n) bytes) (λ full. (parts (type.fixed E n) full).0)
      (λ x e. ap (λ (q : Reading (List Value)). q >>= as_fixed) (row_times (value_at E) n bytes some ∙ e)) (h distinct named))

  fixed_long : (E : TypeTree) (n : ℕ) (bytes : List ℕ) (x : Vec S × Bor (List ℕ)) → AreRead tree of Full E n bytes (Ok x) → HasDistinctNames E → length x.0.items ≡ n
  fixed_long E n bytes x h distinct = sym (length-map x.0.items tree) ∙ times_long (value_at E) n bytes (map tree x.0.items) x.1.now (h distinct).0

  pub fixed_typed : (T E : TypeTree) (n : ℕ) (bytes : List ℕ) (x : Vec S × Bor (List ℕ)) → T ≡ type.fixed E n → AreRead tree of Full E n bytes (Ok x) → HasDistinctNames T → TypedList of T x.0.items
  fixed_typed T E n bytes x is h =
      subst (λ (U : TypeTree). HasDistinctNames U → TypedList of U x.0.items) (sym is) (λ distinct. (fixed_long E n bytes x h distinct, (h distinct).1))

  pub fixed_read : (T E : TypeTree) (n : ℕ) (bytes : List ℕ) (x : Vec S × Bor (List ℕ)) (made : Result S WasmValueError) (r : Result (S × Bor (List ℕ)) Stop) → T ≡ type.fixed E n → 1 ≤ n → AreRead tree of Full E n bytes (Ok x) → IsBuilt made x.1.now r → IfOk made (MakesList tree of T x.0.items) → IfErr made (FullList of Full T x.0.items) → IsRead tree of Full T bytes r
  fixed_read T E n bytes x made r is some h b ok err =
      as_type T (type.fixed E n) bytes r is (built_read tree of Full (type.fixed E n) bytes (value.fixed (values (map tree x.0.items))) x.1.now made r b
      (subst (λ (U : TypeTree). IfOk made (MakesList tree of U x.0.items)) is ok)
      (IfErr-weaker made (FullList of Full (type.fixed E n) x.0.items) (λ e. HasDistinctNames (type.fixed E n) → Full (type.fixed E n) → IsMemory e)
      (λ e f distinct full. f full E (inr (ap (type.fixed E) (sym (fixed_long E n bytes x h distinct)))) (h distinct).1) (subst (λ (U : TypeTree). IfErr made (FullList of Full U x.0.items)) is err))
      (λ distinct. ap (λ (q : Reading (List Value)). q >>= as_fixed) (row_times (value_at E) n bytes some ∙ (h distinct).0)))

  -- a tuple
  pub none_tuple_stopped : (T : TypeTree) (Ps : List TypeTree) (bytes : List ℕ) (s : Stop) → IsTuple T Ps → Ps ≡ [] → IsFaultOf s (zero_at bytes) → IsRead tree of Full T bytes (Err s)
  none_tuple_stopped T Ps bytes s is none h =
      as_type T (type.tuple is.types) bytes (Err s) is.is
      (fault_read tree of Full (type.tuple is.types) bytes s (zero_at bytes) (λ x e. ap (λ (q : Reading (List Value)). q >>= as_tuple) (row_none_stop is.types bytes x (sym is.parts_are ∙ none) e)) h)

  pub none_tuple_read : (T : TypeTree) (Ps : List TypeTree) (bytes rest : List ℕ) (items : List S) (made : Result S WasmValueError) (r : Result (S × Bor (List ℕ)) Stop) → IsTuple T Ps → Ps ≡ [] → zero_at bytes ≡ Ok rest → items ≡ [] → IsBuilt made rest r → IfOk made (MakesTuple tree of T items) → IfErr made (FullTuple of Full T items) → IsRead tree of Full T bytes r
  none_tuple_read T Ps bytes rest items made r is none reads empty b ok err =
      let nothing = sym is.parts_are ∙ none in
      as_type T (type.tuple is.types) bytes r is.is (built_read tree of Full (type.tuple is.types) bytes (value.tuple value.no_values) rest made r b
      (subst (λ (l : List S). IfOk made (MakesTuple tree of (type.tuple is.types) l)) empty (subst (λ (U : TypeTree). IfOk made (MakesTuple tree of U items)) is.is ok))
      (IfErr-weaker made (FullTuple of Full (type.tuple is.types) []) (λ e. HasDistinctNames (type.tuple is.types) → Full (type.tuple is.types) → IsMemory e)
      (λ e f distinct full. f full is.types refl (subst (λ (l : List TypeTree). AreOf of l []) (sym nothing) tt))
      (subst (λ (l : List S). IfErr made (FullTuple of Full (type.tuple is.types) l)) empty (subst (λ (U : TypeTree). IfErr made (FullTuple of Full U items)) is.is err)))
      (λ distinct. ap (λ (q : Reading (List Value)). q >>= as_tuple) (row_none is.types bytes rest nothing reads)))

  pub tuple_stopped : (T : TypeTree) (Ps : List TypeTree) (bytes : List ℕ) (s : Stop) → IsTuple T Ps → 1 ≤ length Ps → AreReadEach tree of Full Ps bytes (Err s) → IsRead tree of Full T bytes (Err s)
  tuple_stopped T Ps bytes s is some h =
      let each = subst (λ (l : List TypeTree). AreReadEach tree of Full l bytes (Err s)) is.parts_are h in
      let more = subst (λ (l : List TypeTree). 1 ≤ length l) is.parts_are some in
      as_type T (type.tuple is.types) bytes (Err s) is.is (λ distinct named.
      fails_of (AllOf Full (type_list is.types)) (Full (type.tuple is.types)) s (each_at (type_list is.types) bytes) (value_at (type.tuple is.types) bytes) (λ full. parts (type.tuple is.types) full)
      (λ x e. ap (λ (q : Reading (List Value)). q >>= as_tuple) (row_each is.types bytes more ∙ e)) (each (types_all AreDistinct is.types distinct) (types_all AreTexts is.types named)))

  pub tuple_typed : (T : TypeTree) (Ps : List TypeTree) (bytes : List ℕ) (x : Vec S × Bor (List ℕ)) → IsTuple T Ps → AreReadEach tree of Full Ps bytes (Ok x) → HasDistinctNames T → TypedTuple of T x.0.items
  tuple_typed T Ps bytes x is h =
      let each = subst (λ (l : List TypeTree). AreReadEach tree of Full l bytes (Ok x)) is.parts_are h in
      subst (λ (U : TypeTree). HasDistinctNames U → TypedTuple of U x.0.items) (sym is.is) (λ distinct. (each (types_all AreDistinct is.types distinct)).1)

  pub tuple_read : (T : TypeTree) (Ps : List TypeTree) (bytes : List ℕ) (x : Vec S × Bor (List ℕ)) (made : Result S WasmValueError) (r : Result (S × Bor (List ℕ)) Stop) → IsTuple T Ps → 1 ≤ length Ps → AreReadEach tree of Full Ps bytes (Ok x) → IsBuilt made x.1.now r → IfOk made (MakesTuple tree of T x.0.items) → IfErr made (FullTuple of Full T x.0.items) → IsRead tree of Full T bytes r
  tuple_read T Ps bytes x made r is some h b ok err =
      let each = subst (λ (l : List TypeTree). AreReadEach tree of Full l bytes (Ok x)) is.parts_are h in
      let more = subst (λ (l : List TypeTree). 1 ≤ length l) is.parts_are some in
      as_type T (type.tuple is.types) bytes r is.is (built_read tree of Full (type.tuple is.types) bytes (value.tuple (values (map tree x.0.items))) x.1.now made r b
      (subst (λ (U : TypeTree). IfOk made (MakesTuple tree of U x.0.items)) is.is ok)
      (IfErr-weaker made (FullTuple of Full (type.tuple is.types) x.0.items) (λ e. HasDistinctNames (type.tuple is.types) → Full (type.tuple is.types) → IsMemory e)
      (λ e f distinct full. f full is.types refl (each (types_all AreDistinct is.types distinct)).1) (subst (λ (U : TypeTree). IfErr made (FullTuple of Full U x.0.items)) is.is err))
      (λ distinct. ap (λ (q : Reading (List Value)). q >>= as_tuple) (row_each is.types bytes more ∙ (each (types_all AreDistinct is.types distinct)).0)))
