-- From what `Value` makes and refuses to the laws of values.
use Rattle.std.proofs.Common.{◌≡◌, ℕ, suc, List, [], ◌∷◌, inl, inr, map, length, codes, sym, ap, subst, ◌∙◌, refl, Option, Some, None, Result, Ok, Err}
use Rattle.std.specs.Prelude.{IfOk, IfErr}
use Rattle.std.proofs.lemmas.Option.{same_Some}
use Rattle.wave_wasm.specs.Types as type
use Rattle.wave_wasm.specs.Types.{TypeTree, Types, MaybeType, type_list, type_option, kind_of}
use Rattle.wave_wasm.specs.Values as value
use Rattle.wave_wasm.specs.Values.{Value, Leaf, leaf_type, IsSound, IsWellFormed, values, maybe_value}
use Rattle.wave_wasm.specs.HasType.{HasType}
use Rattle.wave_wasm.specs.ConstructorContracts.{IsMemory, IsListOf, Makes, MakesLeaf, AreOf, OptionIsOf, PayloadIsOf, EitherIsOf, FullLeaf, FullList, FullTuple, FullEnum, FullOption, FullResult}
use Rattle.wave_wasm.specs.declared.wasm.WasmValueError.{WasmValueError}
use Rattle.wave_wasm.proofs.TypesOfValues.WellFormed.{formed}
use Rattle.wave_value.specs.TypedValue.{TypedValue, IsAt, IsTyped, MakesOnly, typed_leaf}
use Rattle.wave_value.specs.FullTypes.{IsFull}
use Rattle.wave_value.specs.ConstructorRules.{Built, AllOwn, TakesList, TellsOne, option_stated, each_stated, RefusesList, RefusesParts, RefusesTuple, RefusesPayload, RefusesResult, RefusesEnum}
use Rattle.wave_value.proofs.ConstructorAnswers.ListsAndEnums.{all_own}
use Rattle.wave_wasm.specs.Lists.{AllOf}
use Rattle.wave_wasm.specs.Names.{IsOneOf, IsNoneOf, AreAllOf}
use Rattle.wave_wasm.specs.declared.wasm.WasmTypeKind.{WasmTypeKind}
use Rattle.wave_wasm.specs.declared.wasm.WasmTypeKind.TheVariants as kinds
use Rattle.wave_wasm.specs.declared.wasm.WasmValueError.TheVariants as error

-- ---- names

-- a name isn't one of some names and none of them
pub one_none : (ns : List (List ℕ)) (n : List ℕ) → IsOneOf ns n → IsNoneOf ns n → ⊥
one_none [] n h k = h
one_none (m ∷ ns) n (inl e) k = k.0 e
one_none (m ∷ ns) n (inr h) k = one_none ns n h k.1

-- one of names that are all among others is one of those
pub among : (ns ms : List (List ℕ)) (n : List ℕ) → AreAllOf ns ms → IsOneOf ms n → IsOneOf ns n
among ns [] n h k = absurd k
among ns (m ∷ ms) n h (inl e) = subst (IsOneOf ns) (sym e) h.0
among ns (m ∷ ms) n h (inr k) = among ns ms n h.1 k

-- ---- one token

-- what was made of a value of one token is lawful
pub built_leaf : (one : Leaf) (v : TypedValue) → IsSound one → v ≡ typed_leaf one → MakesLeaf (λ v. v.tree) (λ v T. IsAt T v) one v
built_leaf one v sound e =
    let fits : HasType (type.simple (leaf_type one)) (value.leaf one) = (one, (refl, sound), refl) in
    subst (λ v. MakesLeaf (λ (v : TypedValue). v.tree) (λ v T. IsAt T v) one v) (sym e)
    (record { means = refl; fits = fits; is_of = record { own = refl; fits = fits } })

-- a value is well formed
pub well_formed : (v : TypedValue) → IsTyped v → IsWellFormed v.tree
well_formed v h = formed v.own v.tree h

-- a constructor that refuses nothing
pub built_only : (one : Leaf) (r : Result TypedValue WasmValueError) → MakesOnly one r → IfOk r (MakesLeaf (λ v. v.tree) (λ v T. IsAt T v) one)
built_only one (Ok v) h = built_leaf one v h.1 h.0
built_only one (Err e) h = absurd h

pub never_refused : (one : Leaf) (r : Result TypedValue WasmValueError) → MakesOnly one r → IfErr r (FullLeaf IsFull one)
never_refused one (Ok v) h = tt
never_refused one (Err e) h = absurd h

-- a refusal for lack of memory alone is lawful
pub full_leaf : (one : Leaf) (e : WasmValueError) → IsMemory e → FullLeaf IsFull one e
full_leaf one e h = λ full. h

-- ---- what has parts

-- what was made means what was asked for and is of the type
pub lawful : (asked : Value) (T : TypeTree) (v : TypedValue) → Built asked T v → Makes (λ (v : TypedValue). v.tree) (λ v T. IsAt T v) asked T v
lawful asked T v m = record { means = m.tree; fits = m.fits; is_of = record { own = m.own; fits = subst (HasType T) (sym m.tree) m.fits } }

-- so it is also where the names are distinct
pub built_where : {D : Type 0} (asked : Value) (T : TypeTree) (v : TypedValue) → Built asked T v → D → Makes (λ (v : TypedValue). v.tree) (λ v T. IsAt T v) asked T v
built_where asked T v m = λ distinct. lawful asked T v m

-- parts of the stated types are refused for lack of memory alone
abbrev pub IsAsStated : TypeTree × TypedValue → Type 0
IsAsStated p = p.1.own ≡ p.0

pub none_other : (words : TypedValue → List ℕ) (t s : List ℕ) (stated : List (TypeTree × TypedValue)) → AllOf IsAsStated stated → TellsOne words t s stated → ⊥
none_other words t s [] h one = one
none_other words t s (p ∷ ps) h (inl other) = other.0 h.0
none_other words t s (p ∷ ps) h (inr one) = none_other words t s ps h.1 one

pub no_refusal : (words : TypedValue → List ℕ) (kind : WasmTypeKind) (T : TypeTree) (stated : List (TypeTree × TypedValue)) (e : WasmValueError) → kind_of T ≡ kind → AllOf IsAsStated stated → RefusesParts words kind T stated e → IsMemory e
no_refusal words kind T stated (error.WrongTypeKind k s) is h r = absurd (r.0 is)
no_refusal words kind T stated (error.WrongValueType t s) is h r = absurd (none_other words _ _ stated h r.1)
no_refusal words kind T stated (error.Memory e) is h r = tt
no_refusal words kind T stated _ is h r = absurd r

own_stated : (E : TypeTree) (vs : List TypedValue) → AllOwn E vs → AllOf IsAsStated (map (λ v. (E, v)) vs)
own_stated E [] h = tt
own_stated E (v ∷ vs) h = (h.0, own_stated E vs h.1)

-- items that are taken are refused for lack of memory alone
pub list_memory : (words : TypedValue → List ℕ) (T : TypeTree) (vs : List TypedValue) (e : WasmValueError) → TakesList T vs → RefusesList words T vs e → IsMemory e
list_memory words (type.list E) vs (error.WrongTypeKind k t) h r = absurd (r.1.0 refl)
list_memory words (type.list E) vs (error.WrongNumberOfElements want got) h r = absurd (cc r.0)
list_memory words (type.list E) vs (error.WrongValueType t s) h r = absurd (none_other words _ _ _ (own_stated E vs h) r.2)
list_memory words (type.list E) vs (error.Memory e) h r = tt
list_memory words (type.list E) vs _ h r = absurd r
list_memory words (type.fixed E n) vs (error.WrongTypeKind k t) h r = absurd (r.0 refl)
list_memory words (type.fixed E n) vs (error.WrongNumberOfElements want got) h r = absurd (r.2 (sym (same_Some n want r.0) ∙ (sym h.0 ∙ sym r.1)))
list_memory words (type.fixed E n) vs (error.WrongValueType t s) h r = absurd (none_other words _ _ _ (own_stated E vs h.1) r.2)
list_memory words (type.fixed E n) vs (error.Memory e) h r = tt
list_memory words (type.fixed E n) vs _ h r = absurd r
list_memory words _ vs e h r = absurd h

-- items of the element type, as many as the type says, are taken
list_of : (T E : TypeTree) (vs : List TypedValue) → IsListOf E (length vs) T → AllOf (λ v. IsAt E v) vs → TakesList T vs
list_of T E vs (inl is) h = subst (λ U. TakesList U vs) (sym is) (all_own E vs h)
list_of T E vs (inr is) h = subst (λ U. TakesList U vs) (sym is) (refl, all_own E vs h)

pub full_list : (words : TypedValue → List ℕ) (T : TypeTree) (vs : List TypedValue) (e : WasmValueError) → RefusesList words T vs e → FullList (λ v T. IsAt T v) IsFull T vs e
full_list words T vs e r = λ full E is h. list_memory words T vs e (list_of T E vs is h) r

takes_of : (P : TypeTree) (o : Option TypedValue) → OptionIsOf (λ v T. IsAt T v) P o → AllOf IsAsStated (option_stated (type.option P) o)
takes_of P None h = tt
takes_of P (Some v) h = (h.own, tt)

pub full_option : (words : TypedValue → List ℕ) (T : TypeTree) (o : Option TypedValue) (e : WasmValueError) → RefusesParts words kinds.Option T (option_stated T o) e → FullOption (λ v T. IsAt T v) IsFull T o e
full_option words T o e r = λ full P is h. no_refusal words kinds.Option (type.option P) (option_stated (type.option P) o) e refl (takes_of P o h) (subst (λ U. RefusesParts words kinds.Option U (option_stated U o) e) is r)

case_taken : (names : List (List ℕ)) (name : List ℕ) (e : WasmValueError) → IsOneOf names name → RefusesEnum (type.enum names) name e → IsMemory e
case_taken names name (error.WrongTypeKind k s) h r = absurd (r.0 refl)
case_taken names name (error.UnknownCase n) h r = absurd (r.2 h)
case_taken names name (error.Memory e) h r = tt
case_taken names name _ h r = absurd r

pub full_enum : (T : TypeTree) (name : List ℕ) (e : WasmValueError) → RefusesEnum T name e → FullEnum (λ (v : TypedValue) T. IsAt T v) IsFull T name e
full_enum T name e r = λ full names is h. case_taken names name e h (subst (λ U. RefusesEnum U name e) is r)

-- ---- tuples

each_of : (Ts : List TypeTree) (vs : List TypedValue) → AreOf (λ v T. IsAt T v) Ts vs → AllOf IsAsStated (each_stated Ts vs) × (length vs ≡ length Ts)
each_of [] [] h = (tt, refl)
each_of [] (v ∷ vs) h = absurd h
each_of (T ∷ Ts) [] h = absurd h
each_of (T ∷ Ts) (v ∷ vs) h = let more = each_of Ts vs h.1 in ((h.0.own, more.0), ap suc more.1)

tuple_memory : (words : TypedValue → List ℕ) (Ts : Types) (vs : List TypedValue) (e : WasmValueError) → AreOf (λ v T. IsAt T v) (type_list Ts) vs → RefusesTuple words (type.tuple Ts) vs e → IsMemory e
tuple_memory words Ts vs (error.WrongTypeKind k s) h r = absurd (r.0 refl)
tuple_memory words Ts vs (error.WrongNumberOfTupleValues want got) h r = absurd (r.3 (r.1 ∙ (sym (each_of (type_list Ts) vs h).1 ∙ sym r.2)))
tuple_memory words Ts vs (error.WrongValueType s q) h r = absurd (none_other words _ _ (each_stated (type_list Ts) vs) (each_of (type_list Ts) vs h).0 r.2)
tuple_memory words Ts vs (error.Memory e) h r = tt
tuple_memory words Ts vs _ h r = absurd r

pub full_tuple : (words : TypedValue → List ℕ) (T : TypeTree) (vs : List TypedValue) (e : WasmValueError) → RefusesTuple words T vs e → FullTuple (λ v T. IsAt T v) IsFull T vs e
full_tuple words T vs e r = λ full Ts is h. tuple_memory words Ts vs e h (subst (λ U. RefusesTuple words U vs e) is r)

-- ---- results

-- a payload as it is stated is refused for lack of memory alone
pub payload_memory : (words : TypedValue → List ℕ) (n : List ℕ) (P : Option TypeTree) (p : Option TypedValue) (e : WasmValueError) → PayloadIsOf (λ v T. IsAt T v) P p → RefusesPayload words n P p e → IsMemory e
payload_memory words n None None (error.MissingPayload m) h r = absurd r.1
payload_memory words n (Some T) (Some v) (error.MissingPayload m) h r = absurd r.1
payload_memory words n None None (error.UnexpectedPayload m) h r = absurd r.1
payload_memory words n (Some T) (Some v) (error.UnexpectedPayload m) h r = absurd r.1
payload_memory words n None None (error.WrongValueType s q) h r = absurd r
payload_memory words n (Some T) (Some v) (error.WrongValueType s q) h r = absurd (r.0 h.own)
payload_memory words n None (Some v) e h r = absurd h
payload_memory words n (Some T) None e h r = absurd h
payload_memory words n P p (error.Memory e) h r = tt
payload_memory words n P p _ h r = absurd r

result_memory : (words : TypedValue → List ℕ) (A B : MaybeType) (o : Result (Option TypedValue) (Option TypedValue)) (e : WasmValueError) → EitherIsOf (λ v T. IsAt T v) (type_option A) (type_option B) o → RefusesResult words (type.result A B) o e → IsMemory e
result_memory words A B o (error.WrongTypeKind k s) h r = absurd (r.0 refl)
result_memory words A B o (error.Memory e) h r = tt
result_memory words A B (Ok p) e h r = payload_memory words (codes "ok") (type_option A) p e h r.1
result_memory words A B (Err p) e h r = payload_memory words (codes "err") (type_option B) p e h r.1

pub full_result : (words : TypedValue → List ℕ) (T : TypeTree) (o : Result (Option TypedValue) (Option TypedValue)) (e : WasmValueError) → RefusesResult words T o e → FullResult (λ v T. IsAt T v) IsFull T o e
full_result words T o e r = λ full A B is h. result_memory words A B o e h (subst (λ U. RefusesResult words U o e) is r)
