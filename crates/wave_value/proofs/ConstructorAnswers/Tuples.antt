-- What the constructor of tuples makes and refuses.
use Rattle.std.proofs.Common.{ℕ, zero, suc, ◌≡◌, ◌<◌, ◌≤◌, ◌+◌, List, [], ◌∷◌, length, take, get_or, refl, sym, ap, subst, ◌∙◌, arith, inl, inr, Some}
use Rattle.std.specs.Prelude.{string_bytes}
use Rattle.std.proofs.Math.Numerals.{add-one}
use Rattle.std.proofs.lemmas.List.{take_all}
use Rattle.std.proofs.lemmas.Option.{same_Some}
use Rattle.wave_wasm.specs.Lists.{SomeOf}
use Rattle.wave_wasm.specs.Types as type
use Rattle.wave_wasm.specs.Types.{TypeTree, Types, kind_of, types_of, type_list, tuple_parts}
use Rattle.wave_wasm.specs.Values as value
use Rattle.wave_wasm.specs.Values.{values}
use Rattle.wave_wasm.specs.HasType.{HasType}
use Rattle.wave_wasm.specs.declared.wasm.WasmValueError.{WasmValueError}
use Rattle.wave_wasm.specs.declared.wasm.WasmValueError.TheVariants as error
use Rattle.wave_type.specs.TypeModel.{tuple_part}
use Rattle.wave_value.specs.TypedValue.{TypedValue, IsAt}
use Rattle.wave_value.specs.ValueModel.{trees}
use Rattle.wave_value.specs.Private.ValueModel.{EachAt, TupleFits}
use Rattle.wave_value.specs.ConstructorRules.{Built, EachOwn, TakesTuple, TellsOther, TellsOne, each_stated, RefusesTuple}
use Rattle.wave_value.specs.Private.ConstructorRules.{SaysType}
use Rattle.wave_value.proofs.ConstructorAnswers.ListsAndEnums.{some_so}
use Rattle.wave_type.proofs.TypeTrees.Lists.{type_list-types_of}
use Rattle.wave_value.proofs.ValueModel.ContentMeaning.{tuple_value}

-- a type with such parts is a tuple's
pub tuple_is : (T : TypeTree) (Us : List TypeTree) → Some (types_of Us) ≡ tuple_part T → type.tuple (types_of Us) ≡ T
tuple_is (type.tuple Ts) Us e = ap type.tuple (same_Some (types_of Us) Ts e)
tuple_is _ Us e = absurd (cc)

pub each_own : (Ts : List TypeTree) (vs : List TypedValue) → EachAt Ts vs → EachOwn Ts vs
each_own [] [] h = tt
each_own [] (v ∷ vs) h = absurd h
each_own (T ∷ Ts) [] h = absurd h
each_own (T ∷ Ts) (v ∷ vs) h = (h.0.own, each_own Ts vs h.1)

-- the items at each place so far
pub each_fits : (T : TypeTree) (Us : List TypeTree) (vs : List TypedValue) → Some (types_of Us) ≡ tuple_part T → EachAt Us vs → TupleFits T vs
each_fits T Us vs is h = subst (λ U. TupleFits U vs) (tuple_is T Us is) (subst (λ Ts. EachAt Ts vs) (sym (type_list-types_of Us)) h)

pub tuple_taken : (T : TypeTree) (Us : List TypeTree) (vs : List TypedValue) → Some (types_of Us) ≡ tuple_part T → EachAt Us vs → TakesTuple T vs
tuple_taken T Us vs is h = subst (λ U. TakesTuple U vs) (tuple_is T Us is) (subst (λ Ts. EachOwn Ts vs) (sym (type_list-types_of Us)) (each_own Us vs h))

each_next : (Ts : List TypeTree) (vs : List TypedValue) (i : ℕ) (T : TypeTree) (v : TypedValue) → i < length Ts → i < length vs → T ≡ get_or Ts i T → v ≡ get_or vs i v → IsAt T v → EachAt (take i Ts) (take i vs) → EachAt (take (suc i) Ts) (take (suc i) vs)
each_next [] vs i T v lt lv s r at h = absurd (omega (arith, lt))
each_next (U ∷ Ts) [] i T v lt lv s r at h = absurd (omega (arith, lv))
each_next (U ∷ Ts) (w ∷ vs) zero T v lt lv s r at h = (subst (λ A. IsAt A w) s (subst (IsAt T) r at), tt)
each_next (U ∷ Ts) (w ∷ vs) (suc i) T v lt lv s r at h = (h.0, each_next Ts vs i T v (omega (arith, lt)) (omega (arith, lv)) s r at h.1)

-- one more item is at its place
pub each_more : (Ts : List TypeTree) (vs : List TypedValue) (i : ℕ) (T : TypeTree) (v : TypedValue) → i < length Ts → i < length vs → T ≡ get_or Ts i T → v ≡ get_or vs i v → IsAt T v → EachAt (take i Ts) (take i vs) → EachAt (take (i + 1) Ts) (take (i + 1) vs)
each_more Ts vs i T v lt lv s r at h = rw add-one (each_next Ts vs i T v lt lv s r at h)

-- all items are, at the end of the loop
pub each_at : (Ts : List TypeTree) (vs : List TypedValue) (i : ℕ) → length Ts ≤ i → length vs ≤ i → EachAt (take i Ts) (take i vs) → EachAt Ts vs
each_at Ts vs i le lv h = subst (λ us. EachAt Ts us) (take_all i vs lv) (subst (λ Us. EachAt Us (take i vs)) (take_all i Ts le) h)

pub tuple_built : (T own : TypeTree) (vs : List TypedValue) → own ≡ T → TupleFits own vs → Built (value.tuple (values (trees vs))) T (record { own = own; tree = value.tuple (values (trees vs)) })
tuple_built T own vs same h = record { own = same; tree = refl; fits = subst (λ U. HasType U (value.tuple (values (trees vs)))) same (tuple_value own vs h) }

parts_are : (Us : List TypeTree) (n : ℕ) → n ≡ length Us → n ≡ length (tuple_parts (type.tuple (types_of Us)))
parts_are Us n e = e ∙ ap length (sym (type_list-types_of Us))

-- another count
pub count_refused : (words : TypedValue → List ℕ) (T : TypeTree) (Us : List TypeTree) (vs : List TypedValue) (want got : ℕ) → Some (types_of Us) ≡ tuple_part T → want ≡ length Us → got ≡ length vs → (want ≡ got → ⊥) → RefusesTuple words T vs (error.WrongNumberOfTupleValues want got)
count_refused words T Us vs want got is w g other =
    subst (λ U. RefusesTuple words U vs (error.WrongNumberOfTupleValues want got)) (tuple_is T Us is) (refl, parts_are Us want w, g, other)

item_stated : (Ts : List TypeTree) (vs : List TypedValue) (i : ℕ) (T : TypeTree) (v : TypedValue) → i < length Ts → i < length vs → T ≡ get_or Ts i T → v ≡ get_or vs i v → SomeOf (λ p. (T, v) ≡ p) (each_stated Ts vs)
item_stated [] vs i T v lt lv s r = absurd (omega (arith, lt))
item_stated (U ∷ Ts) [] i T v lt lv s r = absurd (omega (arith, lv))
item_stated (U ∷ Ts) (w ∷ vs) zero T v lt lv s r = inl (λ j. (s j, r j))
item_stated (U ∷ Ts) (w ∷ vs) (suc i) T v lt lv s r = inr (item_stated Ts vs i T v (omega (arith, lt)) (omega (arith, lv)) s r)

item_refused : (words : TypedValue → List ℕ) (Us : List TypeTree) (vs : List TypedValue) (U : TypeTree) (v : TypedValue) (e : WasmValueError) → length vs ≡ length Us → SomeOf (λ p. (U, v) ≡ p) (each_stated Us vs) → (v.own ≡ U → ⊥) → SaysType words U v e → RefusesTuple words (type.tuple (types_of Us)) vs e
item_refused words Us vs U v (error.WrongValueType t s) same one other says =
    let reported : TellsOne words (string_bytes t) (string_bytes s) (each_stated Us vs) =
    some_so (λ p. TellsOther words (string_bytes t) (string_bytes s) p.0 p.1) (U, v) (each_stated Us vs) one (other, says.0, says.1) in
    (refl, parts_are Us (length vs) same, subst (λ Ts. TellsOne words (string_bytes t) (string_bytes s) (each_stated Ts vs)) (sym (type_list-types_of Us)) reported)
item_refused words Us vs U v (error.Memory r) same one other says = tt
item_refused words Us vs U v _ same one other says = absurd says

-- an item of another type
pub tuple_refused : (words : TypedValue → List ℕ) (T : TypeTree) (Us : List TypeTree) (vs : List TypedValue) (i : ℕ) (U : TypeTree) (v : TypedValue) (e : WasmValueError) → Some (types_of Us) ≡ tuple_part T → length Us ≡ length vs → i < length vs → U ≡ get_or Us i U → v ≡ get_or vs i v → (v.own ≡ U → ⊥) → SaysType words U v e → RefusesTuple words T vs e
tuple_refused words T Us vs i U v e is same lt s r other says =
    subst (λ W. RefusesTuple words W vs e) (tuple_is T Us is) (item_refused words Us vs U v e (sym same) (item_stated Us vs i U v (omega (arith, lt, same)) lt s r) other says)
