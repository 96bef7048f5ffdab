-- Which types have a value, and what the parts say of the whole.
use Rattle.std.proofs.Common.{ℕ, zero, suc, ◌≡◌, ◌<◌, ◌≤◌, ◌+◌, ◌||◌, ◌&&◌, ◌↔◌, ◌⊎◌, rules, Bool, true, false, IsTrue, List, [], ◌∷◌, Bor, length, drop, get_or, Option, Result, Ok, Err, IfOk, refl, arith, sym, ap, subst, ◌∙◌, inl, inr}
use Rattle.std.proofs.lemmas.Bool.{or_cases, or_right}
use Rattle.std.specs.List.{list_all, list_any}
use Rattle.std.specs.Prelude.{pos}
use Rattle.wave_wasm.specs.Borrowed.{denoted_all}
use Rattle.wave_wasm.specs.Lists.{AllOf}
use Rattle.wave_wasm.specs.Names.{ArePicked}
use Rattle.wave_wasm.specs.Types as type
use Rattle.wave_wasm.specs.Types.{TypeTree, MaybeType, Types, Fields, Cases, Simple, no_type, a_type, no_types, type_and, no_fields, field, no_cases, case_of, has_names, kind_of, maybe_type, type_option, type_list, field_list, case_list, tuple_parts, record_parts, variant_parts}
use Rattle.wave_wasm.specs.Values as value
use Rattle.wave_wasm.specs.Values.{Value, MaybeValue, FieldValues, Leaf, no_value, a_value, values, IsSound}
use Rattle.wave_wasm.specs.HasType.{HasType, HasPayload, HasTypes, HasFields, HasCase, IsLeafOf}
use Rattle.wave_wasm.specs.declared.wasm.WasmTypeKind.TheVariants as kinds
use Rattle.wave_wasm.proofs.CanonicalText.Sequences.{at_item, at_end}
use Rattle.wave_wasm.proofs.TypesOfValues.TypeOfKind.{formed_as}
use Rattle.wave.specs.Types.{HasValue}
use Rattle.wave.specs.Private.Inhabited.{inhabited, payload_inhabited, types_inhabited, fields_inhabited, cases_inhabited}

-- ---- where the test says so there is a value

-- a value of one token
leaf_of : (S : Simple) → (one : Leaf) × IsLeafOf S one
leaf_of type.bool = (value.bool true, (refl, tt))
leaf_of (type.whole type.s8) = (value.whole type.s8 (pos 0), (refl, search rules))
leaf_of (type.whole type.s16) = (value.whole type.s16 (pos 0), (refl, search rules))
leaf_of (type.whole type.s32) = (value.whole type.s32 (pos 0), (refl, search rules))
leaf_of (type.whole type.s64) = (value.whole type.s64 (pos 0), (refl, search rules))
leaf_of (type.whole type.u8) = (value.whole type.u8 (pos 0), (refl, search rules))
leaf_of (type.whole type.u16) = (value.whole type.u16 (pos 0), (refl, search rules))
leaf_of (type.whole type.u32) = (value.whole type.u32 (pos 0), (refl, search rules))
leaf_of (type.whole type.u64) = (value.whole type.u64 (pos 0), (refl, search rules))
leaf_of type.char = (value.char 48, (refl, search rules))
leaf_of type.string = (value.string [], (refl, search rules))

-- none of the names
none_picked : (names : List (List ℕ)) → ArePicked names []
none_picked [] = refl
none_picked (name ∷ more) = inl (none_picked more)

-- a number of values of one type
copies : (E : TypeTree) (v : Value) → HasType E v → (n : ℕ) → (vs : List Value) × AllOf (HasType E) vs × (length vs ≡ n)
copies E v typed zero = ([], tt, refl)
copies E v typed (suc n) = let (vs, all, count) = copies E v typed n in (v ∷ vs, (typed, all), ap suc count)

-- either of two gives it
either : {A B X : Type 0} → (A → X) → (B → X) → A ⊎ B → X
either f g (inl a) = f a
either f g (inr b) = g b

-- two tests pass
both_pass : (a b : Bool) → (a && b) ≡ true → (a ≡ true) × (b ≡ true)
both_pass true b e = (refl, e)
both_pass false b e = absurd (cc)

mutual
  value_of : (T : TypeTree) → inhabited T ≡ true → HasValue T
  value_of (type.simple S) e = let (one, is) = leaf_of S in (value.leaf one, (one, is, refl))
  value_of (type.unreadable kind) e = absurd (cc)
  value_of (type.list E) e = (value.list (values []), ([], tt, refl))
  value_of (type.fixed E zero) e = (value.fixed (values []), ([], tt, refl, refl))
  value_of (type.fixed E (suc n)) e =
      let (v, typed) = value_of E e in
      let (vs, all, count) = copies E v typed (suc n) in
      (value.fixed (values vs), (vs, all, count, refl))
  value_of (type.record_type fs) e = let (all, typed) = fields_of fs e in (value.record_value all, (all, typed, refl))
  value_of (type.tuple Ts) e = let (vs, typed) = items_of Ts e in (value.tuple (values vs), (vs, typed, refl))
  value_of (type.variant cs) e = let (name, payload, typed) = case_in cs e in (value.variant name payload, (name, payload, typed, refl))
  value_of (type.enum []) e = absurd (cc)
  value_of (type.enum (name ∷ more)) e = (value.enum name, (name, inl refl, refl))
  value_of (type.option P) e = (value.option no_value, inl refl)
  value_of (type.result A B) e =
      either (λ h. let (payload, typed) = payload_of A h in (value.ok payload, inl (payload, typed, refl))) (λ h. let (payload, typed) = payload_of B h in (value.err payload, inr (payload, typed, refl))) (or_cases _ _ e)
  value_of (type.flags names) e = (value.flags [], ([], none_picked names, refl))
  value_of (type.map K V) e = (value.map (value.entries []), ([], tt, refl))

  payload_of : (P : MaybeType) → payload_inhabited P ≡ true → (payload : MaybeValue) × HasPayload P payload
  payload_of no_type e = (no_value, refl)
  payload_of (a_type T) e = let (v, typed) = value_of T e in (a_value v, (v, typed, refl))

  items_of : (Ts : Types) → types_inhabited Ts ≡ true → (vs : List Value) × HasTypes Ts vs
  items_of no_types e = ([], refl)
  items_of (type_and T more) e =
      let h = both_pass _ _ e in
      let (v, typed) = value_of T h.0 in
      let (vs, others) = items_of more h.1 in
      (v ∷ vs, (v, vs, typed, others, refl))

  fields_of : (fs : Fields) → fields_inhabited fs ≡ true → (all : FieldValues) × HasFields fs all
  fields_of no_fields e = (value.no_fields, refl)
  fields_of (field name T more) e =
      let h = both_pass _ _ e in
      let (v, typed) = value_of T h.0 in
      let (vs, others) = fields_of more h.1 in
      (value.field name v vs, (v, vs, typed, others, refl))

  case_in : (cs : Cases) → cases_inhabited cs ≡ true → (name : List ℕ) × (payload : MaybeValue) × HasCase cs name payload
  case_in no_cases e = absurd (cc)
  case_in (case_of name P more) e =
      either (λ h. let (payload, typed) = payload_of P h in (name, payload, inl (refl, typed))) (λ h. let (n, payload, typed) = case_in more h in (n, payload, inr typed)) (or_cases _ _ e)

-- ---- where there is a value the test says so

first_passes : (a b : Bool) → a ≡ true → (a || b) ≡ true
first_passes true b e = refl
first_passes false b e = absurd (cc)

two_pass : (a b : Bool) → a ≡ true → b ≡ true → (a && b) ≡ true
two_pass true b e f = f
two_pass false b e f = absurd (cc)

first_of : (E : TypeTree) (n : ℕ) (vs : List Value) → AllOf (HasType E) vs → length vs ≡ suc n → HasValue E
first_of E n [] all count = absurd (omega (arith, count))
first_of E n (v ∷ vs) all count = (v, all.0)

mutual
  tells : (T : TypeTree) (v : Value) → HasType T v → inhabited T ≡ true
  tells (type.simple S) v typed = refl
  tells (type.unreadable kind) v typed = absurd typed
  tells (type.list E) v typed = refl
  tells (type.fixed E zero) v typed = refl
  tells (type.fixed E (suc n)) v (vs, all, count, is) = let (w, typed) = first_of E n vs all count in tells E w typed
  tells (type.record_type fs) v (all, typed, is) = fields_tell fs all typed
  tells (type.tuple Ts) v (vs, typed, is) = items_tell Ts vs typed
  tells (type.variant cs) v (name, payload, typed, is) = case_tells cs name payload typed
  tells (type.enum []) v (name, one, is) = absurd one
  tells (type.enum (name ∷ more)) v typed = refl
  tells (type.option P) v typed = refl
  tells (type.result A B) v (inl (payload, typed, is)) = first_passes _ _ (payload_tells A payload typed)
  tells (type.result A B) v (inr (payload, typed, is)) = or_right _ _ (payload_tells B payload typed)
  tells (type.flags names) v typed = refl
  tells (type.map K V) v typed = refl

  payload_tells : (P : MaybeType) (payload : MaybeValue) → HasPayload P payload → payload_inhabited P ≡ true
  payload_tells no_type payload typed = refl
  payload_tells (a_type T) payload (v, typed, is) = tells T v typed

  items_tell : (Ts : Types) (vs : List Value) → HasTypes Ts vs → types_inhabited Ts ≡ true
  items_tell no_types vs typed = refl
  items_tell (type_and T more) vs (v, others, typed, rest, is) = two_pass _ _ (tells T v typed) (items_tell more others rest)

  fields_tell : (fs : Fields) (all : FieldValues) → HasFields fs all → fields_inhabited fs ≡ true
  fields_tell no_fields all typed = refl
  fields_tell (field name T more) all (v, others, typed, rest, is) = two_pass _ _ (tells T v typed) (fields_tell more others rest)

  case_tells : (cs : Cases) (name : List ℕ) (payload : MaybeValue) → HasCase cs name payload → cases_inhabited cs ≡ true
  case_tells no_cases name payload typed = absurd typed
  case_tells (case_of other P more) name payload (inl (same, typed)) = first_passes _ _ (payload_tells P payload typed)
  case_tells (case_of other P more) name payload (inr typed) = or_right _ _ (case_tells more name payload typed)

exact_by : {X : Type 0} (b c : Bool) → b ≡ c → (c ≡ true → X) → (X → c ≡ true) → IsTrue b ↔ X
exact_by true c e there back = (λ _. there (sym e), λ _. refl)
exact_by false c e there back = (λ h. absurd (cc h), λ x. absurd (cc (e ∙ back x)))

-- the test is exact
pub exact : {E : Type 0} (T : TypeTree) (r : Result Bool E) → IfOk r (λ b. b ≡ inhabited T) → IfOk r (λ b. IsTrue b ↔ HasValue T)
exact T (Ok b) e = exact_by b (inhabited T) e (value_of T) (λ h. tells T h.0 h.1)
exact T (Err x) e = tt

-- ---- the parts of a type decide it

types_decide : (Ts : Types) → types_inhabited Ts ≡ list_all inhabited (type_list Ts)
types_decide no_types = refl
types_decide (type_and T more) = ap (λ b. inhabited T && b) (types_decide more)

fields_decide : (fs : Fields) → fields_inhabited fs ≡ list_all (λ (f : List ℕ × TypeTree). inhabited f.1) (field_list fs)
fields_decide no_fields = refl
fields_decide (field name T more) = ap (λ b. inhabited T && b) (fields_decide more)

payload_back : (P : MaybeType) → payload_inhabited P ≡ payload_inhabited (maybe_type (type_option P))
payload_back no_type = refl
payload_back (a_type T) = refl

cases_decide : (cs : Cases) → cases_inhabited cs ≡ list_any (λ (c : List ℕ × Option TypeTree). payload_inhabited (maybe_type c.1)) (case_list cs)
cases_decide no_cases = refl
cases_decide (case_of name P more) = λ i. payload_back P i || cases_decide more i

-- the types of a tuple
pub tuple_by : (T : TypeTree) (parts : List TypeTree) → kind_of T ≡ kinds.Tuple → parts ≡ tuple_parts T → inhabited T ≡ list_all inhabited parts
tuple_by T parts k e = let f = formed_as kinds.Tuple T (sym k) in ap inhabited f.1 ∙ (types_decide f.0 ∙ ap (list_all inhabited) (sym (e ∙ ap tuple_parts f.1)))

-- the fields of a record
pub record_by : (T : TypeTree) (parts : List (List ℕ × TypeTree)) → kind_of T ≡ kinds.Record → parts ≡ record_parts T → inhabited T ≡ list_all (λ (f : List ℕ × TypeTree). inhabited f.1) parts
record_by T parts k e = let f = formed_as kinds.Record T (sym k) in ap inhabited f.1 ∙ (fields_decide f.0 ∙ ap (list_all (λ (f : List ℕ × TypeTree). inhabited f.1)) (sym (e ∙ ap record_parts f.1)))

-- the cases of a variant
pub variant_by : (T : TypeTree) (parts : List (List ℕ × Option TypeTree)) → kind_of T ≡ kinds.Variant → parts ≡ variant_parts T → inhabited T ≡ list_any (λ (c : List ℕ × Option TypeTree). payload_inhabited (maybe_type c.1)) parts
variant_by T parts k e =
    let f = formed_as kinds.Variant T (sym k) in
    ap inhabited f.1 ∙ (cases_decide f.0 ∙ ap (list_any (λ (c : List ℕ × Option TypeTree). payload_inhabited (maybe_type c.1))) (sym (e ∙ ap variant_parts f.1)))

-- ---- a loop that tests types while each has a value

-- each type has a value where each that is left has one, and only there
abbrev pub Tested : List (Bor TypeTree) → List TypeTree → Type 0
Tested left all = AllOf HasValue (denoted_all (λ (T : TypeTree). T) left) ↔ AllOf HasValue all

-- none was tested yet
pub none_tested : (items : List (Bor TypeTree)) (all : List TypeTree) → denoted_all (λ (T : TypeTree). T) items ≡ all → Tested items all
none_tested items all same = subst (λ Ts. AllOf HasValue (denoted_all (λ (T : TypeTree). T) items) ↔ AllOf HasValue Ts) same (λ have. have, λ have. have)

module _ (items : List (Bor TypeTree)) (all : List TypeTree) (i : ℕ) (tested : Tested (drop i items) all) where
  next_left : (x : Bor TypeTree) → i < length items → x ≡ get_or items i x → denoted_all (λ (T : TypeTree). T) (drop i items) ≡ x.now ∷ denoted_all (λ (T : TypeTree). T) (drop (i + 1) items)
  next_left x less is = at_item (denoted_all (λ (T : TypeTree). T)) items i x less is

  -- one type more has a value
  pub one_tested : (x : Bor TypeTree) → i < length items → x ≡ get_or items i x → HasValue x.now → Tested (drop (i + 1) items) all
  one_tested x less is has = (
    λ more. tested.0 (subst (AllOf HasValue) (sym (next_left x less is)) (has, more)),
    λ have. (subst (AllOf HasValue) (next_left x less is) (tested.1 have)).1,
  )

  -- the next one has no value
  pub none_next : (x : Bor TypeTree) → i < length items → x ≡ get_or items i x → (HasValue x.now → ⊥) → AllOf HasValue all → ⊥
  none_next x less is none have = none (subst (AllOf HasValue) (next_left x less is) (tested.1 have)).0

  -- all have values
  pub all_tested : length items ≤ i → AllOf HasValue all
  all_tested least = tested.0 (subst (AllOf HasValue) (sym (at_end (denoted_all (λ (T : TypeTree). T)) items i least)) tt)
