-- From what `Value` makes and refuses at variants, flags and maps to the laws of values.
use Rattle.std.proofs.Common.{◌≡◌, ◌≢◌, ℕ, List, [], ◌∷◌, sym, ap, subst, ◌∙◌, refl, inl, inr, Option, Result, Ok, Err, Bor}
use Rattle.std.specs.Prelude.{IfOk, IfErr, OnOk, filter}
use Rattle.wave_wasm.specs.Lists.{AllOf, SomeOf}
use Rattle.wave_wasm.specs.Names.{IsNoneOf, AreAllOf, AreDistinct, ArePicked, is_one_of, found_in}
use Rattle.wave_wasm.specs.Borrowed.{texts}
use Rattle.wave_wasm.specs.Types as type
use Rattle.wave_wasm.specs.Types.{TypeTree, Cases, no_cases, case_of, case_names, case_list, type_option, flags_names, HasDistinctNames}
use Rattle.wave_wasm.specs.Values as value
use Rattle.wave_wasm.specs.Values.{Value, maybe_value}
use Rattle.wave_wasm.specs.ConstructorContracts.{IsMemory, Makes, MakesFlags, MakesMap, FullVariant, FullFlags, FullMap, PayloadIsOf}
use Rattle.wave_wasm.specs.declared.wasm.WasmTypeKind.TheVariants as kinds
use Rattle.wave_wasm.specs.declared.wasm.WasmValueError.{WasmValueError}
use Rattle.wave_wasm.specs.declared.wasm.WasmValueError.TheVariants as error
use Rattle.wave_wasm.proofs.Names.Subsequences.{picked_found, picked_of}
use Rattle.wave_wasm.proofs.Names.NameTests.{passes}
use Rattle.wave_value.specs.TypedValue.{TypedValue, IsAt}
use Rattle.wave_value.specs.FullTypes.{IsFull}
use Rattle.wave_value.specs.ValueModel.{first_names}
use Rattle.wave_value.specs.ConstructorRules.{Built, RefusesParts, RefusesPayload}
use Rattle.wave_value.specs.CaseRules.{IsFirstCase, RefusesVariant, TakesFlags, RefusesFlags, BuiltMap, entries_stated, map_stated}
use Rattle.wave_value.proofs.Lawful.Values.{IsAsStated, lawful, one_none, among, no_refusal, payload_memory}

-- ---- variants

apart : (cs : Cases) (name other : List ℕ) (P : Option TypeTree) → IsNoneOf (case_names cs) other → SomeOf (λ c. c ≡ (name, P)) (case_list cs) → name ≢ other
apart no_cases name other P none h = absurd h
apart (case_of n Q more) name other P none (inl is) = λ e. none.0 (sym e ∙ sym (ap (λ (c : List ℕ × Option TypeTree). c.0) is))
apart (case_of n Q more) name other P none (inr h) = apart more name other P none.1 h

-- where no name stands twice, each case is the first of its name
pub first_of : (cs : Cases) (name : List ℕ) (P : Option TypeTree) → AreDistinct (case_names cs) → SomeOf (λ c. c ≡ (name, P)) (case_list cs) → IsFirstCase (case_list cs) name P
first_of no_cases name P distinct h = absurd h
first_of (case_of n Q more) name P distinct (inl is) = inl (sym (ap (λ (c : List ℕ × Option TypeTree). c.0) is), sym (ap (λ (c : List ℕ × Option TypeTree). c.1) is))
first_of (case_of n Q more) name P distinct (inr h) = inr (apart more name n P distinct.0 h, first_of more name P distinct.1 h)

-- a name has one first case
pub one_first : (cs : List (List ℕ × Option TypeTree)) (name : List ℕ) (P Q : Option TypeTree) → IsFirstCase cs name P → IsFirstCase cs name Q → Q ≡ P
one_first [] name P Q h k = absurd h
one_first (c ∷ cs) name P Q (inl h) (inl k) = k.1 ∙ sym h.1
one_first (c ∷ cs) name P Q (inl h) (inr k) = absurd (k.0 h.0)
one_first (c ∷ cs) name P Q (inr h) (inl k) = absurd (h.0 k.0)
one_first (c ∷ cs) name P Q (inr h) (inr k) = one_first cs name P Q h.1 k.1

has_case : (cs : List (List ℕ × Option TypeTree)) (name : List ℕ) (P : Option TypeTree) → IsFirstCase cs name P → IsNoneOf (first_names cs) name → ⊥
has_case [] name P h none = h
has_case (c ∷ cs) name P (inl h) none = none.0 h.0
has_case (c ∷ cs) name P (inr h) none = has_case cs name P h.1 none.1

-- what a refusal says of the payload holds of the first case
at_first : (words : TypedValue → List ℕ) (cs : List (List ℕ × Option TypeTree)) (name : List ℕ) (P Q : Option TypeTree) (p : Option TypedValue) (e : WasmValueError) → IsFirstCase cs name P → PayloadIsOf (λ v T. IsAt T v) P p → IsFirstCase cs name Q → RefusesPayload words name Q p e → IsMemory e
at_first words cs name P Q p e first h other r = payload_memory words name P p e h (subst (λ Z. RefusesPayload words name Z p e) (one_first cs name P Q first other) r)

case_refused : (words : TypedValue → List ℕ) (cs : Cases) (name : List ℕ) (P : Option TypeTree) (p : Option TypedValue) (e : WasmValueError) → IsFirstCase (case_list cs) name P → PayloadIsOf (λ v T. IsAt T v) P p → RefusesVariant words (type.variant cs) name p e → IsMemory e
case_refused words cs name P p (error.WrongTypeKind k t) first h r = absurd (r.0 refl)
case_refused words cs name P p (error.UnknownCase n) first h r = absurd (has_case (case_list cs) name P first r.2)
case_refused words cs name P p (error.Memory e) first h r = tt
case_refused words cs name P p (error.MissingPayload n) first h (kind, Q, other, r) = at_first words (case_list cs) name P Q p (error.MissingPayload n) first h other r
case_refused words cs name P p (error.UnexpectedPayload n) first h (kind, Q, other, r) = at_first words (case_list cs) name P Q p (error.UnexpectedPayload n) first h other r
case_refused words cs name P p (error.WrongValueType t v) first h (kind, Q, other, r) = at_first words (case_list cs) name P Q p (error.WrongValueType t v) first h other r
case_refused words cs name P p _ first h (kind, Q, other, r) = absurd r

variant_refused : (words : TypedValue → List ℕ) (T : TypeTree) (name : List ℕ) (p : Option TypedValue) (e : WasmValueError) → RefusesVariant words T name p e → FullVariant (λ v T. IsAt T v) IsFull T name p e
variant_refused words T name p e r = λ full cs is P case h.
    let at : IsFull (type.variant cs) = subst IsFull is full in
    case_refused words cs name P p e (first_of cs name P at.0 case) h (subst (λ U. RefusesVariant words U name p e) is r)

pub full_variant : (words : TypedValue → List ℕ) (T : TypeTree) (name : List ℕ) (p : Option TypedValue) (r : Result TypedValue WasmValueError) → IfErr r (RefusesVariant words T name p) → IfErr r (FullVariant (λ v T. IsAt T v) IsFull T name p)
full_variant words T name p (Ok v) h = tt
full_variant words T name p (Err e) h = variant_refused words T name p e h

-- ---- flags

-- so of flags
pub names_distinct : (T : TypeTree) → HasDistinctNames T → AreDistinct (flags_names T)
names_distinct (type.flags names) distinct = distinct
names_distinct _ distinct = tt

known_kept : (names ns : List (List ℕ)) → AreAllOf names ns → filter (is_one_of names) ns ≡ ns
known_kept names [] h = refl
known_kept names (n ∷ ns) h = rw (passes names n h.0) (ap (λ ms. n ∷ ms) (known_kept names ns h.1))

flags_lawful : (T : TypeTree) (names : List (Bor (List ℕ))) (v : TypedValue) → Built (value.flags (found_in (texts names) (flags_names T))) T v → TakesFlags T (texts names) → MakesFlags (λ (v : TypedValue). v.tree) (λ v T. IsAt T v) T names v
flags_lawful T names v m taken = λ distinct apart picked.
    let some : ArePicked (flags_names T) (texts names) = subst (ArePicked (flags_names T)) (known_kept (flags_names T) (texts names) taken.1) picked in
    let asked : found_in (texts names) (flags_names T) ≡ texts names = picked_found (flags_names T) (texts names) some (names_distinct T distinct) in
    subst (λ ns. Makes (λ (v : TypedValue). v.tree) (λ v T. IsAt T v) (value.flags ns) T v) asked (lawful _ T v m)

pub built_flags : (T : TypeTree) (names : List (Bor (List ℕ))) (r : Result TypedValue WasmValueError) → IfOk r (Built (value.flags (found_in (texts names) (flags_names T))) T) → OnOk r (TakesFlags T (texts names)) → IfOk r (MakesFlags (λ (v : TypedValue). v.tree) (λ v T. IsAt T v) T names)
built_flags T names (Ok v) m taken = flags_lawful T names v m taken
built_flags T names (Err e) m taken = tt

names_refused : (all given : List (List ℕ)) (e : WasmValueError) → ArePicked all given → RefusesFlags (type.flags all) given e → IsMemory e
names_refused all given (error.WrongTypeKind k t) picked r = absurd (r.0 refl)
names_refused all given (error.UnknownCase n) picked (kind, (one, none)) = absurd (one_none all _ (among all given _ (picked_of all given picked) one) none)
names_refused all given (error.Memory e) picked r = tt
names_refused all given _ picked r = absurd r.1

pub full_flags : (T : TypeTree) (names : List (Bor (List ℕ))) (r : Result TypedValue WasmValueError) → IfErr r (RefusesFlags T (texts names)) → IfErr r (FullFlags (λ (v : TypedValue) T. IsAt T v) IsFull T names)
full_flags T names (Ok v) h = tt
full_flags T names (Err e) h = λ full all is distinct picked. names_refused all (texts names) e picked (subst (λ U. RefusesFlags U (texts names) e) is h)

-- ---- maps

pub built_map : (T : TypeTree) (handed : List (TypedValue × TypedValue)) (r : Result TypedValue WasmValueError) → IfOk r (BuiltMap handed T) → IfOk r (MakesMap (λ v. v.tree) (λ v T. IsAt T v) T handed)
built_map T handed (Ok v) (all, denoted, m) = λ distinct. (all, denoted, lawful _ T v m)
built_map T handed (Err e) h = tt

entries_of : (K V : TypeTree) (handed : List (TypedValue × TypedValue)) → AllOf (λ e. IsAt K e.0 × IsAt V e.1) handed → AllOf IsAsStated (entries_stated K V handed)
entries_of K V [] h = tt
entries_of K V (e ∷ es) h = (h.0.0.own, (h.0.1.own, entries_of K V es h.1))

pub full_map : (words : TypedValue → List ℕ) (T : TypeTree) (handed : List (TypedValue × TypedValue)) (r : Result TypedValue WasmValueError) → IfErr r (RefusesParts words kinds.Map T (map_stated T handed)) → IfErr r (FullMap (λ v T. IsAt T v) IsFull T handed)
full_map words T handed (Ok v) h = tt
full_map words T handed (Err e) h = λ full K V is of.
    no_refusal words kinds.Map (type.map K V) (entries_stated (type.simple K) V handed) e refl (entries_of (type.simple K) V handed of) (subst (λ U. RefusesParts words kinds.Map U (map_stated U handed) e) is h)
