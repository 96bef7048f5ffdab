-- Which of several faults is answered: the first, in one of two orders.
use Rattle.std.specs.Prelude.{ℕ, ◌≡◌, ◌≢◌, ◌⊎◌, ◌++◌, List, [], ◌∷◌, length, Some, codes}
use Rattle.std.specs.declared.ops.Range.{Range}
use Rattle.wave_wasm.specs.Lists.{SomeOf}
use Rattle.wave_wasm.specs.Names.{IsOneOf, IsNoneOf}
use Rattle.wave_wasm.specs.Types as type
use Rattle.wave_wasm.specs.Types.{TypeTree, MaybeType, Types, Fields, Cases}
use Rattle.wave_wasm.specs.Types.{no_type, a_type, no_types, type_and, field, no_cases, case_of, field_names, count_of}
use Rattle.wave_wasm.specs.TypeText.{kind_word}
use Rattle.wave_wasm.specs.ValueErrors.{missing_field, unknown_case, wrong_number, wrong_length, unsupported_type}
use Rattle.wave_lex.specs.declared.error.ParserErrorKind.TheVariants.{InvalidType, DuplicateField}
use Rattle.wave_lex.specs.Errors.{Refusal, field_label_expected, repeated_name}
use Rattle.wave_grammar.specs.LeafTokens.{name_of}
use Rattle.wave_grammar.specs.TypedGrammar.{IsFlat, IsOption}
use Rattle.wave_grammar.specs.SpannedTree.{SpannedTree, MaybePlaced, no_placed, PlacedEntry, span_of, shape_of}
use Rattle.wave_grammar.specs.TypeErrors.{Blame, RefusesWith, IsRefusalOf, RefusesFor, OfForm, LeafFault, MapKeyFault, names_in, IsFor}
use Rattle.wave_grammar.specs.TypeErrors.{one_in, list_in, tuple_in, record_in, map_in, flags_in, label_in}
use Rattle.wave_grammar.specs.TypeErrors.{UnknownField, NoneExpected, OneExpected, OfOption, OfResult}

-- the order in which the parts of a value are looked at: as the tokens are read, or as the type is gone through
pub data Order : Type 0 where
  in_text : Order
  by_type : Order

-- nothing is blamed
abbrev pub BlamesNothing : Blame → Type 0
BlamesNothing A = (k : Refusal) (q : Range ℕ) → A k q → ⊥

-- what the first blames, or else the second
abbrev pub OrElse : Blame → Blame → Blame
OrElse A B k q = A k q ⊎ BlamesNothing A × B k q

-- the first of these that is blamed
abbrev pub FirstOf : {X : Type 0} → (X → Blame) → List X → Blame
FirstOf F [] k q = ⊥
FirstOf F (x ∷ more) k q = OrElse (F x) (FirstOf F more) k q

-- the one as the tokens are read, and the other as the type is gone through
abbrev pub InOrder : Order → Blame → Blame → Blame
InOrder in_text A B = A
InOrder by_type A B = B

-- ---- tuples and records

-- another number of items than the type has
abbrev pub WrongCount : ℕ → ℕ → Range ℕ → Blame
WrongCount want got p k q = (got ≢ want) × RefusesFor (wrong_number want got) p k q

-- a key that is no label, or the label of an earlier entry: at the key
abbrev pub FaultOfKey : List (List ℕ) → PlacedEntry → Blame
FaultOfKey earlier e k q =
    (names_in e.key ≡ []) × RefusesWith InvalidType (Some field_label_expected) e.place k q
    ⊎ SomeOf (λ name. IsOneOf earlier name × RefusesWith DuplicateField (Some (repeated_name name)) e.place k q) (names_in e.key)

-- the first key that is so
abbrev pub FaultOfKeys : List (List ℕ) → List PlacedEntry → Blame
FaultOfKeys earlier [] k q = ⊥
FaultOfKeys earlier (e ∷ more) k q = OrElse (FaultOfKey earlier e) (FaultOfKeys (names_in e.key ++ earlier) more) k q

-- the first entry that has a fault: in its key, as one for no field, or in its value
abbrev pub FaultOfEntries : List (List ℕ) → (PlacedEntry → Blame) → List (List ℕ) → List PlacedEntry → Range ℕ → Blame
FaultOfEntries names Within earlier [] p k q = ⊥
FaultOfEntries names Within earlier (e ∷ more) p k q =
    OrElse (FaultOfKey earlier e)
    (OrElse (UnknownField names (e ∷ []) p) (OrElse (Within e) (FaultOfEntries names Within (names_in e.key ++ earlier) more p))) k q

-- a field of this name that is no option and has no entry: at the record
abbrev pub LeftOut : List ℕ → TypeTree → List PlacedEntry → Range ℕ → Blame
LeftOut name T es p k q = (IsOption T → ⊥) × (SomeOf (IsFor name) es → ⊥) × RefusesFor (missing_field name) p k q

-- the first field that is so
abbrev pub FirstLeftOut : Fields → List PlacedEntry → Range ℕ → Blame
FirstLeftOut type.no_fields es p k q = ⊥
FirstLeftOut (field name T more) es p k q = OrElse (LeftOut name T es p) (FirstLeftOut more es p) k q

-- ---- the two tables

-- the fault that is answered: the parts of the value are looked at in the order `o`, and those of each part in the order `w`
abbrev mutual
  pub FirstFault : Order → Order → TypeTree → SpannedTree → Blame
  FirstFault o w (type.simple S) t k q = OfForm (one_in (shape_of t)) (span_of t) (LeafFault S (span_of t)) k q
  FirstFault o w (type.unreadable kind) t k q = RefusesFor (unsupported_type (kind_word (type.unreadable_kind kind))) (span_of t) k q
  FirstFault o w (type.list E) t k q = OfForm (list_in (shape_of t)) (span_of t) (λ items. FirstOf (λ item. FirstFault w w E item) items) k q
  FirstFault o w (type.fixed E n) t k q =
      OfForm (list_in (shape_of t)) (span_of t)
      (λ items k q.
      (length items ≢ n) × RefusesFor (wrong_length n (length items)) (span_of t) k q
      ⊎ (length items ≡ n) × FirstOf (λ item. FirstFault w w E item) items k q) k q
  FirstFault o w (type.record_type fs) t k q =
      OfForm (record_in (shape_of t)) (span_of t)
      (λ es.
      InOrder o
      (OrElse (FaultOfEntries (field_names fs) (λ e. FaultOfValue w fs e) [] es (span_of t)) (FirstLeftOut fs es (span_of t)))
      (OrElse (FaultOfKeys [] es) (OrElse (FaultOfFields w fs es (span_of t)) (UnknownField (field_names fs) es (span_of t))))) k q
  FirstFault o w (type.tuple Ts) t k q =
      OfForm (tuple_in (shape_of t)) (span_of t)
      (λ items.
      InOrder o
      (OrElse (FirstItem w Ts items) (WrongCount (count_of Ts) (length items) (span_of t)))
      (OrElse (WrongCount (count_of Ts) (length items) (span_of t)) (FirstItem w Ts items))) k q
  FirstFault o w (type.variant cs) t k q = OfForm (label_in (shape_of t)) (span_of t) (λ l. FirstOfCase w cs (name_of l.0) l.1 (span_of t)) k q
  FirstFault o w (type.enum names) t k q =
      OfForm (label_in (shape_of t)) (span_of t)
      (λ l k q.
      (l.1 ≢ no_placed) × IsRefusalOf InvalidType (span_of t) k q
      ⊎ (l.1 ≡ no_placed) × IsNoneOf names (name_of l.0) × RefusesFor (unknown_case (name_of l.0)) (span_of t) k q) k q
  FirstFault o w (type.option P) t k q =
      OfOption (shape_of t) (FirstFault w w P)
      ((λ k q. (IsFlat P → ⊥) × IsRefusalOf InvalidType (span_of t) k q ⊎ IsFlat P × FirstFault o w P t k q)) k q
  FirstFault o w (type.result A B) t k q =
      OfResult (shape_of t)
      (λ payload. FirstOfPayload w (codes "ok") A payload (span_of t)) (λ payload. FirstOfPayload w (codes "err") B payload (span_of t))
      (FirstOfFlat o w A t) k q
  FirstFault o w (type.flags names) t k q =
      OfForm (flags_in (shape_of t)) (span_of t)
      (λ fs. FirstOf (λ f k q. IsNoneOf names (name_of f.1) × RefusesFor (unknown_case (name_of f.1)) (span_of t) k q) fs) k q
  FirstFault o w (type.map K V) t k q =
      OfForm (map_in (shape_of t)) (span_of t)
      (λ es. FirstOf (λ e. OrElse (MapKeyFault K e.place e.key) (FirstFault w w V e.value)) es) k q

  -- the value of an entry, at the type of the first field that it is for
  pub FaultOfValue : Order → Fields → PlacedEntry → Blame
  FaultOfValue w type.no_fields e k q = ⊥
  FaultOfValue w (field name T more) e k q = IsFor name e × FirstFault w w T e.value k q ⊎ (IsFor name e → ⊥) × FaultOfValue w more e k q

  -- the first field that is left out, or whose entry's value has a fault
  pub FaultOfFields : Order → Fields → List PlacedEntry → Range ℕ → Blame
  FaultOfFields w type.no_fields es p k q = ⊥
  FaultOfFields w (field name T more) es p k q =
      OrElse (LeftOut name T es p) (OrElse (FirstOf (λ e k q. IsFor name e × FirstFault w w T e.value k q) es) (FaultOfFields w more es p)) k q

  -- a payload that is there and not expected, or expected and not there, or its fault
  pub FirstOfPayload : Order → List ℕ → MaybeType → MaybePlaced → Range ℕ → Blame
  FirstOfPayload w name no_type payload p k q = NoneExpected name payload p k q
  FirstOfPayload w name (a_type T) payload p k q = OneExpected name payload p (FirstFault w w T) k q

  -- a tree that would stand for `ok` of itself
  pub FirstOfFlat : Order → Order → MaybeType → SpannedTree → Blame
  FirstOfFlat o w no_type t k q = IsRefusalOf InvalidType (span_of t) k q
  FirstOfFlat o w (a_type T) t k q = (IsFlat T → ⊥) × IsRefusalOf InvalidType (span_of t) k q ⊎ IsFlat T × FirstFault o w T t k q

  -- the first item that has a fault at its type, as far as there are items and types
  pub FirstItem : Order → Types → List SpannedTree → Blame
  FirstItem w no_types items k q = ⊥
  FirstItem w (type_and T more) [] k q = ⊥
  FirstItem w (type_and T more) (t ∷ others) k q = OrElse (FirstFault w w T t) (FirstItem w more others) k q

  -- a case that the variant hasn't, or a fault of the payload of the first case of this name
  pub FirstOfCase : Order → Cases → List ℕ → MaybePlaced → Range ℕ → Blame
  FirstOfCase w no_cases name payload p k q = RefusesFor (unknown_case name) p k q
  FirstOfCase w (case_of other T more) name payload p k q =
      (name ≡ other) × FirstOfPayload w name T payload p k q
      ⊎ (name ≢ other) × FirstOfCase w more name payload p k q
