-- All faults of a tree at a type, in the order of the text.
use Rattle.std.specs.Prelude.{ℕ, ◌≡◌, ◌≢◌, ◌⊎◌, ◌++◌, List, [], ◌∷◌, length, Option, Some, None, codes}
use Rattle.std.specs.declared.ops.Range.{Range}
use Rattle.wave_wasm.specs.Lists.{AllOf}
use Rattle.wave_wasm.specs.Names.{IsOneOf, IsNoneOf}
use Rattle.wave_wasm.specs.Types as type
use Rattle.wave_wasm.specs.Types.{TypeTree, MaybeType, Types, Fields, Cases, Simple}
use Rattle.wave_wasm.specs.Types.{no_type, a_type, no_types, type_and, field, no_cases, case_of, field_names, count_of}
use Rattle.wave_wasm.specs.Values.{Leaf}
use Rattle.wave_wasm.specs.TypeText.{kind_word}
use Rattle.wave_wasm.specs.ValueErrors.{missing_payload, unknown_case, wrong_length, unsupported_type}
use Rattle.wave_lex.specs.Errors.{Diagnostic, refusal_of}
use Rattle.wave_lex.specs.declared.error.ParserErrorKind.TheVariants.{InvalidType}
use Rattle.wave_grammar.specs.Token.{Token}
use Rattle.wave_grammar.specs.LeafTokens.{Spells, name_of}
use Rattle.wave_grammar.specs.TypedGrammar.{IsFlat}
use Rattle.wave_grammar.specs.SpannedTree.{SpannedTree, SpannedShape, none, some, ok, err, MaybePlaced, no_placed, a_placed, PlacedEntry, span_of, shape_of}
use Rattle.wave_grammar.specs.TypeErrors.{Blame, Fault, IsRefusalOf, RefusesFor, LeafFault, MapKeyFault, names_in, IsFor, UnknownField, NoneExpected}
use Rattle.wave_grammar.specs.TypeErrors.{one_in, list_in, tuple_in, record_in, map_in, flags_in, label_in}
use Rattle.wave_grammar.specs.FaultOrder.{BlamesNothing, WrongCount, FaultOfKey, LeftOut}

-- which lists of errors these are
abbrev pub Telling : Type 1
Telling = List Diagnostic → Type 0

-- what is blamed, alone; none where nothing is
abbrev pub Alone : Blame → Telling
Alone A [] = BlamesNothing A
Alone A (e ∷ []) = A (refusal_of e) e.span
Alone A _ = ⊥

-- none
abbrev pub NoErrors : Telling
NoErrors list = list ≡ []

-- the ones, and behind them the others
abbrev pub Then : Telling → Telling → Telling
Then F G list = (xs : List Diagnostic) × (ys : List Diagnostic) × (list ≡ xs ++ ys) × F xs × G ys

-- those of each in turn
abbrev pub InTurn : {X : Type 0} → (X → Telling) → List X → Telling
InTurn F [] = NoErrors
InTurn F (x ∷ more) = Then (F x) (InTurn F more)

-- of a form that the type takes, those within; of another form, `InvalidType` at the node, alone
abbrev pub WithinForm : {A : Type 0} → Option A → Range ℕ → (A → Telling) → Telling
WithinForm None p Within = Alone (IsRefusalOf InvalidType p)
WithinForm (Some a) p Within = Within a

-- none where the token spells a value of the simple type, or else what is wrong with it
abbrev pub OfLeaf : Simple → Token → Blame → Telling
OfLeaf S token Wrong [] = (one : Leaf) × Spells S token one
OfLeaf S token Wrong (e ∷ []) = Wrong (refusal_of e) e.span
OfLeaf S token Wrong _ = ⊥

-- ---- records

-- a label that is no field, where the names before it are: at the record, which is refused once for all such labels
abbrev pub FirstUnknown : List (List ℕ) → List (List ℕ) → PlacedEntry → Range ℕ → Blame
FirstUnknown names earlier e p k q = AllOf (IsOneOf names) earlier × UnknownField names (e ∷ []) p k q

-- of each entry: what is wrong with its key, that it is for no field, and the faults of its value
abbrev pub OfEntries : List (List ℕ) → (PlacedEntry → Telling) → List (List ℕ) → List PlacedEntry → Range ℕ → Telling
OfEntries names Within earlier [] p = NoErrors
OfEntries names Within earlier (e ∷ more) p =
    Then (Alone (FaultOfKey earlier e))
    (Then (Alone (FirstUnknown names earlier e p)) (Then (Within e) (OfEntries names Within (names_in e.key ++ earlier) more p)))

-- each field that is left out
abbrev pub EachLeftOut : Fields → List PlacedEntry → Range ℕ → Telling
EachLeftOut type.no_fields es p = NoErrors
EachLeftOut (field name T more) es p = Then (Alone (LeftOut name T es p)) (EachLeftOut more es p)

-- ---- options and results

-- at an option: those of the payload of `some`, none of `none`, or those of another form
abbrev pub AtOption : SpannedShape → (SpannedTree → Telling) → Telling → Telling
AtOption none Within Flat = NoErrors
AtOption (some t) Within Flat = Within t
AtOption _ Within Flat = Flat

-- at a result: those of the payload of `ok`, of that of `err`, or those of another form
abbrev pub AtResult : SpannedShape → (MaybePlaced → Telling) → (MaybePlaced → Telling) → Telling → Telling
AtResult (ok payload) Ok Err Flat = Ok payload
AtResult (err payload) Ok Err Flat = Err payload
AtResult _ Ok Err Flat = Flat

-- ---- the table

-- all faults of the tree at the type: the parts are gone through as their tokens stand, and what is wrong with the whole comes last
abbrev mutual
  pub AreFaults : TypeTree → SpannedTree → Telling
  AreFaults (type.simple S) t = WithinForm (one_in (shape_of t)) (span_of t) (λ token. OfLeaf S token (LeafFault S (span_of t) token))
  AreFaults (type.unreadable kind) t = Alone (RefusesFor (unsupported_type (kind_word (type.unreadable_kind kind))) (span_of t))
  AreFaults (type.list E) t = WithinForm (list_in (shape_of t)) (span_of t) (λ items. InTurn (λ item. AreFaults E item) items)
  AreFaults (type.fixed E n) t =
      WithinForm (list_in (shape_of t)) (span_of t)
      (λ items list.
      (length items ≢ n) × Alone (RefusesFor (wrong_length n (length items)) (span_of t)) list
      ⊎ (length items ≡ n) × InTurn (λ item. AreFaults E item) items list)
  AreFaults (type.record_type fs) t =
      WithinForm (record_in (shape_of t)) (span_of t)
      (λ es. Then (OfEntries (field_names fs) (λ e. AreFaultsOfValue fs e) [] es (span_of t)) (EachLeftOut fs es (span_of t)))
  AreFaults (type.tuple Ts) t =
      WithinForm (tuple_in (shape_of t)) (span_of t)
      (λ items. Then (AreFaultsOfItems Ts items) (Alone (WrongCount (count_of Ts) (length items) (span_of t))))
  AreFaults (type.variant cs) t = WithinForm (label_in (shape_of t)) (span_of t) (λ l. AreFaultsOfCase cs (name_of l.0) l.1 (span_of t))
  AreFaults (type.enum names) t = Alone (Fault (type.enum names) t)
  AreFaults (type.option P) t =
      AtOption (shape_of t) (λ u. AreFaults P u)
      (λ list. (IsFlat P → ⊥) × Alone (IsRefusalOf InvalidType (span_of t)) list ⊎ IsFlat P × AreFaults P t list)
  AreFaults (type.result A B) t =
      AtResult (shape_of t)
      (λ payload. AreFaultsOfPayload (codes "ok") A payload (span_of t)) (λ payload. AreFaultsOfPayload (codes "err") B payload (span_of t))
      (AreFaultsAlone A t)
  AreFaults (type.flags names) t =
      WithinForm (flags_in (shape_of t)) (span_of t)
      (λ fs. InTurn (λ f. Alone (λ k q. IsNoneOf names (name_of f.1) × RefusesFor (unknown_case (name_of f.1)) (span_of t) k q)) fs)
  AreFaults (type.map K V) t =
      WithinForm (map_in (shape_of t)) (span_of t)
      (λ es. InTurn (λ e. Then (OfLeaf K e.key (MapKeyFault K e.place e.key)) (AreFaults V e.value)) es)

  -- those of an entry's value, at the type of the first field that it is for
  pub AreFaultsOfValue : Fields → PlacedEntry → Telling
  AreFaultsOfValue type.no_fields e = NoErrors
  AreFaultsOfValue (field name T more) e = λ list. IsFor name e × AreFaults T e.value list ⊎ (IsFor name e → ⊥) × AreFaultsOfValue more e list

  -- that a payload is there and not expected, or expected and not there; or those of the payload
  pub AreFaultsOfPayload : List ℕ → MaybeType → MaybePlaced → Range ℕ → Telling
  AreFaultsOfPayload name no_type payload p = Alone (NoneExpected name payload p)
  AreFaultsOfPayload name (a_type T) no_placed p = Alone (RefusesFor (missing_payload name) p)
  AreFaultsOfPayload name (a_type T) (a_placed t) p = AreFaults T t

  -- those of a tree that would stand for `ok` of itself
  pub AreFaultsAlone : MaybeType → SpannedTree → Telling
  AreFaultsAlone no_type t = Alone (IsRefusalOf InvalidType (span_of t))
  AreFaultsAlone (a_type T) t = λ list. (IsFlat T → ⊥) × Alone (IsRefusalOf InvalidType (span_of t)) list ⊎ IsFlat T × AreFaults T t list

  -- those of each item at its type, as far as there are items and types
  pub AreFaultsOfItems : Types → List SpannedTree → Telling
  AreFaultsOfItems no_types items = NoErrors
  AreFaultsOfItems (type_and T more) [] = NoErrors
  AreFaultsOfItems (type_and T more) (t ∷ others) = Then (AreFaults T t) (AreFaultsOfItems more others)

  -- that the variant hasn't the case, or those of the payload of the first case of this name
  pub AreFaultsOfCase : Cases → List ℕ → MaybePlaced → Range ℕ → Telling
  AreFaultsOfCase no_cases name payload p = Alone (RefusesFor (unknown_case name) p)
  AreFaultsOfCase (case_of other T more) name payload p =
      λ list.
      (name ≡ other) × AreFaultsOfPayload name T payload p list
      ⊎ (name ≢ other) × AreFaultsOfCase more name payload p list
