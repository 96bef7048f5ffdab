-- Why a type gives a tree no value.
use Rattle.std.specs.Prelude.{ℕ, ◌+◌, ◌≡◌, ◌≢◌, ◌⊎◌, ◌++◌, Bool, List, [], ◌∷◌, length, Option, Some, None, codes}
use Rattle.std.specs.declared.ops.Range.{Range}
use Rattle.wave_wasm.specs.Lists.{SomeOf}
use Rattle.wave_wasm.specs.Names.{IsOneOf, IsNoneOf}
use Rattle.wave_wasm.specs.Types as type
use Rattle.wave_wasm.specs.Types.{TypeTree, MaybeType, Types, Fields, Cases, Simple}
use Rattle.wave_wasm.specs.Types.{no_type, a_type, no_types, type_and, field, no_cases, case_of, field_names, count_of}
use Rattle.wave_wasm.specs.Values.{Leaf}
use Rattle.wave_wasm.specs.Text.{bool_text}
use Rattle.wave_wasm.specs.TypeText.{kind_word, type_text}
use Rattle.wave_wasm.specs.ValueErrors.{Cause, missing_field, missing_payload, unexpected_payload, unknown_case, wrong_number, wrong_length, unsupported_type}
use Rattle.wave_lex.specs.declared.error.ParserErrorKind.{ParserErrorKind}
use Rattle.wave_lex.specs.declared.error.ParserErrorKind.TheVariants.{InvalidType, InvalidValue, InvalidEscape, DuplicateField}
use Rattle.wave_lex.specs.Errors.{Refusal, with_detail, caused, fault_detail, field_label_expected, repeated_name}
use Rattle.wave_lex.specs.Tokenization.{span}
use Rattle.wave_lex.specs.Strings.{IsInQuotes, IsBadEscapeAt}
use Rattle.wave_lex.specs.Multiline.{LineFault, MultilineFault, IsInThreeQuotes, fault_kind, fault_span}
use Rattle.wave_grammar.specs.Token.{Token}
use Rattle.wave_grammar.specs.Token as token
use Rattle.wave_grammar.specs.LeafTokens.{Spells, name_of}
use Rattle.wave_grammar.specs.TypedGrammar.{IsFlat, IsOption}
use Rattle.wave_grammar.specs.SpannedTree.{SpannedTree, SpannedShape, one, tuple, list, empty_braces, no_fields, entries, flags, label, none, some, ok, err}
use Rattle.wave_grammar.specs.SpannedTree.{MaybePlaced, no_placed, a_placed, PlacedEntry, span_of, shape_of, placed_list, entry_list}

-- which refusals a fault gives, and at which span
abbrev pub Blame : Type 1
Blame = Refusal → Range ℕ → Type 0

-- this kind with this detail, at this span
abbrev pub RefusesWith : ParserErrorKind → Option (List ℕ) → Range ℕ → Blame
RefusesWith kind detail p k q = (k ≡ with_detail kind detail) × (q ≡ p)

-- this kind without a detail, at this span
abbrev pub IsRefusalOf : ParserErrorKind → Range ℕ → Blame
IsRefusalOf kind p = RefusesWith kind None p

-- `WasmValueError` with this cause, at this span
abbrev pub RefusesFor : Cause → Range ℕ → Blame
RefusesFor cause p k q = (k ≡ caused cause) × (q ≡ p)

-- of a form that the type takes, the fault within; of another form, `InvalidType` at the node
abbrev pub OfForm : {A : Type 0} → Option A → Range ℕ → (A → Blame) → Blame
OfForm None p Within k q = IsRefusalOf InvalidType p k q
OfForm (Some a) p Within k q = Within a k q

-- ---- leaves

-- the token's form is that of the simple type, whatever its text; the words `inf` and `nan` are numbers
abbrev pub IsForm : Simple → Token → Type 0
IsForm type.bool t = (b : Bool) × (t ≡ token.label (bool_text b))
IsForm (type.whole kind) t = (text : List ℕ) × ((t ≡ token.number text) ⊎ (t ≡ token.label text) × IsOneOf (codes "inf" ∷ codes "nan" ∷ []) text)
IsForm type.char t = (text : List ℕ) × (t ≡ token.char text)
IsForm type.string t = (text : List ℕ) × ((t ≡ token.string text) ⊎ (t ≡ token.multiline text))

-- the token spells no value of the simple type
abbrev pub SpellsNoLeaf : Simple → Token → Type 0
SpellsNoLeaf S t = (one : Leaf) → Spells S t one → ⊥

-- what is wrong with the text of a token of the right form: a number that doesn't fit, a bad escape, a bad line
abbrev pub StringFault : Simple → Range ℕ → Token → Blame
StringFault type.bool p t k q = ⊥
StringFault (type.whole kind) p t k q = SpellsNoLeaf (type.whole kind) t × IsRefusalOf InvalidValue p k q
StringFault type.char p t k q = SpellsNoLeaf type.char t × IsRefusalOf InvalidEscape p k q
StringFault type.string p t k q =
    ((text : List ℕ) × (inside : List ℕ) × (i : ℕ) × (t ≡ token.string text) × IsInQuotes text inside × IsBadEscapeAt inside i
    × IsRefusalOf InvalidEscape (span (p.start + 1 + i) (p.start + 2 + i)) k q)
    ⊎ ((text : List ℕ) × (inside : List ℕ) × (f : LineFault) × (t ≡ token.multiline text) × IsInThreeQuotes text inside × MultilineFault inside f
    × RefusesWith (fault_kind f) (fault_detail f) (fault_span (p.start + 3) (length inside) f) k q)

-- what is wrong with a leaf at a simple type
abbrev pub LeafFault : Simple → Range ℕ → Token → Blame
LeafFault S p t k q = (IsForm S t → ⊥) × IsRefusalOf InvalidType p k q ⊎ IsForm S t × StringFault S p t k q

-- the names that a key gives: that of a label, and no other
abbrev pub names_in : Token → List (List ℕ)
names_in (token.label text) = name_of text ∷ []
names_in _ = []

-- what is wrong with a key that is read by itself: a label that spells no key, also `inf` and `nan`, is `InvalidType`; any other key is as a leaf
abbrev pub LoneKeyFault : Simple → Range ℕ → Token → Blame
LoneKeyFault K p t k q =
    (names_in t ≢ []) × SpellsNoLeaf K t × IsRefusalOf InvalidType p k q
    ⊎ (names_in t ≡ []) × LeafFault K p t k q

-- the detail of a label that spells no key, where keys of this type are expected
abbrev pub key_expected : TypeTree → List ℕ
key_expected T = codes "expected a " ++ (type_text T ++ codes " key, found a label")

-- so with a key of a map, where the refusal of a label says which key is expected
abbrev pub MapKeyFault : Simple → Range ℕ → Token → Blame
MapKeyFault K p t k q =
    (names_in t ≢ []) × SpellsNoLeaf K t × RefusesWith InvalidType (Some (key_expected (type.simple K))) p k q
    ⊎ (names_in t ≡ []) × LeafFault K p t k q

-- ---- forms

-- a leaf's token
abbrev pub one_in : SpannedShape → Option Token
one_in (one t) = Some t
one_in _ = None

-- a list's items
abbrev pub list_in : SpannedShape → Option (List SpannedTree)
list_in (list ts) = Some (placed_list ts)
list_in _ = None

-- a tuple's items
abbrev pub tuple_in : SpannedShape → Option (List SpannedTree)
tuple_in (tuple ts) = Some (placed_list ts)
tuple_in _ = None

-- the entries of a record: entries or `{:}`
abbrev pub record_in : SpannedShape → Option (List PlacedEntry)
record_in (entries es) = Some (entry_list es)
record_in no_fields = Some []
record_in _ = None

-- the entries of a map: entries, `{:}` or `{}`
abbrev pub map_in : SpannedShape → Option (List PlacedEntry)
map_in (entries es) = Some (entry_list es)
map_in no_fields = Some []
map_in empty_braces = Some []
map_in _ = None

-- the labels of flags: flags or `{}`
abbrev pub flags_in : SpannedShape → Option (List (Range ℕ × List ℕ))
flags_in (flags fs) = Some fs
flags_in empty_braces = Some []
flags_in _ = None

-- a label and its payload
abbrev pub label_in : SpannedShape → Option (List ℕ × MaybePlaced)
label_in (label p text payload) = Some (text, payload)
label_in _ = None

-- ---- records

-- a key that is no label: `InvalidType` at the key, whose detail says that a label is expected
abbrev pub KeyFault : List PlacedEntry → Blame
KeyFault es k q = SomeOf (λ e. (names_in e.key ≡ []) × RefusesWith InvalidType (Some field_label_expected) e.place k q) es

-- a label that is no field: `InvalidValue` at the record
abbrev pub UnknownField : List (List ℕ) → List PlacedEntry → Range ℕ → Blame
UnknownField names es p k q = SomeOf (λ e. SomeOf (IsNoneOf names) (names_in e.key)) es × IsRefusalOf InvalidValue p k q

-- a name that stands earlier, perhaps before a key that is no label: `DuplicateField` at the later key, whose detail is the name
abbrev pub RepeatedField : List (List ℕ) → List PlacedEntry → Blame
RepeatedField earlier [] k q = ⊥
RepeatedField earlier (e ∷ more) k q =
    SomeOf (λ name. IsOneOf earlier name × RefusesWith DuplicateField (Some (repeated_name name)) e.place k q) (names_in e.key)
    ⊎ RepeatedField (names_in e.key ++ earlier) more k q

-- the entry is for the field of this name
abbrev pub IsFor : List ℕ → PlacedEntry → Type 0
IsFor name e = names_in e.key ≡ name ∷ []

-- a field that is no option and has no entry: the cause `MissingField` at the record
abbrev pub MissingField : Fields → List PlacedEntry → Range ℕ → Blame
MissingField type.no_fields es p k q = ⊥
MissingField (field name T more) es p k q =
    (IsOption T → ⊥) × (SomeOf (IsFor name) es → ⊥) × RefusesFor (missing_field name) p k q
    ⊎ MissingField more es p k q

-- ---- payloads and flat forms

-- a payload where none is expected: the cause `UnexpectedPayload` at the node
abbrev pub NoneExpected : List ℕ → MaybePlaced → Range ℕ → Blame
NoneExpected name no_placed p k q = ⊥
NoneExpected name (a_placed t) p k q = RefusesFor (unexpected_payload name) p k q

-- no payload where one is expected: the cause `MissingPayload` at the node; or a fault of the payload
abbrev pub OneExpected : List ℕ → MaybePlaced → Range ℕ → (SpannedTree → Blame) → Blame
OneExpected name no_placed p Within k q = RefusesFor (missing_payload name) p k q
OneExpected name (a_placed t) p Within k q = Within t k q

-- at an option: a fault of the payload of `some`, none of `none`, or that of another form
abbrev pub OfOption : SpannedShape → (SpannedTree → Blame) → Blame → Blame
OfOption none Within Flat k q = ⊥
OfOption (some t) Within Flat k q = Within t k q
OfOption _ Within Flat k q = Flat k q

-- at a result: a fault of the payload of `ok`, of that of `err`, or that of another form
abbrev pub OfResult : SpannedShape → (MaybePlaced → Blame) → (MaybePlaced → Blame) → Blame → Blame
OfResult (ok payload) Ok Err Flat k q = Ok payload k q
OfResult (err payload) Ok Err Flat k q = Err payload k q
OfResult _ Ok Err Flat k q = Flat k q

-- ---- faults

-- some part that the type gives a type, or some key, stands for the refusal at the span
abbrev mutual
  pub Fault : TypeTree → SpannedTree → Blame
  Fault (type.simple S) t k q = OfForm (one_in (shape_of t)) (span_of t) (LeafFault S (span_of t)) k q
  Fault (type.unreadable kind) t k q = RefusesFor (unsupported_type (kind_word (type.unreadable_kind kind))) (span_of t) k q
  Fault (type.list E) t k q = OfForm (list_in (shape_of t)) (span_of t) (λ items k q. SomeOf (λ item. Fault E item k q) items) k q
  Fault (type.fixed E n) t k q =
      OfForm (list_in (shape_of t)) (span_of t)
      (λ items k q.
      (length items ≢ n) × RefusesFor (wrong_length n (length items)) (span_of t) k q
      ⊎ (length items ≡ n) × SomeOf (λ item. Fault E item k q) items) k q
  Fault (type.record_type fs) t k q =
      OfForm (record_in (shape_of t)) (span_of t)
      (λ es k q.
      KeyFault es k q ⊎ UnknownField (field_names fs) es (span_of t) k q ⊎ RepeatedField [] es k q
      ⊎ MissingField fs es (span_of t) k q ⊎ FaultOfField fs es k q) k q
  Fault (type.tuple Ts) t k q =
      OfForm (tuple_in (shape_of t)) (span_of t)
      (λ items k q. (length items ≢ count_of Ts) × RefusesFor (wrong_number (count_of Ts) (length items)) (span_of t) k q ⊎ FaultOfItem Ts items k q) k q
  Fault (type.variant cs) t k q = OfForm (label_in (shape_of t)) (span_of t) (λ l k q. FaultOfCase cs (name_of l.0) l.1 (span_of t) k q) k q
  Fault (type.enum names) t k q =
      OfForm (label_in (shape_of t)) (span_of t)
      (λ l k q.
      (l.1 ≢ no_placed) × IsRefusalOf InvalidType (span_of t) k q
      ⊎ (l.1 ≡ no_placed) × IsNoneOf names (name_of l.0) × RefusesFor (unknown_case (name_of l.0)) (span_of t) k q) k q
  Fault (type.option P) t k q =
      OfOption (shape_of t) (Fault P)
      ((λ k q. (IsFlat P → ⊥) × IsRefusalOf InvalidType (span_of t) k q ⊎ IsFlat P × Fault P t k q)) k q
  Fault (type.result A B) t k q =
      OfResult (shape_of t)
      (λ payload. FaultOfPayload (codes "ok") A payload (span_of t)) (λ payload. FaultOfPayload (codes "err") B payload (span_of t))
      (FaultOfFlat A t) k q
  Fault (type.flags names) t k q =
      OfForm (flags_in (shape_of t)) (span_of t)
      (λ fs k q. SomeOf (λ f. IsNoneOf names (name_of f.1) × RefusesFor (unknown_case (name_of f.1)) (span_of t) k q) fs) k q
  Fault (type.map K V) t k q =
      OfForm (map_in (shape_of t)) (span_of t)
      (λ es k q. SomeOf (λ e. MapKeyFault K e.place e.key k q ⊎ Fault V e.value k q) es) k q

  -- a payload that is there and not expected, or expected and not there, or a fault of it
  pub FaultOfPayload : List ℕ → MaybeType → MaybePlaced → Range ℕ → Blame
  FaultOfPayload name no_type payload p k q = NoneExpected name payload p k q
  FaultOfPayload name (a_type T) payload p k q = OneExpected name payload p (Fault T) k q

  -- a tree that would stand for `ok` of itself
  pub FaultOfFlat : MaybeType → SpannedTree → Blame
  FaultOfFlat no_type t k q = IsRefusalOf InvalidType (span_of t) k q
  FaultOfFlat (a_type T) t k q = (IsFlat T → ⊥) × IsRefusalOf InvalidType (span_of t) k q ⊎ IsFlat T × Fault T t k q

  -- a fault of an item at its type, as far as there are items and types
  pub FaultOfItem : Types → List SpannedTree → Blame
  FaultOfItem no_types items k q = ⊥
  FaultOfItem (type_and T more) [] k q = ⊥
  FaultOfItem (type_and T more) (t ∷ others) k q = Fault T t k q ⊎ FaultOfItem more others k q

  -- a fault of an entry at its field's type; of a repeated name each entry counts
  pub FaultOfField : Fields → List PlacedEntry → Blame
  FaultOfField type.no_fields es k q = ⊥
  FaultOfField (field name T more) es k q = SomeOf (λ e. IsFor name e × Fault T e.value k q) es ⊎ FaultOfField more es k q

  -- a case that the variant hasn't, or a fault of the payload of the first case of this name
  pub FaultOfCase : Cases → List ℕ → MaybePlaced → Range ℕ → Blame
  FaultOfCase no_cases name payload p k q = RefusesFor (unknown_case name) p k q
  FaultOfCase (case_of other T more) name payload p k q =
      (name ≡ other) × FaultOfPayload name T payload p k q
      ⊎ (name ≢ other) × FaultOfCase more name payload p k q
