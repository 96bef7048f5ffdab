-- What reading a part of a node at its type answers: an item, a key, a number, a payload. Users need not read it.
use Rattle.std.specs.Prelude.{ℕ, ℤ, ◌≡◌, ◌≢◌, ◌⊎◌, List, [], Option, Some, None, option_map, Result, Ok, Err, MatchResult}
use Rattle.std.specs.Result.{IsErrAnd}
use Rattle.wave_wasm.specs.Lists.{AllOf}
use Rattle.wave_wasm.specs.Names.{AreDistinct}
use Rattle.wave_wasm.specs.Types as type
use Rattle.wave_wasm.specs.Types.{TypeTree, MaybeType, Simple, Whole, whole_kind, list_length, type_option, maybe_type, EachNamesOfMaybe}
use Rattle.wave_wasm.specs.declared.wasm.WasmTypeKind.{WasmTypeKind}
use Rattle.wave_wasm.specs.Values as value
use Rattle.wave_wasm.specs.Values.{Value, maybe_value}
use Rattle.wave_wasm.specs.TypeText.{kind_word}
use Rattle.wave_wasm.specs.ValueErrors.{Cause, unsupported_type, wrong_length}
use Rattle.wave_wasm.specs.ConstructorContracts.{PayloadIsOf, payload_and}
use Rattle.std.specs.declared.ops.Range.{Range}
use Rattle.wave_lex.specs.Errors.{Diagnostic, refusal_of}
use Rattle.wave_lex.specs.declared.error.ParserErrorKind.TheVariants.{OutOfMemory, WasmValueError}
use Rattle.wave_grammar.specs.SpannedTree.{MaybePlaced, no_placed, a_placed, maybe_of}
use Rattle.wave_grammar.specs.NodeTree.{NodeTree, place_of}
use Rattle.wave_grammar.specs.Nodes.{IsNodeOf, IsTokenOf}
use Rattle.wave_grammar.specs.NodeAccessors.{GivesNumber}
use Rattle.wave_grammar.specs.Elaborates.{TreeReadsPayload}
use Rattle.wave_grammar.specs.Token.{Token}
use Rattle.wave_grammar.specs.TypeErrors.{MapKeyFault, RefusesFor}
use Rattle.wave_grammar.specs.FaultOrder.{Order, FirstOfPayload}
use Rattle.wave_grammar.specs.TypedReading.{IsKeyRead, IsLeafBuilt}

-- a refusal with this cause at the node, or for lack of memory
abbrev pub IsCaused : Cause → NodeTree → Diagnostic → Type 0
IsCaused cause n e = (e.kind ≡ OutOfMemory) ⊎ RefusesFor cause (place_of n) (refusal_of e) e.span

-- where the type is a fixed-length list, it has this number of elements
abbrev pub IsOfLength : TypeTree → ℕ → Type 0
IsOfLength T got = (want : ℕ) → list_length T ≡ Some want → got ≡ want

-- the type is a fixed-length list of another number of elements, and the refusal says so at the node
abbrev pub IsOtherLength : TypeTree → ℕ → NodeTree → Diagnostic → Type 0
IsOtherLength T got n e =
    (want : ℕ) × (list_length T ≡ Some want) × (got ≢ want) × RefusesFor (wrong_length want got) (place_of n) (refusal_of e) e.span

-- out of memory; or a fault of the key of a map, which stands there; or, where constructors do not serve all values of the type, the refusal of one
abbrev pub IsMapKeyBlamed : (TypeTree → Type 0) → Simple → Range ℕ → Token → Diagnostic → Type 0
IsMapKeyBlamed Full K p key e =
    (e.kind ≡ OutOfMemory) ⊎ MapKeyFault K p key (refusal_of e) e.span ⊎ (e.kind ≡ WasmValueError) × (Full (type.simple K) → ⊥)

module _ {V : Type 0} (tree : V → Value) (of : V → TypeTree → Type 0) (Full : TypeTree → Type 0) where
  -- the value of the key of a map at the simple type, or a refusal of it
  abbrev pub AnswersMapKey : TypeTree → List ℕ → NodeTree → Result V Diagnostic → Type 0
  AnswersMapKey T source n r =
      (K : Simple) (p : Range ℕ) (key : Token) → T ≡ type.simple K → IsTokenOf source n p key
      → MatchResult r (IsKeyRead tree of K key) (IsMapKeyBlamed Full K p key)

  -- what a constructor answered for the node's number, which is one of this type; or the refusal of a node of none
  abbrev pub IsWholeRead : Whole → List ℕ → NodeTree → Result V Diagnostic → Type 0
  IsWholeRead which source n r =
      ((z : ℤ) × GivesNumber which (λ (x : ℤ). x) source n (Ok z) × IsLeafBuilt tree of Full (value.whole which z) n r)
      ⊎ ((e : Diagnostic) × GivesNumber which (λ (x : ℤ). x) source n (Err e) × IsErrAnd r (λ f. f ≡ e))

  -- so at the whole type of the kind; at another kind a refusal because its values can't be read
  abbrev pub AnswersWhole : WasmTypeKind → List ℕ → NodeTree → Result V Diagnostic → Type 0
  AnswersWhole kind source n r =
      ((which : Whole) → kind ≡ whole_kind which → IsWholeRead which source n r)
      × (((which : Whole) → kind ≢ whole_kind which) → IsErrAnd r (λ e. IsCaused (unsupported_type (kind_word kind)) n e × (e.span ≡ place_of n)))

-- the node of a payload, where there is one
abbrev pub IsPayloadNodeOf : List ℕ → Option NodeTree → MaybePlaced → Type 0
IsPayloadNodeOf source None no_placed = Unit {0}
IsPayloadNodeOf source (Some n) (a_placed t) = IsNodeOf source n t
IsPayloadNodeOf source _ _ = ⊥

-- so for some payload
abbrev pub IsPayloadOf : List ℕ → Option NodeTree → Type 0
IsPayloadOf source o = (payload : MaybePlaced) × IsPayloadNodeOf source o payload

-- the type of a payload gives it the value, which is of the type; there is a value where there is a type
pub record IsPayloadRead {V : Type 0} (tree : V → Value) (of : V → TypeTree → Type 0) (T : MaybeType) (payload : MaybePlaced) (v : Option V) : Type 0 where
  pub reads : TreeReadsPayload T (maybe_of payload) (maybe_value (option_map tree v))
  pub is_of : PayloadIsOf of (type_option T) v

-- as `IsBlamed`, of the payload of the case of this name at the node
abbrev pub IsPayloadBlamed : (TypeTree → Type 0) → Order → List ℕ → MaybeType → NodeTree → MaybePlaced → Diagnostic → Type 0
IsPayloadBlamed Full w name T n payload e =
    (e.kind ≡ OutOfMemory) ⊎ FirstOfPayload w name T payload (place_of n) (refusal_of e) e.span ⊎ (e.kind ≡ WasmValueError) × (AllOf Full (payload_and T []) → ⊥)

module _ {V : Type 0} (tree : V → Value) (of : V → TypeTree → Type 0) (Full : TypeTree → Type 0) (w : Order) where
  -- the payload of the case of this name at its type, or a refusal of it
  abbrev pub AnswersPayload : List ℕ → Option TypeTree → List ℕ → NodeTree → Option NodeTree → Result (Option V) Diagnostic → Type 0
  AnswersPayload name T source n inner r =
      (payload : MaybePlaced) → IsPayloadNodeOf source inner payload → EachNamesOfMaybe AreDistinct (maybe_type T)
      → MatchResult r (IsPayloadRead tree of (maybe_type T) payload) (IsPayloadBlamed Full w name (maybe_type T) n payload)
