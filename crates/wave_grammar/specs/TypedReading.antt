-- What reading a node at a type answers.
use Rattle.std.specs.Prelude.{ℕ, ◌≡◌, ◌⊎◌, List, Result, Ok, Err, IfOk, IfErr, MatchResult}
use Rattle.std.specs.declared.ops.Range.{Range}
use Rattle.wave_wasm.specs.Types as type
use Rattle.wave_wasm.specs.Types.{TypeTree, Simple, HasDistinctNames}
use Rattle.wave_wasm.specs.Keywords.{keyword_text}
use Rattle.wave_wasm.specs.declared.keyword.Keyword.{Keyword}
use Rattle.wave_wasm.specs.Values as value
use Rattle.wave_wasm.specs.Values.{Value, Leaf}
use Rattle.wave_wasm.specs.ValueErrors.{cause_of}
use Rattle.wave_wasm.specs.ConstructorContracts.{MakesLeaf, FullLeaf}
use Rattle.wave_wasm.specs.declared.wasm.WasmValueError as causes
use Rattle.wave_lex.specs.Errors.{Diagnostic, refusal_of, refused_by}
use Rattle.wave_lex.specs.declared.error.ParserErrorKind.TheVariants.{OutOfMemory, WasmValueError}
use Rattle.wave_grammar.specs.SpannedTree.{SpannedTree, tree_of, slice}
use Rattle.wave_grammar.specs.NodeTree.{NodeTree, type_of, place_of}
use Rattle.wave_grammar.specs.declared.form.NodeType.TheVariants as node_kind
use Rattle.wave_grammar.specs.Nodes.{IsNodeOf, IsTokenOf}
use Rattle.wave_grammar.specs.Token.{Token}
use Rattle.wave_grammar.specs.LeafTokens.{Spells}
use Rattle.wave_grammar.specs.Elaborates.{TreeReads}
use Rattle.wave_grammar.specs.TypeErrors.{LoneKeyFault, SpellsNoLeaf}
use Rattle.wave_grammar.specs.FaultOrder.{Order, by_type, FirstFault}

-- the type gives the tree the value, which is of the type; V is the Rust type of foreign values, `tree` says what one means, `of` when it is of a type
pub record IsTypedValue {V : Type 0} (tree : V → Value) (of : V → TypeTree → Type 0) (T : TypeTree) (t : SpannedTree) (v : V) : Type 0 where
  pub reads : TreeReads T (tree_of t) (tree v)
  pub is_of : of v T

-- out of memory; or the fault of the tree that is answered in these orders; or, where constructors do not serve all values of the type, the refusal of one
abbrev pub IsBlamed : (TypeTree → Type 0) → Order → Order → TypeTree → SpannedTree → Diagnostic → Type 0
IsBlamed Full o w T t e =
    (e.kind ≡ OutOfMemory) ⊎ FirstFault o w T t (refusal_of e) e.span ⊎ (e.kind ≡ WasmValueError) × (Full T → ⊥)

-- the type gives the tree no value
abbrev pub ReadsNone : TypeTree → SpannedTree → Type 0
ReadsNone T t = (v : Value) → TreeReads T (tree_of t) v → ⊥

-- so in one order, and a fault stands only where the type gives the tree no value
abbrev pub IsTypeError : (TypeTree → Type 0) → Order → TypeTree → SpannedTree → Diagnostic → Type 0
IsTypeError Full o T t e =
    (e.kind ≡ OutOfMemory) ⊎ FirstFault o o T t (refusal_of e) e.span × ReadsNone T t ⊎ (e.kind ≡ WasmValueError) × (Full T → ⊥)

-- the node is that of a value
abbrev pub IsValueOf : List ℕ → NodeTree → Type 0
IsValueOf source n = (t : SpannedTree) × IsNodeOf source n t

-- the node is that of a key
abbrev pub IsKeyOf : List ℕ → NodeTree → Type 0
IsKeyOf source n = (p : Range ℕ) × (key : Token) × IsTokenOf source n p key

-- the node is a label that is a keyword's word, as a key may be and no value is
abbrev pub IsKeywordOf : List ℕ → NodeTree → Type 0
IsKeywordOf source n = (type_of n ≡ node_kind.Label) × (k : Keyword) × (slice source (place_of n) ≡ keyword_text k)

-- the key spells the value, which is of the simple type
pub record IsKeyRead {V : Type 0} (tree : V → Value) (of : V → TypeTree → Type 0) (K : Simple) (key : Token) (v : V) : Type 0 where
  pub leaf : Leaf
  pub spells : Spells K key leaf
  pub means : tree v ≡ value.leaf leaf
  pub is_of : of v (type.simple K)

-- out of memory; or a fault of the key, which stands there; or, where constructors do not serve all values of the type, the refusal of one
abbrev pub IsKeyBlamed : (TypeTree → Type 0) → Simple → Range ℕ → Token → Diagnostic → Type 0
IsKeyBlamed Full K p key e =
    (e.kind ≡ OutOfMemory) ⊎ LoneKeyFault K p key (refusal_of e) e.span ⊎ (e.kind ≡ WasmValueError) × (Full (type.simple K) → ⊥)

-- so, and a fault stands only where the key spells no value of the type
abbrev pub IsKeyError : (TypeTree → Type 0) → Simple → Range ℕ → Token → Diagnostic → Type 0
IsKeyError Full K p key e =
    (e.kind ≡ OutOfMemory) ⊎ LoneKeyFault K p key (refusal_of e) e.span × SpellsNoLeaf K key ⊎ (e.kind ≡ WasmValueError) × (Full (type.simple K) → ⊥)

-- the value that was made; or the refusal of its constructor, at the node
abbrev pub IsBuilt : {V : Type 0} → NodeTree → Result V causes.WasmValueError → Result V Diagnostic → Type 0
IsBuilt n (Ok v) (Ok w) = w ≡ v
IsBuilt n (Err cause) (Err e) = (refusal_of e ≡ refused_by (cause_of cause)) × (e.span ≡ place_of n)
IsBuilt n _ _ = ⊥

module _ {V : Type 0} (tree : V → Value) (of : V → TypeTree → Type 0) (Full : TypeTree → Type 0) where
  -- what a constructor answered for the leaf: the value, or a refusal at the node
  abbrev pub IsLeafBuilt : Leaf → NodeTree → Result V Diagnostic → Type 0
  IsLeafBuilt one n r = (built : Result V causes.WasmValueError) × IfOk built (MakesLeaf tree of one) × IfErr built (FullLeaf Full one) × IsBuilt n built r

  -- the value of the node's key at the simple type, or a refusal of it
  abbrev pub AnswersKey : TypeTree → List ℕ → NodeTree → Result V Diagnostic → Type 0
  AnswersKey T source n r =
      (K : Simple) (p : Range ℕ) (key : Token) → T ≡ type.simple K → IsTokenOf source n p key
      → MatchResult r (IsKeyRead tree of K key) (IsKeyBlamed Full K p key)

  -- the value of the node's tree at the type, or its refusal: a fault is the first as the type is gone through, and stands only where there is no value
  abbrev pub ReadsAtType : TypeTree → List ℕ → NodeTree → Result V Diagnostic → Type 0
  ReadsAtType T source n r = (t : SpannedTree) → IsNodeOf source n t → HasDistinctNames T → MatchResult r (IsTypedValue tree of T t) (IsTypeError Full by_type T t)

  -- so of the node's key at the simple type
  abbrev pub ReadsKey : TypeTree → List ℕ → NodeTree → Result V Diagnostic → Type 0
  ReadsKey T source n r =
      (K : Simple) (p : Range ℕ) (key : Token) → T ≡ type.simple K → IsTokenOf source n p key
      → MatchResult r (IsKeyRead tree of K key) (IsKeyError Full K p key)

module _ {V : Type 0} (tree : V → Value) (of : V → TypeTree → Type 0) (Full : TypeTree → Type 0) (o w : Order) where
  -- the value of the node's tree at the type, or its refusal in these orders
  abbrev pub Answers : TypeTree → List ℕ → NodeTree → Result V Diagnostic → Type 0
  Answers T source n r = (t : SpannedTree) → IsNodeOf source n t → HasDistinctNames T → MatchResult r (IsTypedValue tree of T t) (IsBlamed Full o w T t)
