-- Whole numbers, as values and as keys.
use Rattle.std.proofs.Common.{ℕ, ℤ, ◌≡◌, ◌≢◌, ◌⊎◌, inl, inr, Bool, true, false, List, Some, Result, Ok, Err, IfOk, IfErr, MatchResult, refl, sym, ap, ◌∙◌, subst}
use Rattle.std.specs.Result.{IsErrAnd}
use Rattle.std.specs.declared.ops.Range.{Range}
use Rattle.wave_wasm.specs.Types as type
use Rattle.wave_wasm.specs.Types.{TypeTree, Simple, Whole, whole_kind, kind_of}
use Rattle.wave_wasm.specs.TypeText.{kind_word}
use Rattle.wave_wasm.specs.Values as value
use Rattle.wave_wasm.specs.Values.{Value}
use Rattle.wave_wasm.specs.ValueErrors.{unsupported_type}
use Rattle.wave_wasm.specs.ConstructorContracts.{MakesLeaf, FullLeaf}
use Rattle.wave_wasm.specs.declared.wasm.WasmTypeKind.{WasmTypeKind}
use Rattle.wave_wasm.specs.declared.wasm.WasmTypeKind.TheVariants as kinds
use Rattle.wave_wasm.specs.declared.wasm.WasmValueError.{WasmValueError}
use Rattle.wave_lex.specs.Errors.{Diagnostic}
use Rattle.wave_grammar.specs.Token.{Token}
use Rattle.wave_grammar.specs.SpannedTree.{SpannedTree}
use Rattle.wave_grammar.specs.FaultOrder.{Order}
use Rattle.wave_grammar.specs.NodeTree.{NodeTree, place_of}
use Rattle.wave_grammar.specs.Nodes.{placed_of, IsTokenOf}
use Rattle.wave_grammar.specs.NodeAccessors.{GivesNumber}
use Rattle.wave_grammar.specs.ErrorSpans.{RefusesAt}
use Rattle.wave_grammar.specs.TypedReading.{IsTypedValue, IsBlamed, IsKeyRead, IsKeyBlamed, IsBuilt}
use Rattle.wave_grammar.specs.PartReading.{IsCaused, IsWholeRead, AnswersWhole}
use Rattle.wave_grammar.proofs.ByKind.MakerAnswers.{faulty, leaf_built}
use Rattle.wave_grammar.proofs.ByKind.Keys.{number_key, no_number_key, key_built, key_faulty}
use Rattle.wave_grammar.proofs.ByKind.Leaves.{number_read, number_blame}
use Rattle.wave_grammar.proofs.ErrorSpans.Nodes.{number_at, leaf_at, caused_at}
use Rattle.wave_grammar.proofs.ByKind.Unreadable.{IsUnread, unread_blame}
use Rattle.wave_wasm.proofs.TypesOfValues.TypeOfKind.{simple_is}

-- ---- kinds

-- the kind is that of a whole type
abbrev is_whole_kind : WasmTypeKind → Bool
is_whole_kind kinds.S8 = true
is_whole_kind kinds.S16 = true
is_whole_kind kinds.S32 = true
is_whole_kind kinds.S64 = true
is_whole_kind kinds.U8 = true
is_whole_kind kinds.U16 = true
is_whole_kind kinds.U32 = true
is_whole_kind kinds.U64 = true
is_whole_kind _ = false

whole_is : (which : Whole) → is_whole_kind (whole_kind which) ≡ true
whole_is type.s8 = refl
whole_is type.s16 = refl
whole_is type.s32 = refl
whole_is type.s64 = refl
whole_is type.u8 = refl
whole_is type.u16 = refl
whole_is type.u32 = refl
whole_is type.u64 = refl

not_whole : (k : WasmTypeKind) → is_whole_kind k ≡ false → (which : Whole) → k ≢ whole_kind which
not_whole k is which e = cc (sym is ∙ (ap is_whole_kind e ∙ whole_is which))

-- the whole type of the kind, or the kind is that of none
whole_of : (k : WasmTypeKind) → ((which : Whole) × (k ≡ whole_kind which)) ⊎ ((which : Whole) → k ≢ whole_kind which)
whole_of kinds.S8 = inl (type.s8, refl)
whole_of kinds.S16 = inl (type.s16, refl)
whole_of kinds.S32 = inl (type.s32, refl)
whole_of kinds.S64 = inl (type.s64, refl)
whole_of kinds.U8 = inl (type.u8, refl)
whole_of kinds.U16 = inl (type.u16, refl)
whole_of kinds.U32 = inl (type.u32, refl)
whole_of kinds.U64 = inl (type.u64, refl)
whole_of k = inr (not_whole k refl)

-- a kind is that of one whole type at most
whole_once : (a b : Whole) → whole_kind a ≡ whole_kind b → a ≡ b
whole_once a b e = let same = simple_is (type.whole a) (type.simple (type.whole b)) e in cc

-- none of the kinds of whole types
pub record IsNoWhole (k : WasmTypeKind) : Type 0 where
  pub s8 : k ≢ kinds.S8
  pub s16 : k ≢ kinds.S16
  pub s32 : k ≢ kinds.S32
  pub s64 : k ≢ kinds.S64
  pub u8 : k ≢ kinds.U8
  pub u16 : k ≢ kinds.U16
  pub u32 : k ≢ kinds.U32
  pub u64 : k ≢ kinds.U64

of_none : (k : WasmTypeKind) → IsNoWhole k → (which : Whole) → k ≢ whole_kind which
of_none k apart type.s8 = apart.s8
of_none k apart type.s16 = apart.s16
of_none k apart type.s32 = apart.s32
of_none k apart type.s64 = apart.s64
of_none k apart type.u8 = apart.u8
of_none k apart type.u16 = apart.u16
of_none k apart type.u32 = apart.u32
of_none k apart type.u64 = apart.u64

module _ {V : Type 0} (tree : V → Value) (of : V → TypeTree → Type 0) (Full : TypeTree → Type 0) where
  -- ---- what is answered at a kind

  answered : (k : WasmTypeKind) (which : Whole) (source : List ℕ) (n : NodeTree) (r : Result V Diagnostic) → k ≡ whole_kind which → IsWholeRead tree of Full which source n r → AnswersWhole tree of Full k source n r
  answered k which source n r is read =
      (λ other same. subst (λ (w : Whole). IsWholeRead tree of Full w source n r) (whole_once which other (sym is ∙ same)) read, λ none. absurd (none which is))

  -- what a constructor answered for the number
  pub whole_built : (k : WasmTypeKind) (which : Whole) (source : List ℕ) (n : NodeTree) (y z : ℤ) (m : Result V WasmValueError) (r : Result V Diagnostic) → k ≡ whole_kind which → y ≡ z → GivesNumber which (λ (x : ℤ). x) source n (Ok z) → IfOk m (MakesLeaf tree of (value.whole which y)) → IfErr m (FullLeaf Full (value.whole which y)) → IsBuilt n m r → AnswersWhole tree of Full k source n r
  whole_built k which source n y z m r is same given built full done =
      answered k which source n r is (inl (y, subst (λ (x : ℤ). GivesNumber which (λ (w : ℤ). w) source n (Ok x)) (sym same) given, (m, built, full, done)))

  -- the refusal of a node of no number
  pub whole_refused : (k : WasmTypeKind) (which : Whole) (source : List ℕ) (n : NodeTree) (e : Diagnostic) (r : Result V Diagnostic) → k ≡ whole_kind which → GivesNumber which (λ (x : ℤ). x) source n (Err e) → IsErrAnd r (λ f. f ≡ e) → AnswersWhole tree of Full k source n r
  whole_refused k which source n e r is given same = answered k which source n r is (inr (e, given, same))

  -- the refusal of another kind
  pub none_whole : (k : WasmTypeKind) (source : List ℕ) (n : NodeTree) (e : Diagnostic) → IsNoWhole k → IsCaused (unsupported_type (kind_word k)) n e → e.span ≡ place_of n → AnswersWhole tree of Full k source n (Err e)
  none_whole k source n e apart caused place = (λ which is. absurd (of_none k apart which is), λ none. (caused, place))

  -- ---- values

  whole_value : (o w : Order) (T : TypeTree) (which : Whole) (source : List ℕ) (n : NodeTree) (t : SpannedTree) (r : Result V Diagnostic) → T ≡ type.simple (type.whole which) → placed_of source n ≡ Some t → IsWholeRead tree of Full which source n r → MatchResult r (IsTypedValue tree of T t) (IsBlamed Full o w T t)
  whole_value o w T which source n t r is node (inl (z, given, built)) = leaf_built tree of Full o w T t n (value.whole which z) built.0 r is (number_read which source n t z node given.0 given.1) built.1 built.2 built.3
  whole_value o w T which source n t r is node (inr (e, given, same)) = faulty tree of Full o w T t (type.simple (type.whole which)) e r is same (number_blame o w which (λ (x : ℤ). x) source n t e node given)

  unread_value : (o w : Order) (T : TypeTree) (k : WasmTypeKind) (source : List ℕ) (n : NodeTree) (t : SpannedTree) (r : Result V Diagnostic) → k ≡ kind_of T → placed_of source n ≡ Some t → IsUnread k → ((which : Whole) → k ≢ whole_kind which) → IsErrAnd r (λ e. IsCaused (unsupported_type (kind_word k)) n e × (e.span ≡ place_of n)) → MatchResult r (IsTypedValue tree of T t) (IsBlamed Full o w T t)
  unread_value o w T k source n t (Ok v) is node unread none h = absurd h
  unread_value o w T k source n t (Err e) is node unread none h = unread_blame Full o w T source n t k e node is unread none h.0

  -- what is answered at a type of a kind that is read nowhere else
  pub whole_answers : (o w : Order) (T : TypeTree) (k : WasmTypeKind) (source : List ℕ) (n : NodeTree) (t : SpannedTree) (r : Result V Diagnostic) → k ≡ kind_of T → placed_of source n ≡ Some t → IsUnread k → AnswersWhole tree of Full k source n r → MatchResult r (IsTypedValue tree of T t) (IsBlamed Full o w T t)
  whole_answers o w T k source n t r is node unread h = by (whole_of k)
    where
      by : ((which : Whole) × (k ≡ whole_kind which)) ⊎ ((which : Whole) → k ≢ whole_kind which) → MatchResult r (IsTypedValue tree of T t) (IsBlamed Full o w T t)
      by (inl (which, same)) = whole_value o w T which source n t r (simple_is (type.whole which) T (sym same ∙ is)) node (h.0 which same)
      by (inr none) = unread_value o w T k source n t r is node unread none (h.1 none)

  -- ---- keys

  whole_key : (which : Whole) (source : List ℕ) (n : NodeTree) (p : Range ℕ) (key : Token) (r : Result V Diagnostic) → IsTokenOf source n p key → IsWholeRead tree of Full which source n r → MatchResult r (IsKeyRead tree of (type.whole which) key) (IsKeyBlamed Full (type.whole which) p key)
  whole_key which source n p key r token (inl (z, given, built)) =
      key_built tree of Full (type.simple (type.whole which)) (type.whole which) (type.whole which) p key n (value.whole which z) built.0 r refl refl refl (number_key which (λ (x : ℤ). x) source n p key z token given) built.1 built.2 built.3
  whole_key which source n p key r token (inr (e, given, same)) =
      key_faulty tree of Full (type.simple (type.whole which)) (type.whole which) (type.whole which) p key e r refl refl same (no_number_key which (λ (x : ℤ). x) source n p key e token given)

  -- what is answered for a key of a kind that is read nowhere else
  pub whole_answers_key : (K : Simple) (k : WasmTypeKind) (source : List ℕ) (n : NodeTree) (p : Range ℕ) (key : Token) (r : Result V Diagnostic) → k ≡ kind_of (type.simple K) → k ≢ kinds.Bool → k ≢ kinds.Char → k ≢ kinds.String → IsTokenOf source n p key → AnswersWhole tree of Full k source n r → MatchResult r (IsKeyRead tree of K key) (IsKeyBlamed Full K p key)
  whole_answers_key type.bool k source n p key r is bool char string token h = absurd (bool is)
  whole_answers_key (type.whole which) k source n p key r is bool char string token h = whole_key which source n p key r token (h.0 which is)
  whole_answers_key type.char k source n p key r is bool char string token h = absurd (char is)
  whole_answers_key type.string k source n p key r is bool char string token h = absurd (string is)

  -- ---- where refusals stand

  read_at : (which : Whole) (source : List ℕ) (n : NodeTree) (r : Result V Diagnostic) → IsWholeRead tree of Full which source n r → IfErr r (RefusesAt n)
  read_at which source n r (inl (z, given, built)) = leaf_at tree of Full (value.whole which z) n r built
  read_at which source n (Ok v) (inr (e, given, same)) = tt
  read_at which source n (Err f) (inr (e, given, same)) = subst (RefusesAt n) (sym same) (number_at which (λ (x : ℤ). x) source n e given)

  unread_at : (k : WasmTypeKind) (n : NodeTree) (r : Result V Diagnostic) → IsErrAnd r (λ e. IsCaused (unsupported_type (kind_word k)) n e × (e.span ≡ place_of n)) → IfErr r (RefusesAt n)
  unread_at k n (Ok v) h = tt
  unread_at k n (Err e) h = caused_at (unsupported_type (kind_word k)) n e h.0 h.1

  -- a refusal stands at the node
  pub whole_at : (k : WasmTypeKind) (source : List ℕ) (n : NodeTree) (r : Result V Diagnostic) → AnswersWhole tree of Full k source n r → IfErr r (RefusesAt n)
  whole_at k source n r h = by (whole_of k)
    where
      by : ((which : Whole) × (k ≡ whole_kind which)) ⊎ ((which : Whole) → k ≢ whole_kind which) → IfErr r (RefusesAt n)
      by (inl (which, same)) = read_at which source n r (h.0 which same)
      by (inr none) = unread_at k n r (h.1 none)
