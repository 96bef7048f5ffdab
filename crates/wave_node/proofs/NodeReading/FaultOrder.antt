-- A node whose tokens are read in turn is refused as one whose type is gone through, but for the count of a tuple and the entries of a record.
use Rattle.std.proofs.Common.{ℕ, ◌≡◌, ◌≢◌, ◌⊎◌, inl, inr, List, length, Option, Some, None, Result, Ok, Err, MatchResult, refl, sym, ap, ◌∙◌, subst}
use Rattle.std.specs.declared.ops.Range.{Range}
use Rattle.wave_wasm.specs.Types as type
use Rattle.wave_wasm.specs.Types.{TypeTree, MaybeType, HasDistinctNames, kind_of, count_of}
use Rattle.wave_wasm.specs.Values.{Value}
use Rattle.wave_wasm.specs.declared.wasm.WasmTypeKind.TheVariants as kinds
use Rattle.wave_lex.specs.Errors.{Diagnostic, Refusal, refusal_of}
use Rattle.wave_lex.specs.declared.error.ParserErrorKind.TheVariants.{InvalidType}
use Rattle.wave_grammar.specs.TypedGrammar.{IsFlat}
use Rattle.wave_grammar.specs.SpannedTree.{SpannedTree, MaybePlaced, SpannedShape, tuple, none, some, ok, err, placed_list, span_of, shape_of}
use Rattle.wave_grammar.specs.TypeErrors.{Blame, IsRefusalOf, OfForm, OfOption, OfResult, tuple_in, record_in}
use Rattle.wave_grammar.specs.FaultOrder.{Order, in_text, by_type, OrElse, WrongCount, FirstFault, FirstItem, FirstOfFlat}
use Rattle.wave_grammar.specs.NodeTree.{NodeTree, type_of, children_of}
use Rattle.wave_grammar.specs.Nodes.{IsNodeOf}
use Rattle.wave_grammar.specs.TypedReading.{IsTypedValue, IsBlamed}
use Rattle.wave_grammar.specs.declared.form.NodeType.{NodeType}
use Rattle.wave_grammar.specs.declared.form.NodeType.TheVariants as kind
use Rattle.wave_grammar.proofs.ChildNodes.Inside.{From, Inside, inside, some_is, all_parsed}
use Rattle.wave_grammar.proofs.ByKind.Lists.{trees_back}
use Rattle.wave_grammar.proofs.ByKind.Options.{some_node, given_none}
use Rattle.wave_grammar.proofs.ByKind.Results.{ok_node, err_node}
use Rattle.wave_grammar.proofs.Fields.Entries.{not_record}
use Rattle.wave_leaf.specs.PlainReading.{IsReadSparing}
use Rattle.wave_read.specs.Flat.{IsFlatAt, ReadsNoRecord, IsCounted}
use Rattle.wave_node.proofs.NodeReading.Children.{as_long}

-- a form that the type doesn't take is refused as such
same_form : {A : Type 0} (f : Option A) (p : Range ℕ) (F G : A → Blame) (k : Refusal) (q : Range ℕ) → f ≡ None → OfForm f p F k q → OfForm f p G k q
same_form None p F G k q e h = h
same_form (Some a) p F G k q e h = absurd (cc)

-- where their number is right, it is not blamed
counted_form : (f : Option (List SpannedTree)) (p : Range ℕ) (want : ℕ) (First : List SpannedTree → Blame) (k : Refusal) (q : Range ℕ) → ((items : List SpannedTree) → f ≡ Some items → length items ≡ want) → OfForm f p (λ items. OrElse (First items) (WrongCount want (length items) p)) k q → OfForm f p (λ items. OrElse (WrongCount want (length items) p) (First items)) k q
counted_form None p want First k q same h = h
counted_form (Some items) p want First k q same (inl fault) = inr ((λ j r wrong. wrong.0 (same items refl)), fault)
counted_form (Some items) p want First k q same (inr wrong) = absurd (wrong.1.0 (same items refl))

-- at an option or a result, of another form than its own
of_option : (s : SpannedShape) (Within : SpannedTree → Blame) (F G : Blame) (k : Refusal) (q : Range ℕ) → (((u : SpannedTree) → s ≢ some u) → s ≢ none → F k q → G k q) → OfOption s Within F k q → OfOption s Within G k q
of_option none Within F G k q more h = h
of_option (some t) Within F G k q more h = h
of_option _ Within F G k q more h = more (λ u e. cc) (λ e. cc) h

of_result : (s : SpannedShape) (OnOk OnErr : MaybePlaced → Blame) (F G : Blame) (k : Refusal) (q : Range ℕ) → (((u : MaybePlaced) → s ≢ ok u) → ((u : MaybePlaced) → s ≢ err u) → F k q → G k q) → OfResult s OnOk OnErr F k q → OfResult s OnOk OnErr G k q
of_result (ok u) OnOk OnErr F G k q more h = h
of_result (err u) OnOk OnErr F G k q more h = h
of_result _ OnOk OnErr F G k q more h = more (λ u e. cc) (λ u e. cc) h

tuple_items : (ty : NodeType) (p : Range ℕ) (text : List ℕ) (cs : List SpannedTree) (s : SpannedShape) (items : List SpannedTree) → From ty p text cs s → tuple_in s ≡ Some items → (ty ≡ kind.Tuple) × (length items ≡ length cs)
tuple_items ty p text cs (tuple ts) items f e = (f.0, ap length (sym (some_is _ _ e) ∙ (ap placed_list f.1 ∙ trees_back cs)))
tuple_items ty p text cs _ items f e = absurd (cc)

module _ (w : Order) (source : List ℕ) (n : NodeTree) (t : SpannedTree) (k : Refusal) (q : Range ℕ) (is : IsNodeOf source n t) where
  i : Inside source n t
  i = inside source n t is.0

  -- at a type that is no option and no result
  flat_first : (T : TypeTree) → IsFlat T → (type_of n ≡ kind.TupleSet → kind_of T ≢ kinds.Record) → ((Ts : type.Types) → T ≡ type.tuple Ts → type_of n ≡ kind.Tuple → length (children_of n) ≡ count_of Ts) → FirstFault in_text w T t k q → FirstFault by_type w T t k q
  flat_first (type.record_type fs) flat no_record counted h =
      same_form (record_in (shape_of t)) (span_of t) _ _ k q (not_record _ _ _ i.children (shape_of t) i.from (λ set. no_record set refl)) h
  flat_first (type.tuple Ts) flat no_record counted h =
      counted_form (tuple_in (shape_of t)) (span_of t) (count_of Ts) (FirstItem w Ts) k q
      (λ items e.
      let (ty, long) = tuple_items _ _ _ i.children (shape_of t) items i.from e in
      long ∙ (sym (as_long source (children_of n) i.children (all_parsed source n t i)) ∙ counted Ts refl ty)) h
  flat_first (type.option P) flat no_record counted h = absurd flat
  flat_first (type.result A B) flat no_record counted h = absurd flat
  flat_first _ flat no_record counted h = h

  -- at the payload's type, where the tree stands for it
  payload_first : (T P : TypeTree) → ReadsNoRecord T (type_of n) → IsCounted T (type_of n) (length (children_of n)) → IsFlat P → IsFlatAt T (type_of n) P → FirstFault in_text w P t k q → FirstFault by_type w P t k q
  payload_first T P no_record counted flat at h =
      flat_first P flat (no_record P (inr at)) (λ Ts e. counted Ts (inr (subst (IsFlatAt T (type_of n)) e at))) h

  is_some : ((u : SpannedTree) → shape_of t ≢ some u) → type_of n ≢ kind.OptionSome
  is_some apart e = let inner = some_node source n t is e in apart inner.payload inner.shape

  is_ok : ((u : MaybePlaced) → shape_of t ≢ ok u) → type_of n ≢ kind.ResultOk
  is_ok apart e = let inner = ok_node source n t is e in apart inner.0 inner.1

  is_err : ((u : MaybePlaced) → shape_of t ≢ err u) → type_of n ≢ kind.ResultErr
  is_err apart e = let inner = err_node source n t is e in apart inner.0 inner.1

  -- the fault that is first as the tokens are read is so as the type is gone through
  pub type_first : (T : TypeTree) → ReadsNoRecord T (type_of n) → IsCounted T (type_of n) (length (children_of n)) → FirstFault in_text w T t k q → FirstFault by_type w T t k q
  type_first (type.option P) no_record counted h = of_option (shape_of t) (FirstFault w w P) _ _ k q by h
    where
      by : ((u : SpannedTree) → shape_of t ≢ some u) → shape_of t ≢ none → (IsFlat P → ⊥) × IsRefusalOf InvalidType (span_of t) k q ⊎ IsFlat P × FirstFault in_text w P t k q → (IsFlat P → ⊥) × IsRefusalOf InvalidType (span_of t) k q ⊎ IsFlat P × FirstFault by_type w P t k q
      by a b (inl other) = inl other
      by a b (inr (flat, fault)) =
          inr (flat, payload_first (type.option P) P no_record counted flat (refl, flat, is_some a, (λ e. b (given_none source n t is (inr (e, refl))))) fault)
  type_first (type.result (type.a_type A) B) no_record counted h = of_result (shape_of t) _ _ _ _ k q by h
    where
      by : ((u : MaybePlaced) → shape_of t ≢ ok u) → ((u : MaybePlaced) → shape_of t ≢ err u) → FirstOfFlat in_text w (type.a_type A) t k q → FirstOfFlat by_type w (type.a_type A) t k q
      by a b (inl other) = inl other
      by a b (inr (flat, fault)) =
          inr (flat, payload_first (type.result (type.a_type A) B) A no_record counted flat (refl, flat, is_ok a, is_err b) fault)
  type_first (type.result type.no_type B) no_record counted h = h
  type_first (type.record_type fs) no_record counted h = flat_first (type.record_type fs) tt (no_record (type.record_type fs) (inl refl)) (λ Ts e. absurd (cc)) h
  type_first (type.tuple Ts) no_record counted h = flat_first (type.tuple Ts) tt (no_record (type.tuple Ts) (inl refl)) (λ Us e. counted Us (inl (sym e))) h
  type_first _ no_record counted h = h

module _ {V : Type 0} (tree : V → Value) (of : V → TypeTree → Type 0) (Full : TypeTree → Type 0) (w : Order) where
  type_blamed : (T : TypeTree) (source : List ℕ) (n : NodeTree) (t : SpannedTree) (r : Result V Diagnostic) → IsNodeOf source n t → ReadsNoRecord T (type_of n) → IsCounted T (type_of n) (length (children_of n)) → MatchResult r (IsTypedValue tree of T t) (IsBlamed Full in_text w T t) → MatchResult r (IsTypedValue tree of T t) (IsBlamed Full by_type w T t)
  type_blamed T source n t (Ok v) is no_record counted h = h
  type_blamed T source n t (Err e) is no_record counted (inl memory) = inl memory
  type_blamed T source n t (Err e) is no_record counted (inr (inl fault)) = inr (inl (type_first w source n t (refusal_of e) e.span is T no_record counted fault))
  type_blamed T source n t (Err e) is no_record counted (inr (inr full)) = inr (inr full)

  -- what is read as the tokens are read is so as the type is gone through: of a node with no record's entries, and of no tuple of another number of items
  pub read_by_type : (expected : Option TypeTree) (source : List ℕ) (n : NodeTree) (r : Result V Diagnostic) → ((T : TypeTree) → expected ≡ Some T → ReadsNoRecord T (type_of n)) → ((T : TypeTree) → expected ≡ Some T → IsCounted T (type_of n) (length (children_of n))) → IsReadSparing tree of Full in_text w expected source n r → IsReadSparing tree of Full by_type w expected source n r
  read_by_type None source n r no_record counted h = h
  read_by_type (Some T) source n r no_record counted h =
      (record { answer = λ t is distinct. type_blamed T source n t r is (no_record T refl) (counted T refl) (h.0.answer t is distinct); within = h.0.within; typed = h.0.typed }, h.1)
