-- Values that stand for an option or a result of themselves, which wraps what was read.
use Rattle.std.proofs.Common.{ℕ, ◌≡◌, ◌≢◌, ◌++◌, inl, List, [], Option, Some, None, Bor, Result, Ok, Err, IfOk, IfErr, refl, sym, subst}
use Rattle.wave_grammar.specs.FaultOrder.{Order}
use Rattle.wave_wasm.specs.Types as type
use Rattle.wave_wasm.specs.Types.{TypeTree, HasDistinctNames, kind_of}
use Rattle.wave_wasm.specs.Values.{Value}
use Rattle.wave_wasm.specs.ConstructorContracts.{MakesOption, FullOption, MakesResult, FullResult, HasFullParts, TypedOption, TypedResult}
use Rattle.wave_wasm.specs.declared.wasm.WasmTypeKind.TheVariants as kinds
use Rattle.wave_wasm.specs.declared.wasm.WasmValueError.{WasmValueError}
use Rattle.wave_lex.specs.Errors.{Diagnostic}
use Rattle.wave_lex.specs.declared.error.ParserErrorKind.TheVariants.{InvalidType}
use Rattle.wave_grammar.specs.TypedGrammar.{IsFlat}
use Rattle.wave_grammar.specs.NodeTree.{NodeTree, node, node_trees, type_of, place_of}
use Rattle.wave_grammar.specs.declared.form.NodeType.{NodeType}
use Rattle.wave_grammar.specs.NodeAccessors.{RefusedAs}
use Rattle.wave_grammar.proofs.ByKind.Options.{flat_built, flat_blame}
use Rattle.wave_grammar.proofs.ByKind.Results.{result_flat_built, result_flat_blame}
use Rattle.wave_grammar.proofs.ErrorSpans.Nodes.{built_in}
use Rattle.wave_leaf.specs.PlainReading.{IsPlain}
use Rattle.wave_leaf.specs.Reading.{IsReadAs}
use Rattle.wave_read.specs.Flat.{IsFlatAt, IsWrapper}
use Rattle.wave_read.specs.KeptParts.{AreOfType}
use Rattle.wave_read.specs.PartsOfKinds.{AreRefusedAtOnce, AreParts, IsSimpleAt}
use Rattle.wave_read.specs.declared.parts.Partial.{Partial}
use Rattle.wave_read.specs.declared.values.Frame.{Frame}
use Rattle.wave_leaf.specs.Errors.{IsBuiltOrMemory}
use Rattle.wave_leaf.proofs.ReadErrors.HandedOn.{built_anew, built_of}

-- what a node of another form would be refused for
abbrev other_form : NodeTree → Diagnostic
other_form n = record { kind = InvalidType; span = place_of n; detail = None; cause = None }

is_other : (n : NodeTree) → RefusedAs InvalidType n (other_form n)
is_other n = record { is = refl; stands = refl }

module _ {V : Type 0} (tree : V → Value) (of : V → TypeTree → Type 0) (Full : TypeTree → Type 0) (o w : Order) where
  -- a refusal at the payload's type
  pub flat_refused : (T U : TypeTree) (source : List ℕ) (n : NodeTree) (e : Diagnostic) → HasFullParts Full → IsFlatAt T (type_of n) U → IsReadAs tree of Full o w U source n (Err e) → IsReadAs tree of Full o w T source n (Err e)
  flat_refused (type.option P) U source n e parts h read =
      let inner : IsReadAs tree of Full o w P source n (Err e) = subst (λ (W : TypeTree). IsReadAs tree of Full o w W source n (Err e)) h.0 read in
      record { answer = λ t is distinct. flat_blame tree of Full o w (type.option P) P source n t (other_form n) e refl is.0 (h.2, h.3, is_other n) h.1 parts (inner.answer t is distinct); within = inner.within; typed = tt }
  flat_refused (type.result (type.a_type A) B) U source n e parts h read =
      let inner : IsReadAs tree of Full o w A source n (Err e) = subst (λ (W : TypeTree). IsReadAs tree of Full o w W source n (Err e)) h.0 read in
      record { answer = λ t is distinct. result_flat_blame tree of Full o w (type.result (type.a_type A) B) A B source n t (other_form n) e refl is.0 (h.2, h.3, is_other n) h.1 parts (inner.answer t is distinct.0); within = inner.within; typed = tt }
  flat_refused _ U source n e parts h read = absurd h

  -- an option that wraps a value of the payload's type
  pub option_wrapped : (T U : TypeTree) (source : List ℕ) (n : NodeTree) (v : V) (m : Result V WasmValueError) (r : Result V Diagnostic) → kind_of T ≡ kinds.Option → IsFlatAt T (type_of n) U → IsReadAs tree of Full o w U source n (Ok v) → IfOk m (MakesOption tree of T (Some v)) → IfErr m (FullOption of Full T (Some v)) → IsBuiltOrMemory n m r → IsReadAs tree of Full o w T source n r
  option_wrapped (type.option P) U source n v m r kind h read makes full done =
      built_anew (MakesOption tree of (type.option P) (Some v)) (FullOption of Full (type.option P) (Some v)) (n) m r (λ a f P is of. tt) makes full done (λ m makes full done.
      let inner : IsReadAs tree of Full o w P source n (Ok v) = subst (λ (W : TypeTree). IsReadAs tree of Full o w W source n (Ok v)) h.0 read in
      record { answer = λ t is distinct. flat_built tree of Full o w (type.option P) P t n v m r refl distinct h.1 (inner.answer t is distinct) makes full done; within = λ value. built_in source n m r (inl value) done; typed = built_of of (type.option P) (MakesOption tree of (type.option P) (Some v)) n m r (λ x makes distinct. (makes distinct).is_of) makes done })
  option_wrapped (type.result A B) U source n v m r kind h read makes full done = absurd (cc kind)
  option_wrapped _ U source n v m r kind h read makes full done = absurd h

  -- a result that wraps one
  pub result_wrapped : (T U : TypeTree) (source : List ℕ) (n : NodeTree) (v : V) (m : Result V WasmValueError) (r : Result V Diagnostic) → kind_of T ≢ kinds.Option → IsFlatAt T (type_of n) U → IsReadAs tree of Full o w U source n (Ok v) → IfOk m (MakesResult tree of T (Ok (Some v))) → IfErr m (FullResult of Full T (Ok (Some v))) → IsBuiltOrMemory n m r → IsReadAs tree of Full o w T source n r
  result_wrapped (type.result (type.a_type A) B) U source n v m r kind h read makes full done =
      built_anew (MakesResult tree of (type.result (type.a_type A) B) (Ok (Some v))) (FullResult of Full (type.result (type.a_type A) B) (Ok (Some v))) (n) m r (λ a f A B is of. tt) makes full done (λ m makes full done.
      let inner : IsReadAs tree of Full o w A source n (Ok v) = subst (λ (W : TypeTree). IsReadAs tree of Full o w W source n (Ok v)) h.0 read in
      record { answer = λ t is distinct. result_flat_built tree of Full o w (type.result (type.a_type A) B) A B t n v m r refl distinct h.1 (inner.answer t is distinct.0) makes full done; within = λ value. built_in source n m r (inl value) done; typed = built_of of (type.result (type.a_type A) B) (MakesResult tree of (type.result (type.a_type A) B) (Ok (Some v))) n m r (λ x makes distinct. (makes distinct).is_of) makes done })
  result_wrapped (type.option P) U source n v m r kind h read makes full done = absurd (kind refl)
  result_wrapped _ U source n v m r kind h read makes full done = absurd h

-- an option whose flat payload is of its type has it
pub option_typed : {V : Type 0} (of : V → TypeTree → Type 0) (T U : TypeTree) (ty : NodeType) (v : V) → kind_of T ≡ kinds.Option → IsFlatAt T ty U → (HasDistinctNames U → of v U) → HasDistinctNames T → TypedOption of T (Some v)
option_typed of (type.option P) U ty v kind flat typed distinct = subst (of v) flat.0 (typed (subst HasDistinctNames (sym flat.0) distinct))
option_typed of (type.result A B) U ty v kind flat typed distinct = absurd (cc kind)
option_typed of _ U ty v kind flat typed distinct = absurd flat

-- so has a result
pub result_typed : {V : Type 0} (of : V → TypeTree → Type 0) (T U : TypeTree) (ty : NodeType) (v : V) → kind_of T ≢ kinds.Option → IsFlatAt T ty U → (HasDistinctNames U → of v U) → HasDistinctNames T → TypedResult of T (Ok (Some v))
result_typed of (type.result (type.a_type A) B) U ty v kind flat typed distinct = subst (of v) flat.0 (typed (subst HasDistinctNames (sym flat.0) distinct.0))
result_typed of (type.option P) U ty v kind flat typed distinct = absurd (kind refl)
result_typed of _ U ty v kind flat typed distinct = absurd flat

-- a flat payload is flat itself, so none stands for it
payload_flat : (T P : TypeTree) (ty : NodeType) → IsFlatAt T ty P → IsFlat P
payload_flat (type.option Q) P ty h = subst IsFlat (sym h.0) h.1
payload_flat (type.result (type.a_type A) B) P ty h = subst IsFlat (sym h.0) h.1
payload_flat _ P ty h = absurd h

none_in_flat : (P U : TypeTree) (ty : NodeType) → IsFlat P → IsFlatAt P ty U → ⊥
none_in_flat (type.option P) U ty flat h = flat
none_in_flat (type.result A B) U ty flat h = flat
none_in_flat _ U ty flat h = h

-- nor for a value of a plain type
pub none_flat : (T U : TypeTree) (ty : NodeType) → IsPlain T → IsFlatAt T ty U → ⊥
none_flat (type.simple S) U ty plain h = h
none_flat _ U ty plain h = absurd plain

module _ {S : Type 0} (type_tree : S → TypeTree) (T : TypeTree) (ty : NodeType) where
  -- the type whose parts are read is no option or result of a flat payload
  pub none_flat_within : (wrapper : Option (Bor S)) (x : Bor S) → IsWrapper type_tree T ty wrapper x → (U : TypeTree) → IsFlatAt (type_tree x.now) ty U → ⊥
  none_flat_within None x h U flat = h.1 U (subst (λ (W : TypeTree). IsFlatAt W ty U) h.0 flat)
  none_flat_within (Some whole) x h U flat = none_in_flat (type_tree x.now) U ty (payload_flat T (type_tree x.now) ty h.1) flat

  -- no parts of that type are no parts of the whole
  pub begun_wrapped : {V : Type 0} (tree : V → Value) (of : V → TypeTree → Type 0) (Full : TypeTree → Type 0) (w : Order) (source : List ℕ) (wrapper : Option (Bor S)) (x : Bor S) (kept : Frame S V) → IsWrapper type_tree T ty wrapper x → AreParts type_tree tree of Full w (type_tree x.now) source ty [] kept.parts → AreOfType type_tree tree of Full w T source ty [] wrapper kept
  begun_wrapped tree of Full w source None x kept h parts = subst (λ (W : TypeTree). AreParts type_tree tree of Full w W source ty [] kept.parts) h.0 parts
  begun_wrapped tree of Full w source (Some whole) x kept h parts = (h.0, (type_tree x.now, h.1, parts))

  -- where parts of that type have a fault at once, so have those of the whole
  pub rejected_wrapped : {V : Type 0} (tree : V → Value) (of : V → TypeTree → Type 0) (Full : TypeTree → Type 0) (wrapper : Option (Bor S)) (x : Bor S) (begun : Partial S V) → HasFullParts Full → IsWrapper type_tree T ty wrapper x → AreRefusedAtOnce type_tree tree of Full (type_tree x.now) ty begun → AreRefusedAtOnce type_tree tree of Full T ty begun
  rejected_wrapped tree of Full None x begun full h rejected = subst (λ (W : TypeTree). AreRefusedAtOnce type_tree tree of Full W ty begun) h.0 rejected
  rejected_wrapped tree of Full (Some whole) x begun full h rejected = λ f is. (
    (rejected f is).0,
    λ o w source of_parts more p e tells. flat_refused tree of Full o w T (type_tree x.now) source (node ty p (node_trees ([] ++ more))) e full h.1 ((rejected f is).1 o w source of_parts more p e tells),
  )

  -- of a plain type nothing is kept
  pub plain_begun : {V : Type 0} (wrapper : Option (Bor S)) (x : Bor S) (begun : Partial S V) → IsWrapper type_tree T ty wrapper x → (IsPlain (type_tree x.now) → IsSimpleAt type_tree (type_tree x.now) begun) → IsPlain T → IsSimpleAt type_tree T begun
  plain_begun None x begun h simple plain = subst (λ (W : TypeTree). IsSimpleAt type_tree W begun) h.0 (simple (subst IsPlain (sym h.0) plain))
  plain_begun (Some whole) x begun h simple plain = absurd (none_flat T (type_tree x.now) ty plain h.1)
