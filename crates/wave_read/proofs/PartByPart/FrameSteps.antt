-- Parts of a value, or of the flat payload that stands for it, step by step.
use Rattle.std.proofs.Common.{ℕ, ◌≡◌, inl, inr, ◌++◌, List, [], ◌∷◌, Option, Some, None, Result, Ok, Err, sym, ◌∙◌, subst}
use Rattle.std.specs.Prelude.{IfErr, IsOk}
use Rattle.std.specs.Borrow.{Bor}
use Rattle.std.specs.declared.ops.Range.{Range}
use Rattle.wave_grammar.specs.FaultOrder.{Order, in_text}
use Rattle.wave_wasm.specs.Types.{TypeTree}
use Rattle.wave_wasm.specs.Values.{Value}
use Rattle.wave_lex.specs.Errors.{Diagnostic, Says}
use Rattle.wave_lex.specs.declared.error.ParserErrorKind.TheVariants.{InvalidType}
use Rattle.wave_grammar.specs.NodeTree.{NodeTree, node, node_trees}
use Rattle.wave_grammar.specs.declared.form.NodeType.{NodeType}
use Rattle.wave_leaf.specs.PlainReading.{IsPlain, TakesMemory, SparesWhereExpected}
use Rattle.wave_leaf.specs.Reading.{IsReadAs, IsReadWhereExpected}
use Rattle.wave_leaf.proofs.ReadErrors.HandedOn.{form_spares}
use Rattle.wave_read.specs.Flat.{IsFlatAt, IsOfFlatPart}
use Rattle.wave_read.specs.KeptParts.{AreOfType, AreKeptWhereExpected}
use Rattle.wave_read.specs.PartsOfKinds.{AreParts, AreBareOrRead, IsBare, IsSimpleAt}
use Rattle.wave_read.specs.declared.parts.Partial.{Partial}
use Rattle.wave_read.specs.declared.parts.Partial.TheVariants as parts
use Rattle.wave_read.specs.declared.values.Frame.{Frame}
use Rattle.wave_read.proofs.PayloadReading.FlatValues.{none_flat}

-- of parts of a simple type nothing is kept
pub simple_bare : {S V : Type 0} (type_tree : S → TypeTree) (T : TypeTree) (x : Partial S V) → IsSimpleAt type_tree T x → IsBare x
simple_bare type_tree T (parts.Simple y) h = tt
simple_bare type_tree T _ h = absurd h

-- a refusal is no answer
no_ok : (A : Type 0) {E : Type 0} (e : E) → IsOk {T = A} {E = E} (Err e) → ⊥
no_ok A e ok = cc

module _ {S V : Type 0} (type_tree : S → TypeTree) (tree : V → Value) (of : V → TypeTree → Type 0) (Full : TypeTree → Type 0) (w : Order) (source : List ℕ) (ty : NodeType) where
  more_of_type : (T : TypeTree) (children : List NodeTree) (n : NodeTree) (o : Option (Bor S)) (kept new : Frame S V) → ((U : TypeTree) → AreParts type_tree tree of Full w U source ty children kept.parts → AreParts type_tree tree of Full w U source ty (children ++ n ∷ []) new.parts) → AreOfType type_tree tree of Full w T source ty children o kept → AreOfType type_tree tree of Full w T source ty (children ++ n ∷ []) o new
  more_of_type T children n None kept new step h = step T h
  more_of_type T children n (Some x) kept new step h = (h.0, (h.1.0, h.1.1, step h.1.0 h.1.2))

  -- after one more
  pub one_more : (expected : Option TypeTree) (children : List NodeTree) (n : NodeTree) (kept : Frame S V) (next : Partial S V) → ((U : TypeTree) → AreParts type_tree tree of Full w U source ty children kept.parts → AreParts type_tree tree of Full w U source ty (children ++ n ∷ []) next) → (IsBare kept.parts → next ≡ kept.parts) → AreKeptWhereExpected type_tree tree of Full w expected source ty children kept → AreKeptWhereExpected type_tree tree of Full w expected source ty (children ++ n ∷ []) (record { wrapper = kept.wrapper; parts = next })
  one_more None children n kept next step stays h = (subst (λ (x : Partial S V). IsBare x) (sym (stays h.0)) h.0, h.1)
  one_more (Some T) children n kept next step stays h = (
    more_of_type T children n kept.wrapper kept (record { wrapper = kept.wrapper; parts = next }) step h.0,
    λ plain. let simple = h.1 plain in subst (λ (x : Partial S V). IsSimpleAt type_tree T x) (sym (stays (simple_bare type_tree T kept.parts simple))) simple,
  )

  of_type_read : (T : TypeTree) (children : List NodeTree) (o : Option (Bor S)) (kept : Frame S V) → AreOfType type_tree tree of Full w T source ty children o kept → AreBareOrRead type_tree tree of Full kept.parts
  of_type_read T children None kept h = inr (w, T, source, ty, children, h)
  of_type_read T children (Some x) kept h = inr (w, h.1.0, source, ty, children, h.1.2)

  -- of those that are kept nothing is kept, or they were read
  pub kept_read : (expected : Option TypeTree) (children : List NodeTree) (kept : Frame S V) → AreKeptWhereExpected type_tree tree of Full w expected source ty children kept → AreBareOrRead type_tree tree of Full kept.parts
  kept_read None children kept h = inl h.0
  kept_read (Some T) children kept h = of_type_read T children kept.wrapper kept h.0

  module _ (children : List NodeTree) (place : Range ℕ) where
    -- what finish gives, where nothing wraps them
    pub finish_alone : (expected : Option TypeTree) (kept : Frame S V) (r : Result V Diagnostic) → kept.wrapper ≡ None → ((U : TypeTree) → AreParts type_tree tree of Full w U source ty children kept.parts → IsReadAs tree of Full in_text w U source (node ty place (node_trees children)) r) → AreKeptWhereExpected type_tree tree of Full w expected source ty children kept → IsReadWhereExpected tree of Full in_text w expected source (node ty place (node_trees children)) r
    finish_alone None kept r alone finished h = tt
    finish_alone (Some T) kept r alone finished h = finished T (subst (λ (o : Option (Bor S)). AreOfType type_tree tree of Full w T source ty children o kept) alone h.0)

    -- where an option or a result does
    pub finish_wrapped : (expected : Option TypeTree) (kept : Frame S V) (x : Bor S) (built r : Result V Diagnostic) → kept.wrapper ≡ Some x → ((U : TypeTree) → AreParts type_tree tree of Full w U source ty children kept.parts → IsReadAs tree of Full in_text w U source (node ty place (node_trees children)) built) → ((U : TypeTree) → IsFlatAt (type_tree x.now) ty U → IsReadAs tree of Full in_text w U source (node ty place (node_trees children)) built → IsReadAs tree of Full in_text w (type_tree x.now) source (node ty place (node_trees children)) r) → AreKeptWhereExpected type_tree tree of Full w expected source ty children kept → IsReadWhereExpected tree of Full in_text w expected source (node ty place (node_trees children)) r
    finish_wrapped None kept x built r is finished wraps h = tt
    finish_wrapped (Some T) kept x built r is finished wraps h =
        let held = subst (λ (o : Option (Bor S)). AreOfType type_tree tree of Full w T source ty children o kept) is h.0 in
        subst (λ (W : TypeTree). IsReadAs tree of Full in_text w W source (node ty place (node_trees children)) r) held.0
        (wraps held.1.0 (subst (λ (W : TypeTree). IsFlatAt W ty held.1.0) (sym held.0) held.1.1) (finished held.1.0 held.1.2))

    -- what is read of the parts of a flat payload is of its type
    pub part_wrapped : (expected : Option TypeTree) (kept : Frame S V) (x : Bor S) (built : Result V Diagnostic) → kept.wrapper ≡ Some x → ((U : TypeTree) → AreParts type_tree tree of Full w U source ty children kept.parts → IsReadAs tree of Full in_text w U source (node ty place (node_trees children)) built) → AreKeptWhereExpected type_tree tree of Full w expected source ty children kept → IsOfFlatPart of (type_tree x.now) built
    part_wrapped None kept x built is finished h = absurd (cc (sym h.1 ∙ is))
    part_wrapped (Some T) kept x built is finished h =
        let held = subst (λ (o : Option (Bor S)). AreOfType type_tree tree of Full w T source ty children o kept) is h.0 in
        (ty, held.1.0, subst (λ (W : TypeTree). IsFlatAt W ty held.1.0) (sym held.0) held.1.1, (finished held.1.0 held.1.2).typed)

    -- at a plain type it is refused without memory
    pub alone_spares : (expected : Option TypeTree) (n : NodeTree) (kept : Frame S V) (r : Result V Diagnostic) → ((T : TypeTree) → IsPlain T → IsSimpleAt type_tree T kept.parts → IfErr r (λ e. Says e InvalidType place None)) → AreKeptWhereExpected type_tree tree of Full w expected source ty children kept → SparesWhereExpected expected n r
    alone_spares None n kept r finished h = tt
    alone_spares (Some T) n kept r finished h = λ plain row. form_spares r place (finished T plain (h.1 plain))

    -- and nothing wraps it
    pub wrapped_spares : (expected : Option TypeTree) (n : NodeTree) (kept : Frame S V) (x : Bor S) (s : Result V Diagnostic) → kept.wrapper ≡ Some x → AreKeptWhereExpected type_tree tree of Full w expected source ty children kept → SparesWhereExpected expected n s
    wrapped_spares None n kept x s is h = tt
    wrapped_spares (Some T) n kept x s is h = λ plain row.
        let held = subst (λ (o : Option (Bor S)). AreOfType type_tree tree of Full w T source ty children o kept) is h.0 in
        absurd (none_flat T held.1.0 ty plain held.1.1)

-- out of memory is answered only where memory is taken for parts
pub wants_where_expected : {S V A E : Type 0} (type_tree : S → TypeTree) (tree : V → Value) (of : V → TypeTree → Type 0) (Full : TypeTree → Type 0) (kept : Frame S V) (r : Result A E) → (IsBare kept.parts → IsOk r) → IfErr r (λ _. (w : Order) (expected : Option TypeTree) (source : List ℕ) (ty : NodeType) (children : List NodeTree) → AreKeptWhereExpected type_tree tree of Full w expected source ty children kept → TakesMemory expected)
wants_where_expected type_tree tree of Full kept (Ok a) bare = tt
wants_where_expected {S} {V} {A} {E} type_tree tree of Full kept (Err e) bare = wants
  where
    wants : (w : Order) (expected : Option TypeTree) (source : List ℕ) (ty : NodeType) (children : List NodeTree) → AreKeptWhereExpected type_tree tree of Full w expected source ty children kept → TakesMemory expected
    wants w None source ty children h = absurd (no_ok A e (bare h.0))
    wants w (Some T) source ty children h = λ plain. absurd (no_ok A e (bare (simple_bare type_tree T kept.parts (h.1 plain))))
