-- What was read of a node, with the option or the result that wraps it.
use Rattle.std.proofs.Common.{ℕ, ◌≡◌, List, Option, Some, None, Bor, Result, sym, subst}
use Rattle.wave_grammar.specs.FaultOrder.{Order}
use Rattle.wave_wasm.specs.Types.{TypeTree}
use Rattle.wave_wasm.specs.Values.{Value}
use Rattle.wave_lex.specs.Errors.{Diagnostic}
use Rattle.wave_grammar.specs.NodeTree.{NodeTree, type_of}
use Rattle.wave_grammar.specs.declared.form.NodeType.{NodeType}
use Rattle.wave_leaf.specs.Reading.{IsReadAs, IsOfType}
use Rattle.wave_read.specs.Flat.{IsFlatAt, IsWrapper, IsWrapperWhereExpected, IsOfPartWithin}

module _ {S V : Type 0} (type_tree : S → TypeTree) (tree : V → Value) (of : V → TypeTree → Type 0) (Full : TypeTree → Type 0) (i w : Order) (T : TypeTree) (source : List ℕ) (n : NodeTree) (o : Option (Bor S)) (x : Bor S) (built : Result V Diagnostic) (is : IsWrapper type_tree T (type_of n) o x) (read : IsReadAs tree of Full i w (type_tree x.now) source n built) where
  -- an option or a result wraps it
  pub wrapped_read : (whole : Bor S) (r : Result V Diagnostic) → o ≡ Some whole → (IsFlatAt (type_tree whole.now) (type_of n) (type_tree x.now) → IsReadAs tree of Full i w (type_tree whole.now) source n r) → IsReadAs tree of Full i w T source n r
  wrapped_read whole r some wraps =
      let here : (type_tree whole.now ≡ T) × IsFlatAt T (type_of n) (type_tree x.now) = subst (λ (p : Option (Bor S)). IsWrapper type_tree T (type_of n) p x) some is in
      subst (λ (W : TypeTree). IsReadAs tree of Full i w W source n r) here.0 (wraps (subst (λ (W : TypeTree). IsFlatAt W (type_of n) (type_tree x.now)) (sym here.0) here.1))

  -- nothing does
  pub alone_read : o ≡ None → IsReadAs tree of Full i w T source n built
  alone_read none =
      let here : (type_tree x.now ≡ T) × ((U : TypeTree) → IsFlatAt T (type_of n) U → ⊥) = subst (λ (p : Option (Bor S)). IsWrapper type_tree T (type_of n) p x) none is in
      subst (λ (W : TypeTree). IsReadAs tree of Full i w W source n built) here.0 read

module _ {S V : Type 0} (type_tree : S → TypeTree) (of : V → TypeTree → Type 0) (ty : NodeType) (built : Result V Diagnostic) where
  -- what was read of the payload is of its type
  pub part_within : (T : TypeTree) (o : Option (Bor S)) (x : Bor S) → IsWrapper type_tree T ty o x → IsOfType of (type_tree x.now) built → IsOfPartWithin type_tree of o built
  part_within T None x is typed = tt
  part_within T (Some whole) x is typed = (ty, type_tree x.now, subst (λ (W : TypeTree). IsFlatAt W ty (type_tree x.now)) (sym is.0) is.1, typed)

  pub expected_within : (expected : Option TypeTree) (o : Option (Bor S)) (x : Bor S) → IsWrapperWhereExpected type_tree expected ty o x → IsOfType of (type_tree x.now) built → IsOfPartWithin type_tree of o built
  expected_within None o x is typed = absurd is
  expected_within (Some T) o x is typed = part_within T o x is typed
