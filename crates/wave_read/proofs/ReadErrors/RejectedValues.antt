-- What a fault says of a value, whatever follows.
use Rattle.std.proofs.Common.{ℕ, ◌≡◌, inl, inr, List, [], ◌∷◌, ◌++◌, Err, sym, subst}
use Rattle.std.proofs.lemmas.List.{append_assoc, append-nil}
use Rattle.std.specs.declared.ops.Range.{Range}
use Rattle.wave_grammar.specs.FaultOrder.{Order}
use Rattle.wave_wasm.specs.Types.{TypeTree}
use Rattle.wave_wasm.specs.Values.{Value}
use Rattle.wave_wasm.specs.declared.wasm.WasmValueError.{WasmValueError}
use Rattle.wave_wasm.specs.ValueErrors.{cause_of}
use Rattle.wave_lex.specs.Errors.{Diagnostic, refusal_of, refused_by}
use Rattle.wave_grammar.specs.NodeTree.{NodeTree, node, node_trees}
use Rattle.wave_grammar.specs.declared.form.NodeType.{NodeType}
use Rattle.wave_leaf.specs.Reading.{IsReadAs}
use Rattle.wave_leaf.specs.Errors.{IsRefusedBy}
use Rattle.wave_leaf.proofs.ReadErrors.HandedOn.{no_memory}
use Rattle.wave_leaf.specs.declared.fault.Fault.{Fault}
use Rattle.wave_leaf.specs.declared.fault.Fault.TheVariants as fault
use Rattle.wave_leaf.specs.Faults.{Reports, IsRefusedWhateverFollows}
use Rattle.wave_leaf.specs.FaultCauses.{IsFaultOf}

module _ {V : Type 0} (tree : V → Value) (of : V → TypeTree → Type 0) (Full : TypeTree → Type 0) (o w : Order) where
  -- the refusal of a part is that of the whole
  pub reported_rejects : (T : TypeTree) (source : List ℕ) (ty : NodeType) (children : List NodeTree) (e : Diagnostic) → ((more : List NodeTree) (p : Range ℕ) → IsReadAs tree of Full o w T source (node ty p (node_trees (children ++ more))) (Err e)) → IsRefusedWhateverFollows tree of Full o w T source ty children (fault.Part e)
  reported_rejects T source ty children e refused more p f same =
      subst (λ (g : Diagnostic). IsReadAs tree of Full o w T source (node ty p (node_trees (children ++ more))) (Err g)) (sym same) (refused more p)

  -- after one child more
  pub still_rejected : (T : TypeTree) (source : List ℕ) (ty : NodeType) (children : List NodeTree) (n : NodeTree) (f : Fault) → IsRefusedWhateverFollows tree of Full o w T source ty children f → IsRefusedWhateverFollows tree of Full o w T source ty (children ++ n ∷ []) f
  still_rejected T source ty children n f rejected more p e tells =
      subst (λ (ns : List NodeTree). IsReadAs tree of Full o w T source (node ty p (node_trees ns)) (Err e)) (sym (append_assoc children (n ∷ []) more)) (rejected (n ∷ more) p e tells)

  -- at the end
  pub reported : (T : TypeTree) (source : List ℕ) (ty : NodeType) (children : List NodeTree) (f : Fault) (p : Range ℕ) (e : Diagnostic) → IsRefusedWhateverFollows tree of Full o w T source ty children f → Reports f p e → IsReadAs tree of Full o w T source (node ty p (node_trees children)) (Err e)
  reported T source ty children f p e rejected tells =
      subst (λ (ns : List NodeTree). IsReadAs tree of Full o w T source (node ty p (node_trees ns)) (Err e)) (append-nil children) (rejected [] p e tells)

  -- the fault with this cause
  pub caused_rejects : (T : TypeTree) (source : List ℕ) (ty : NodeType) (children : List NodeTree) (cause : WasmValueError) (f : Fault) → IsFaultOf cause f → ((more : List NodeTree) (p : Range ℕ) (e : Diagnostic) → refusal_of e ≡ refused_by (cause_of cause) → e.span ≡ p → IsReadAs tree of Full o w T source (node ty p (node_trees (children ++ more))) (Err e)) → IsRefusedWhateverFollows tree of Full o w T source ty children f
  caused_rejects T source ty children cause f reported refused more p e tells = by (reported p e tells)
    where
      by : IsRefusedBy cause e × (e.span ≡ p) → IsReadAs tree of Full o w T source (node ty p (node_trees (children ++ more))) (Err e)
      by (inl same, place) = refused more p e same place
      by (inr memory, place) = no_memory tree of Full o w T source (node ty p (node_trees (children ++ more))) e (record { is = memory.1; stands = place })
