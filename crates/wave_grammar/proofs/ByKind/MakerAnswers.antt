-- What an answer is where a value was made, or was not.
use Rattle.std.proofs.Common.{◌≡◌, inl, inr, Result, Ok, Err, IfOk, IfErr, MatchResult, sym, ap, subst}
use Rattle.std.specs.Result.{IsErrAnd}
use Rattle.wave_wasm.specs.Types.{TypeTree, simple}
use Rattle.wave_wasm.specs.Values.{Value, Leaf, leaf_type}
use Rattle.wave_wasm.specs.ValueErrors.{cause_of}
use Rattle.wave_wasm.specs.Values as value
use Rattle.wave_wasm.specs.ConstructorContracts.{IsMemory, MakesLeaf, FullLeaf}
use Rattle.wave_wasm.specs.declared.wasm.WasmValueError.{WasmValueError}
use Rattle.wave_wasm.specs.declared.wasm.WasmValueError.TheVariants as error
use Rattle.wave_lex.specs.Errors.{Diagnostic, Refusal, refusal_of, refused_by}
use Rattle.wave_grammar.specs.SpannedTree.{SpannedTree, tree_of}
use Rattle.wave_grammar.specs.Elaborates.{SimpleTree}
use Rattle.wave_grammar.specs.NodeTree.{NodeTree}
use Rattle.wave_grammar.specs.FaultOrder.{Order, FirstFault}
use Rattle.wave_grammar.specs.TypedReading.{IsTypedValue, IsBlamed, IsBuilt}

-- a constructor's refusal, which at a full type is out of memory
refused : (Full : TypeTree → Type 0) (o w : Order) (T : TypeTree) (t : SpannedTree) (cause : WasmValueError) (e : Diagnostic) → refusal_of e ≡ refused_by (cause_of cause) → (Full T → IsMemory cause) → IsBlamed Full o w T t e
refused Full o w T t (error.Memory a) e is full = inl (ap (λ (r : Refusal). r.kind) is)
refused Full o w T t _ e is full = inr (inr (ap (λ (r : Refusal). r.kind) is, full))

module _ {V : Type 0} (tree : V → Value) (of : V → TypeTree → Type 0) (Full : TypeTree → Type 0) (o w : Order) where
  -- the value that was made, or its constructor's refusal
  pub built : (T : TypeTree) (t : SpannedTree) (n : NodeTree) (m : Result V WasmValueError) (r : Result V Diagnostic) → IsBuilt n m r → IfOk m (IsTypedValue tree of T t) → IfErr m (λ cause. Full T → IsMemory cause) → MatchResult r (IsTypedValue tree of T t) (IsBlamed Full o w T t)
  built T t n (Ok v) (Ok w) is read full = subst (IsTypedValue tree of T t) (sym is) read
  built T t n (Ok v) (Err e) is read full = absurd is
  built T t n (Err cause) (Ok w) is read full = absurd is
  built T t n (Err cause) (Err e) is read full = refused Full o w T t cause e is.0 full

  -- the refusal is handed on
  pub handed : (T : TypeTree) (t : SpannedTree) (e : Diagnostic) (r : Result V Diagnostic) → IsErrAnd r (λ f. f ≡ e) → IsBlamed Full o w T t e → MatchResult r (IsTypedValue tree of T t) (IsBlamed Full o w T t)
  handed T t e (Ok v) same blamed = absurd same
  handed T t e (Err f) same blamed = subst (IsBlamed Full o w T t) (sym same) blamed

  leaf_read : (T : TypeTree) (t : SpannedTree) (one : Leaf) (m : Result V WasmValueError) → T ≡ simple (leaf_type one) → SimpleTree (leaf_type one) (tree_of t) (value.leaf one) → IfOk m (MakesLeaf tree of one) → IfOk m (IsTypedValue tree of T t)
  leaf_read T t one (Ok v) e read h =
      subst (λ (U : TypeTree). IsTypedValue tree of U t v) (sym e) (record { reads = subst (λ (w : Value). SimpleTree (leaf_type one) (tree_of t) w) (sym h.means) read; is_of = h.is_of })
  leaf_read T t one (Err cause) e read h = tt

  leaf_full : (T : TypeTree) (one : Leaf) (m : Result V WasmValueError) → T ≡ simple (leaf_type one) → IfErr m (FullLeaf Full one) → IfErr m (λ cause. Full T → IsMemory cause)
  leaf_full T one (Ok v) e h = tt
  leaf_full T one (Err cause) e h = λ full. h (subst Full e full)

  -- the value of one token was made, or its constructor refused
  pub leaf_built : (T : TypeTree) (t : SpannedTree) (n : NodeTree) (one : Leaf) (m : Result V WasmValueError) (r : Result V Diagnostic) → T ≡ simple (leaf_type one) → SimpleTree (leaf_type one) (tree_of t) (value.leaf one) → IfOk m (MakesLeaf tree of one) → IfErr m (FullLeaf Full one) → IsBuilt n m r → MatchResult r (IsTypedValue tree of T t) (IsBlamed Full o w T t)
  leaf_built T t n one m r e read ok full is = built T t n m r is (leaf_read T t one m e read ok) (leaf_full T one m e full)

  -- a fault of a tree, handed on
  pub faulty : (T : TypeTree) (t : SpannedTree) (U : TypeTree) (e : Diagnostic) (r : Result V Diagnostic) → T ≡ U → IsErrAnd r (λ f. f ≡ e) → FirstFault o w U t (refusal_of e) e.span → MatchResult r (IsTypedValue tree of T t) (IsBlamed Full o w T t)
  faulty T t U e r is same fault = handed T t e r same (inr (inl (subst (λ (W : TypeTree). FirstFault o w W t (refusal_of e) e.span) (sym is) fault)))
