-- What is wrong with a value before its end is seen.
use Rattle.std.specs.Prelude.{ℕ, ◌≡◌, ◌++◌, List, Result, Err}
use Rattle.std.specs.declared.ops.Range.{Range}
use Rattle.wave_wasm.specs.Types.{TypeTree}
use Rattle.wave_wasm.specs.Values.{Value}
use Rattle.wave_wasm.specs.declared.wasm.WasmValueError.{WasmValueError}
use Rattle.wave_lex.specs.Errors.{Diagnostic}
use Rattle.wave_grammar.specs.FaultOrder.{Order}
use Rattle.wave_grammar.specs.NodeTree.{NodeTree, node, node_trees, place_of}
use Rattle.wave_grammar.specs.declared.form.NodeType.{NodeType}
use Rattle.wave_leaf.specs.Errors.{IsBuiltOrMemory, error_at}
use Rattle.wave_leaf.specs.Reading.{IsReadAs}
use Rattle.wave_leaf.specs.declared.error.Reason.TheVariants as reason
use Rattle.wave_leaf.specs.declared.fault.Fault.{Fault}
use Rattle.wave_leaf.specs.declared.fault.Fault.TheVariants as fault

-- what the fault says of a value that stands there
abbrev pub Reports : Fault → Range ℕ → Diagnostic → Type 0
Reports (fault.Part e) p f = f ≡ e
Reports (fault.Whole r) p f = f ≡ error_at p r

-- the fault is a refusal of some kind, of the whole value
abbrev pub IsOfKind : Fault → Type 0
IsOfKind (fault.Whole (reason.Plain k)) = Unit {0}
IsOfKind _ = ⊥

-- so of each node that stands there
abbrev pub IsBuiltAt : {V : Type 0} → Range ℕ → Result V WasmValueError → Result V Diagnostic → Type 0
IsBuiltAt p built r = (n : NodeTree) → place_of n ≡ p → IsBuiltOrMemory n built r

module _ {V : Type 0} (tree : V → Value) (of : V → TypeTree → Type 0) (Full : TypeTree → Type 0) (o w : Order) where
  -- whatever follows these children of a node of this type, at the type it is refused for the fault, in these orders
  abbrev pub IsRefusedWhateverFollows : TypeTree → List ℕ → NodeType → List NodeTree → Fault → Type 0
  IsRefusedWhateverFollows T source ty children f =
      (more : List NodeTree) (p : Range ℕ) (e : Diagnostic) → Reports f p e → IsReadAs tree of Full o w T source (node ty p (node_trees (children ++ more))) (Err e)
