-- What parts of a value are after one more child, and what is read of all of them.
use Rattle.std.specs.Prelude.{ℕ, ◌≡◌, ◌++◌, List, [], ◌∷◌, Option, Result, MatchOption}
use Rattle.std.specs.Borrow.{Bor}
use Rattle.std.specs.declared.ops.Range.{Range}
use Rattle.wave_wasm.specs.Types.{TypeTree}
use Rattle.wave_wasm.specs.Values.{Value}
use Rattle.wave_wasm.specs.Borrowed.{denoted}
use Rattle.wave_lex.specs.Errors.{Diagnostic}
use Rattle.wave_grammar.specs.SpannedTree.{slice}
use Rattle.wave_grammar.specs.FaultOrder.{Order, in_text}
use Rattle.wave_grammar.specs.NodeTree.{NodeTree, node, no_nodes, node_trees}
use Rattle.wave_grammar.specs.NodeParts.{TakesKey, TakesPart}
use Rattle.wave_grammar.specs.declared.form.NodeType.{NodeType}
use Rattle.wave_leaf.specs.Reading.{IsReadAs, IsReadWhereExpected}
use Rattle.wave_leaf.specs.declared.fault.Fault.{Fault}
use Rattle.wave_leaf.specs.Faults.{IsRefusedWhateverFollows}

-- that parts were read of these children of a node, in an order within them, at a type and in a text
abbrev pub PartsFact : Type 0 → Type 0 → Type 0 → Type 1
PartsFact S V X =
    (S → TypeTree) → (V → Value) → (V → TypeTree → Type 0) → (TypeTree → Type 0) → Order → TypeTree → List ℕ → List NodeTree → X → Type 0

module _ {S V X : Type 0} (Are : PartsFact S V X) (type_tree : S → TypeTree) (tree : V → Value) (of : V → TypeTree → Type 0) (Full : TypeTree → Type 0) where
  -- these parts were read of some children of a node
  abbrev pub WereRead : X → Type 0
  WereRead x = (w : Order) × (T : TypeTree) × (source : List ℕ) × (children : List NodeTree) × Are type_tree tree of Full w T source children x

  -- the parts have this child too; or the value, a node of this type, is refused for the fault
  abbrev pub HasOneMore : Order → NodeType → TypeTree → List ℕ → List NodeTree → NodeTree → X → Option Fault → Type 0
  HasOneMore w ty T source children n x found =
      MatchOption found (Are type_tree tree of Full w T source (children ++ n ∷ []) x) (IsRefusedWhateverFollows tree of Full in_text w T source ty (children ++ n ∷ []))

  -- the key of this type and text, which stands there, is added where a key stands next
  abbrev pub AddsKey : NodeType → X → NodeType → Range ℕ → List ℕ → X → Option Fault → Type 0
  AddsKey ty old key p text new found =
      (w : Order) (T : TypeTree) (source : List ℕ) (children : List NodeTree) → text ≡ slice source p → TakesKey ty children
      → Are type_tree tree of Full w T source children old → HasOneMore w ty T source children (node key p no_nodes) new found

  -- a value that was read at the type that was expected is added where a value stands next
  abbrev pub AddsPart : NodeType → (X → Option (Bor S)) → X → Result V Diagnostic → X → Option Fault → Type 0
  AddsPart ty expected old built new found =
      (w : Order) (T : TypeTree) (source : List ℕ) (children : List NodeTree) (n : NodeTree) → TakesPart ty children
      → Are type_tree tree of Full w T source children old → IsReadWhereExpected tree of Full w w (denoted type_tree (expected old)) source n built
      → HasOneMore w ty T source children n new found

  -- this is read of all of the parts, where the value stands there
  abbrev pub FinishesAs : NodeType → X → Range ℕ → Result V Diagnostic → Type 0
  FinishesAs ty x p r =
      (w : Order) (T : TypeTree) (source : List ℕ) (children : List NodeTree) → Are type_tree tree of Full w T source children x
      → IsReadAs tree of Full in_text w T source (node ty p (node_trees children)) r
