-- What is read of a node at a type.
use Rattle.std.specs.Prelude.{ℕ, ◌≡◌, ◌⊎◌, List, Option, Some, None, Result, IfOk, IfErr}
use Rattle.std.specs.declared.ops.Range.{Range}
use Rattle.wave_wasm.specs.Types.{TypeTree, HasDistinctNames}
use Rattle.wave_wasm.specs.Values.{Value}
use Rattle.wave_lex.specs.Errors.{Diagnostic}
use Rattle.wave_grammar.specs.FaultOrder.{Order}
use Rattle.wave_grammar.specs.NodeTree.{NodeTree, type_of, place_of}
use Rattle.wave_grammar.specs.NodeParts.{IsOneToken, IsOfParts}
use Rattle.wave_grammar.specs.declared.form.NodeType.TheVariants as kind
use Rattle.wave_grammar.specs.TypedReading.{Answers, IsValueOf}
use Rattle.wave_grammar.specs.ErrorSpans.{RefusesIn}
use Rattle.wave_leaf.specs.Leaves.{leaf_node, IsLeafIn, IsSimpleOrUnreadable}
use Rattle.wave_leaf.specs.declared.leaf.LeafToken.{LeafToken}

-- a value that was read is of the type, where its names are distinct
abbrev pub IsOfType : {V : Type 0} → (V → TypeTree → Type 0) → TypeTree → Result V Diagnostic → Type 0
IsOfType of T r = IfOk r (λ v. HasDistinctNames T → of v T)

module _ {V : Type 0} (tree : V → Value) (of : V → TypeTree → Type 0) (Full : TypeTree → Type 0) (o w : Order) where
  -- the value of the node's tree at the type, or its refusal in these orders, which stands in the node; a value is of the type, whatever the node is
  pub record IsReadAs (T : TypeTree) (source : List ℕ) (n : NodeTree) (r : Result V Diagnostic) : Type 0 where
    pub answer : Answers tree of Full o w T source n r
    pub within : IsValueOf source n → IfErr r (RefusesIn n)
    pub typed : IsOfType of T r

  -- so at the type that is expected; where none is, whatever was answered
  abbrev pub IsReadWhereExpected : Option TypeTree → List ℕ → NodeTree → Result V Diagnostic → Type 0
  IsReadWhereExpected None source n r = Unit {0}
  IsReadWhereExpected (Some T) source n r = IsReadAs T source n r

module _ {V : Type 0} (tree : V → Value) (of : V → TypeTree → Type 0) (Full : TypeTree → Type 0) where
  -- so of the node that the leaf would be, in any text that has the leaf and in whatever orders
  abbrev pub IsReadOfLeaf : TypeTree → LeafToken → Result V Diagnostic → Type 0
  IsReadOfLeaf T leaf r =
      (o w : Order) (source : List ℕ) → IsOneToken leaf.ty → IsLeafIn source leaf → IsReadAs tree of Full o w T source (leaf_node leaf) r

  -- so of any node of parts or flags that stands there, where the type is a simple one or has no values
  abbrev pub IsReadOfForm : TypeTree → Range ℕ → Result V Diagnostic → Type 0
  IsReadOfForm T p r =
      (o w : Order) (source : List ℕ) (n : NodeTree) → place_of n ≡ p → IsOfParts (type_of n) ⊎ (type_of n ≡ kind.Flags) → IsSimpleOrUnreadable T
      → IsReadAs tree of Full o w T source n r
