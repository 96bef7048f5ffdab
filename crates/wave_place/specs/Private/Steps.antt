-- What the search for a step answers: one that was taken, or why there is none.
use Rattle.std.specs.Prelude.{ℕ, ◌≡◌, ◌<◌, ◌++◌, List, Some, slice_get}
use Rattle.std.specs.declared.ops.Range.{Range}
use Rattle.wave_wasm.specs.Types.{TypeTree}
use Rattle.wave_grammar.specs.LeafTokens.{name_of}
use Rattle.wave_grammar.specs.NodeTree.{NodeTree, type_of}
use Rattle.wave_grammar.specs.NodeAccessors.{node_text}
use Rattle.wave_grammar.specs.ErrorSpans.{LiesInNode}
use Rattle.wave_grammar.specs.declared.form.NodeType.TheVariants as form
use Rattle.wave_place.specs.Paths.{Step, StepsTo, step_text}

-- this step leads from the node to no part that holds the span
abbrev pub LeadsNowhere : List ℕ → Range ℕ → NodeTree → TypeTree → Step → Type 0
LeadsNowhere source span n T step = (m : NodeTree) (U : TypeTree) → StepsTo source step n T m U → LiesInNode m span → ⊥

-- a step leads from the node to this part, which holds the span, and its text was added to that of the path
pub record IsTaken (source : List ℕ) (span : Range ℕ) (n : NodeTree) (T : TypeTree) (old new : List ℕ) (m : NodeTree) (U : TypeTree) : Type 0 where
  pub step : Step
  pub steps : StepsTo source step n T m U
  pub holds : LiesInNode m span
  pub text_is : new ≡ old ++ step_text step

-- none of the first so many nodes holds the span
abbrev pub NoneHolds : List NodeTree → ℕ → Range ℕ → Type 0
NoneHolds nodes count span = (i : ℕ) (m : NodeTree) → i < count → slice_get nodes i ≡ Some m → LiesInNode m span → ⊥

-- the key is a label of this name
abbrev pub IsNamed : List ℕ → NodeTree → List ℕ → Type 0
IsNamed source k name = (type_of k ≡ form.Label) × (name_of (node_text source k) ≡ name)
