-- What is told of a node at a type.
use Rattle.std.specs.Prelude.{ℕ, List}
use Rattle.wave_wasm.specs.Types.{TypeTree}
use Rattle.wave_lex.specs.Errors.{Diagnostic}
use Rattle.wave_grammar.specs.SpannedTree.{SpannedTree}
use Rattle.wave_grammar.specs.NodeTree.{NodeTree}
use Rattle.wave_grammar.specs.Nodes.{IsNodeOf}
use Rattle.wave_faults.specs.AllFaults.{AreFaults}

-- the errors are all faults of the node's tree at the type
abbrev pub AreFaultsOf : TypeTree → List ℕ → NodeTree → List Diagnostic → Type 0
AreFaultsOf T source n errors = (t : SpannedTree) → IsNodeOf source n t → AreFaults T t errors
