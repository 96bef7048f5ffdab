-- What holds of nodes, and where faults of type stand.
use Rattle.std.specs.Prelude.{ℕ, List, [], ◌↔◌}
use Rattle.std.specs.declared.ops.Range.{Range}
use Rattle.wave_lex.specs.Errors.{Refusal, LiesInText}
use Rattle.wave_wasm.specs.Types.{TypeTree}
use Rattle.wave_grammar.specs.SpannedTree.{SpannedTree, SpellsEach, HoldsTokens, tree_of}
use Rattle.wave_grammar.specs.TypeErrors.{Fault}
use Rattle.wave_wasm.specs.Values.{Value}
use Rattle.wave_grammar.specs.Token.{Token}
use Rattle.wave_grammar.specs.TypedGrammar.{Reads}
use Rattle.wave_grammar.specs.Elaborates.{TreeReads}
use Rattle.wave_grammar.specs.NodeTree.{NodeTree, place_of}
use Rattle.wave_grammar.specs.Nodes.{IsNodeOf}
use Rattle.wave_grammar.specs.TypedReading.{IsValueOf, IsKeyOf, IsKeywordOf}

-- so does the span of a fault of type, of a tree whose parts spell their slices of the source
abbrev pub FaultsLieInText : Type 0
FaultsLieInText = (source : List ℕ) (T : TypeTree) (t : SpannedTree) (k : Refusal) (q : Range ℕ) → SpellsEach source t → Fault T t k q → LiesInText source q

-- a key was parsed as a value would be exactly where it is no keyword
abbrev pub KeysAreValues : Type 0
KeysAreValues = (source : List ℕ) (n : NodeTree) → IsKeyOf source n → IsValueOf source n ↔ (IsKeywordOf source n → ⊥)

-- the type gives the tree of a node the values that the tokens spell which stand at the node
abbrev pub NodesReadAsTokens : Type 0
NodesReadAsTokens =
    (source : List ℕ) (n : NodeTree) (t : SpannedTree) (tokens : List Token) → IsNodeOf source n t → HoldsTokens source (place_of n) tokens →
    (T : TypeTree) (v : Value) → TreeReads T (tree_of t) v ↔ ((m : ℕ) × Reads T m tokens v [])
