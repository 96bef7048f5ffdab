-- The text that shows a node beside its source.
use Rattle.std.specs.Prelude.{ℕ, List, [], Option, Some, None}
use Rattle.wave_grammar.specs.Tree.{display}
use Rattle.wave_grammar.specs.SpannedTree.{SpannedTree, tree_of}
use Rattle.wave_grammar.specs.NodeTree.{NodeTree}
use Rattle.wave_grammar.specs.Nodes.{placed_of}

-- the text that shows a tree, where there is one
abbrev pub display_placed : Option SpannedTree → List ℕ
display_placed None = []
display_placed (Some t) = display (tree_of t)

-- the text that shows the tree that the node means beside its source
unfoldable pub display_at : List ℕ → NodeTree → List ℕ
display_at source n = display_placed (placed_of source n)
