-- Each child of a node nests less deep than the node.
use Rattle.std.specs.Prelude.{◌+◌, ◌≤◌, List, [], ◌∷◌}
use Rattle.std.proofs.Common.{arith}
use denote.Param.Weighed.{most}
use Rattle.wave_grammar.specs.NodeTree.{NodeTree, node_trees, depth, nodes_depth}

-- no child nests deeper than all of them together
pub most_le-nodes_depth : (ns : List NodeTree) → most (λ n. depth n + 1) ns ≤ nodes_depth (node_trees ns)
most_le-nodes_depth [] = omega arith
most_le-nodes_depth (n ∷ ns) = omega (arith, most_le-nodes_depth ns)
