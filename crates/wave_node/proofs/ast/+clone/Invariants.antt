use Rattle.std.proofs.Common.{◌≡◌, ◌+◌, ◌*◌, take}
use Rattle.wave_grammar.specs.NodeTree.{depth, nodes_depth, node_trees}
use Rattle.wave_node.proofs.ast.+clone.Given as goal

abbrev pub decreases-Node::clone : goal.decreases-Node::clone
decreases-Node::clone l = 2 * depth l.self.now + 1

abbrev pub decreases-clone_nodes : goal.decreases-clone_nodes
decreases-clone_nodes l = 2 * nodes_depth (node_trees l.nodes.now.items)

abbrev pub invariant-clone_nodes-loop-node : goal.invariant-clone_nodes-loop-node
invariant-clone_nodes-loop-node l = l.copies.items ≡ take l.node-index l.nodes.items
