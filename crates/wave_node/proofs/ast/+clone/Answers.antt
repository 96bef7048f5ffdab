use Rattle.std.proofs.Common.{arith, ap, List}
use Rattle.wave_grammar.specs.NodeTree.{NodeTree, node_trees, depth, nodes_depth}
use Rattle.wave_grammar.proofs.ChildNodes.Trees.{node_below}
use Rattle.wave_node.proofs.ast.+clone.Goals as goal

pub Node::clone-clone_nodes-requires : goal.Node::clone-clone_nodes-requires
Node::clone-clone_nodes-requires t c = (omega (arith, ap depth c.self.view_is), tt)

pub clone_nodes-clone-requires : goal.clone_nodes-clone-requires
clone_nodes-clone-requires t c =
    (omega (arith, node_below c.deref-node-items.result.now c.loop-node.node-index c.node-item.result c.loop-node-test.true c.node-item.is, ap (λ (ns : List NodeTree). nodes_depth (node_trees ns)) c.deref-node-items.ensures.value), tt)
