use Rattle.wave_grammar.specs.NodeAccessors.{GivesParts}
use Rattle.wave_leaf.specs.Leaves.{leaf_node}
use Rattle.wave_node.proofs.NodeReading.LeafAnswers.{node_gives}
use Rattle.wave_node.proofs.ast.Node.iter_str.Goals as goal

pub returns : goal.returns
returns c = node_gives (GivesParts c.args.src.now) (leaf_node c.leaf.result) c.args.self.now c.iter_str.result c.leaf.ensures.node (λ parts h. h) (λ e h. h) (c.iter_str.ensures c.args.src.now c.leaf.ensures.text c.leaf.ensures.quotes)
