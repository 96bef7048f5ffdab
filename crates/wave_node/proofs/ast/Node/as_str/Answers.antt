use Rattle.wave_grammar.specs.NodeStrings.{GivesString}
use Rattle.wave_leaf.specs.Leaves.{leaf_node}
use Rattle.wave_node.proofs.NodeReading.LeafAnswers.{node_gives, not_far}
use Rattle.wave_node.proofs.ast.Node.as_str.Goals as goal

pub returns : goal.returns
returns c = node_gives (GivesString c.args.src.now) (leaf_node c.leaf.result) c.args.self.now c.as_str.result c.leaf.ensures.node (λ text h. h) (λ e h. h) (not_far _ c.leaf.ensures.fits (c.as_str.ensures.gives c.args.src.now c.leaf.ensures.text c.leaf.ensures.quotes))
