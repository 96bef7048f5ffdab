use Rattle.wave_grammar.specs.NodeAccessors.{GivesChar}
use Rattle.wave_leaf.specs.Leaves.{leaf_node}
use Rattle.wave_node.proofs.NodeReading.LeafAnswers.{node_gives}
use Rattle.wave_node.proofs.ast.Node.as_char.Goals as goal

pub returns : goal.returns
returns c = rw c.or_error.ensures (node_gives (GivesChar c.args.src.now) (leaf_node c.leaf.result) c.args.self.now c.as_char.result c.leaf.ensures.node (λ x h. h) (λ e h. h) (c.as_char.ensures.gives c.args.src.now c.leaf.ensures.text))
