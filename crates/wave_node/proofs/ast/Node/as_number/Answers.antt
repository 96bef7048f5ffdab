use Rattle.wave_grammar.specs.NodeAccessors.{GivesNumber}
use Rattle.wave_leaf.specs.Leaves.{leaf_node}
use Rattle.wave_node.proofs.NodeReading.LeafAnswers.{node_gives}
use Rattle.wave_node.proofs.ast.Node.as_number.Goals as goal

pub returns : goal.returns
returns g c = rw c.or_error.ensures (node_gives (GivesNumber g.T.WholeNumber.kind g.T.WholeNumber.number c.args.src.now) (leaf_node c.leaf.result) c.args.self.now c.as_number.result c.leaf.ensures.node (λ x h. h) (λ e h. h) (c.as_number.ensures c.args.src.now c.leaf.ensures.text))
