use Rattle.wave_grammar.specs.NodeAccessors.{GivesBool}
use Rattle.wave_leaf.specs.Leaves.{leaf_node}
use Rattle.wave_node.proofs.NodeReading.LeafAnswers.{node_gives}
use Rattle.wave_node.proofs.ast.Node.as_bool.Goals as goal

pub returns : goal.returns
returns c = rw c.or_error.ensures (node_gives GivesBool (leaf_node c.with_text.result) c.args.self.now c.as_bool.result c.with_text.ensures.node (λ b h. h) (λ e h. h) c.as_bool.ensures)
