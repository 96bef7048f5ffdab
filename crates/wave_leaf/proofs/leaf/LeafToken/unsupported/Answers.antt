use Rattle.std.proofs.Common.{refl}
use Rattle.wave_leaf.specs.Leaves.{leaf_node}
use Rattle.wave_leaf.proofs.leaf.LeafToken.unsupported.Goals as goal

pub returns-clause-cause : goal.returns-clause-cause
returns-clause-cause c = c.unsupported.ensures.cause (leaf_node c.args.self.now) refl
