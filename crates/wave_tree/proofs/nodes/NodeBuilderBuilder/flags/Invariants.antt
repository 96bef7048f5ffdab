use Rattle.std.proofs.Common.{◌≡◌, map}
use Rattle.wave_grammar.specs.FlagParts.{label_at}
use Rattle.wave_tree.proofs.nodes.NodeBuilderBuilder.flags.Given as goal

abbrev pub invariant-loop-at : goal.invariant-loop-at
invariant-loop-at l = l.nodes.items ≡ map label_at l.yielded
