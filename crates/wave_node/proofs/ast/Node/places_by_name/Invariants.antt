use Rattle.wave_grammar.specs.NodeTree.{children_of}
use Rattle.wave_node.proofs.NodeReading.FlagPlaces.{HoldsFirst}
use Rattle.wave_node.proofs.ast.Node.places_by_name.Given as goal

abbrev pub invariant-loop-label : goal.invariant-loop-label
invariant-loop-label l = HoldsFirst l.src (children_of l.self) l.label-index l.flags
