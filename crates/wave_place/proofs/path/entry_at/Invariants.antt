use Rattle.wave_grammar.specs.NodeTree.{children_of}
use Rattle.wave_grammar.specs.NodeAccessors.{node_pairs}
use Rattle.wave_grammar.specs.ErrorSpans.{LiesInNode}
use Rattle.wave_place.proofs.Steps.{IsSearch}
use Rattle.wave_place.proofs.path.entry_at.Given as goal

abbrev pub invariant-loop-key : goal.invariant-loop-key
invariant-loop-key l = IsSearch (λ e. LiesInNode e.1 l.span → ⊥) (node_pairs (children_of l.node)) l.entries
