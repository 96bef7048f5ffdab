use Rattle.wave_grammar.proofs.Automaton.Sound.{trees_are_accepted}
use Rattle.wave_grammar.proofs.laws.trees_are_accepted.Goals as goal

pub returns : goal.returns
returns c = trees_are_accepted
