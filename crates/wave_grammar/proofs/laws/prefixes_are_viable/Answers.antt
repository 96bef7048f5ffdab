use Rattle.wave_grammar.proofs.Automaton.Prefixes.{prefixes_are_viable}
use Rattle.wave_grammar.proofs.laws.prefixes_are_viable.Goals as goal

pub returns : goal.returns
returns c = prefixes_are_viable
