use Rattle.wave_grammar.proofs.Automaton.RefusedKinds.{empty_there, repeated_there, deep_there}
use Rattle.wave_grammar.proofs.laws.refusal_kinds_sound.Goals as goal

pub returns-clause-empty : goal.returns-clause-empty
returns-clause-empty c = empty_there

pub returns-clause-repeated : goal.returns-clause-repeated
returns-clause-repeated c = repeated_there

pub returns-clause-deep : goal.returns-clause-deep
returns-clause-deep c = deep_there
