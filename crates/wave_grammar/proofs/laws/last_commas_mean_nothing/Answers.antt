use Rattle.wave_grammar.proofs.Equivalence.LastCommas.{last_commas_go, last_commas_mean_nothing}
use Rattle.wave_grammar.proofs.laws.last_commas_mean_nothing.Goals as goal

pub returns-clause-may_go : goal.returns-clause-may_go
returns-clause-may_go c = last_commas_go

pub returns-clause-meaning : goal.returns-clause-meaning
returns-clause-meaning c = last_commas_mean_nothing
