use Rattle.wave_grammar.proofs.Automaton.Lenient.{unexpected_begin_none}
use Rattle.wave_grammar.proofs.laws.unexpected_tokens_begin_none.Goals as goal

pub returns : goal.returns
returns c = unexpected_begin_none
