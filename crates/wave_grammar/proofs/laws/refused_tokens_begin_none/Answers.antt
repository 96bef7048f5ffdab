use Rattle.wave_grammar.proofs.Automaton.Prefixes.{refused_begin_none}
use Rattle.wave_grammar.proofs.laws.refused_tokens_begin_none.Goals as goal

pub returns : goal.returns
returns c = refused_begin_none
