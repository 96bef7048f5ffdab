use Rattle.wave_grammar.proofs.Automaton.Prefixes.{led_begin_tree}
use Rattle.wave_grammar.proofs.laws.viable_tokens_begin_a_tree.Goals as goal

pub returns : goal.returns
returns c = led_begin_tree
