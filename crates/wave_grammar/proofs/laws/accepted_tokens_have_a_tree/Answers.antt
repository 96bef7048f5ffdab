use Rattle.wave_grammar.proofs.Automaton.Complete.{led_is_tree}
use Rattle.wave_grammar.proofs.laws.accepted_tokens_have_a_tree.Goals as goal

pub returns : goal.returns
returns c = led_is_tree
