use Rattle.wave_grammar.proofs.Display.Calls.{display_call_keeps}
use Rattle.wave_grammar.proofs.laws.shown_call_keeps_meaning.Goals as goal

pub returns : goal.returns
returns c = display_call_keeps
