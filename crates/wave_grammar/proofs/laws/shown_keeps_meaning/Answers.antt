use Rattle.wave_grammar.proofs.Display.Meaning.{display_keeps}
use Rattle.wave_grammar.proofs.laws.shown_keeps_meaning.Goals as goal

pub returns : goal.returns
returns c = display_keeps
