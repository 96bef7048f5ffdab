use Rattle.wave_grammar.proofs.NodeMeaning.Keys.{keys_as_values}
use Rattle.wave_grammar.proofs.laws.keys_are_values.Goals as goal

pub returns : goal.returns
returns c = keys_as_values
