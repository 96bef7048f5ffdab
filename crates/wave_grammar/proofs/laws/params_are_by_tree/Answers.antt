use Rattle.wave_grammar.proofs.Elaboration.Params.{params_by_tree}
use Rattle.wave_grammar.proofs.laws.params_are_by_tree.Goals as goal

pub returns : goal.returns
returns c = params_by_tree
