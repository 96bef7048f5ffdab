use Rattle.wave_grammar.proofs.Unambiguity.Trees.{one_tree}
use Rattle.wave_grammar.proofs.laws.one_tree.Goals as goal

pub returns : goal.returns
returns c = λ n m tokens rest others t u h k. one_tree n m tokens t u rest others h k
