use Rattle.wave_tree.proofs.ParserCorrectness.Sound.{read_have_tree}
use Rattle.wave_tree.proofs.laws.read_values_have_a_tree.Goals as goal

pub returns : goal.returns
returns c = read_have_tree
