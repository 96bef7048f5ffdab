use Rattle.wave_tree.proofs.ParserCorrectness.Sound.{refused_have_none}
use Rattle.wave_tree.proofs.laws.refused_values_have_none.Goals as goal

pub returns : goal.returns
returns c = refused_have_none
