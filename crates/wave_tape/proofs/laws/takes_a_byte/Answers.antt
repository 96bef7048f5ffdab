use Rattle.wave_tape.proofs.Sizes.{value_some}
use Rattle.wave_tape.proofs.laws.takes_a_byte.Goals as goal

pub returns : goal.returns
returns c = value_some
