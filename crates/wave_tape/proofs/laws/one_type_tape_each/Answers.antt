use Rattle.wave_tape.proofs.TypeAgain.{one_type_tape}
use Rattle.wave_tape.proofs.laws.one_type_tape_each.Goals as goal

pub returns : goal.returns
returns c = one_type_tape
