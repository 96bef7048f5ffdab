use Rattle.wave_tape.proofs.Again.{one_tape}
use Rattle.wave_tape.proofs.laws.one_tape_each.Goals as goal

pub returns : goal.returns
returns c = one_tape
