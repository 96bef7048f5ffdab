use Rattle.wave_tape.proofs.Again.{one_call_tape}
use Rattle.wave_tape.proofs.laws.one_call_tape_each.Goals as goal

pub returns : goal.returns
returns c = one_call_tape
