use Rattle.wave_type.proofs.TypeFaults.Completions.{taken_begins}
use Rattle.wave_type.proofs.laws.taken_tokens_begin_a_type.Goals as goal

pub returns : goal.returns
returns c = taken_begins
