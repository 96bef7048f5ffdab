use Rattle.wave_type.proofs.TypeFaults.RefusedTokens.{none_begins}
use Rattle.wave_type.proofs.laws.refused_token_begins_no_type.Goals as goal

pub returns : goal.returns
returns c = none_begins
