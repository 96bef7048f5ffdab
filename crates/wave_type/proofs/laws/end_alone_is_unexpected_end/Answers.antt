use Rattle.wave_type.proofs.TypeFaults.RefusedTokens.{ends_at_end}
use Rattle.wave_type.proofs.laws.end_alone_is_unexpected_end.Goals as goal

pub returns : goal.returns
returns c = ends_at_end
