use Rattle.wave_expected.proofs.ExpectedTokens.RefusalPlaces.{read_stand_before, unexpected_may_not_follow}
use Rattle.wave_expected.proofs.laws.unexpected_may_not_follow.Goals as goal

pub returns-clause-before : goal.returns-clause-before
returns-clause-before c = read_stand_before

pub returns-clause-unexpected : goal.returns-clause-unexpected
returns-clause-unexpected c = unexpected_may_not_follow
