use Rattle.wave_faults.proofs.EachTold.Table.{first_answered, none_answered}
use Rattle.wave_faults.proofs.laws.first_is_answered.Goals as goal

pub returns-clause-first : goal.returns-clause-first
returns-clause-first c = first_answered

pub returns-clause-none : goal.returns-clause-none
returns-clause-none c = none_answered
