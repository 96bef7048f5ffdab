use Rattle.wave_faults.proofs.EachTold.Table.{only_faults, each_fault}
use Rattle.wave_faults.proofs.laws.faults_are_told.Goals as goal

pub returns-clause-only : goal.returns-clause-only
returns-clause-only c = only_faults

pub returns-clause-each : goal.returns-clause-each
returns-clause-each c = each_fault
