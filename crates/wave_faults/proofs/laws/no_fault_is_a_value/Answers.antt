use Rattle.wave_faults.proofs.EachTold.Values.{no_fault_value, value_no_fault}
use Rattle.wave_faults.proofs.laws.no_fault_is_a_value.Goals as goal

pub returns-clause-value : goal.returns-clause-value
returns-clause-value c = no_fault_value

pub returns-clause-none : goal.returns-clause-none
returns-clause-none c = value_no_fault
