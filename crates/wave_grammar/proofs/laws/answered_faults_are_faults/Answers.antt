use Rattle.wave_grammar.proofs.OneFault.FirstFaults.{first_is_fault, no_fault}
use Rattle.wave_grammar.proofs.laws.answered_faults_are_faults.Goals as goal

pub returns-clause-answered : goal.returns-clause-answered
returns-clause-answered c = first_is_fault

pub returns-clause-none : goal.returns-clause-none
returns-clause-none c = no_fault
