use Rattle.wave_grammar.proofs.OneFault.FirstFaults.{one_fault}
use Rattle.wave_grammar.proofs.laws.one_fault.Goals as goal

pub returns : goal.returns
returns c = one_fault
