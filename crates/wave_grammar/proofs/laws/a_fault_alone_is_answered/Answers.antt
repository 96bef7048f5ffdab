use Rattle.wave_grammar.proofs.OneFault.FirstFaults.{first_is_fault}
use Rattle.wave_grammar.proofs.laws.a_fault_alone_is_answered.Goals as goal

pub returns : goal.returns
returns c = λ o w T t k q alone l r h. alone l r (first_is_fault o w T t l r h)
