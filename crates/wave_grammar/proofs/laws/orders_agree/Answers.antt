use Rattle.wave_grammar.proofs.OneFault.FirstFaults.{first_is_fault, no_fault}
use Rattle.wave_grammar.proofs.laws.orders_agree.Goals as goal

pub returns : goal.returns
returns c = λ o w p v T t names none k q h. no_fault o w T t names none k q (first_is_fault p v T t k q h)
