use Rattle.std.proofs.Common.{arith}
use Rattle.wave_grammar.proofs.Numbers.Digits.{lower_power}
use Rattle.wave_grammar.proofs.number.few_digits.Goals as goal

pub overflow_mul-number : goal.overflow_mul-number
overflow_mul-number c = omega (arith, lower_power, c.requires)

pub overflow_add-number : goal.overflow_add-number
overflow_add-number c = grind (arith, lower_power)
