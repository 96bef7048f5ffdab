use Rattle.std.proofs.Common.{arith}
use Rattle.wave_grammar.proofs.Numbers.Digits.{too_great}
use Rattle.wave_grammar.proofs.number.magnitude.Goals as goal

pub returns-in_err-checked_mul : goal.returns-in_err-checked_mul
returns-in_err-checked_mul c =
    rw c.from_residual.ensures (too_great c.args.digits.now c.loop-digit.digit-index c.loop-digit.number c.loop-digit-test.true c.loop-digit.invariant.so_far (omega (arith, c.in_err-checked_mul.ensures)))

pub returns-in_err-number : goal.returns-in_err-number
returns-in_err-number c =
    rw c.from_residual-in_err-number.ensures (too_great c.args.digits.now c.loop-digit.digit-index c.loop-digit.number c.loop-digit-test.true c.loop-digit.invariant.so_far (omega (arith, c.in_err-number.ensures, c.in_ok-checked_mul.ensures, c.from.ensures)))
