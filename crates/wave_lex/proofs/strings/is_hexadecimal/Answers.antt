use Rattle.std.proofs.Common.{ℕ, refl, not, nat_eq, nat_lt, get_or, arith}
use Rattle.std.specs.Char.{digit_value}
use Rattle.wave_lex.specs.declared.strings.TheConstants.{HEXADECIMALS}
use Rattle.wave_lex.proofs.RegularShapes.Comparisons.{bytes_agree}
use Rattle.wave_lex.proofs.strings.is_hexadecimal.Goals as goal

pub returns : goal.returns
returns c = bytes_agree (λ (k : ℕ). not (nat_eq (get_or HEXADECIMALS k 0) 44)) (λ (k : ℕ). nat_lt (digit_value k) 16) c.args.byte (omega arith) refl
