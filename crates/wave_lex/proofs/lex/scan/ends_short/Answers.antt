use Rattle.std.proofs.Common.{ℕ, refl, nat_eq, get_or, is_some, arith}
use Rattle.wave_lex.specs.Strings.{short_escape}
use Rattle.wave_lex.specs.declared.lex.scan.TheConstants.{SHORTS}
use Rattle.wave_lex.proofs.RegularShapes.Comparisons.{bytes_agree}
use Rattle.wave_lex.proofs.lex.scan.ends_short.Goals as goal

pub returns : goal.returns
returns c = bytes_agree (λ (k : ℕ). nat_eq (get_or SHORTS k 0) 46) (λ k. is_some (short_escape k)) c.args.byte (omega arith) refl
