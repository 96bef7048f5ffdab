use Rattle.std.proofs.Common.{refl, arith}
use Rattle.wave_lex.specs.Tokens.{number}
use Rattle.wave_lex.specs.Private.Machines.{after_sign}
use Rattle.wave_lex.proofs.QuickScan.Prefixes.{first_byte}
use Rattle.wave_lex.proofs.lex.scan.sign_at.Goals as goal

pub returns-clause-leads : goal.returns-clause-leads
returns-clause-leads c = first_byte number (after_sign 1) 45 _ _ c.as_bytes-bytes.ensures.value (omega arith) refl (omega arith) (omega arith)
