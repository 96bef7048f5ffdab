use Rattle.std.proofs.Common.{refl, arith}
use Rattle.wave_lex.proofs.Tokenization.Marks.{first_mark_here}
use Rattle.wave_lex.proofs.lex.first_mark.Goals as goal

pub returns : goal.returns
returns c = first_mark_here _ _ _ _ c.mark_of.ensures c.as_bytes-bytes.ensures.value (omega arith) refl
