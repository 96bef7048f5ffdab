use Rattle.std.proofs.Common.{subst}
use Rattle.memchr.specs.Find.{IsFirstByte, is_byte}
use Rattle.wave.proofs.LineReading.{first_end}
use Rattle.wave.proofs.lines.Unread.line_end.Goals as goal

pub returns : goal.returns
returns c = first_end _ c.memchr.result (subst (λ bytes. IsFirstByte (is_byte 10) bytes c.memchr.result) c.bytes.ensures c.memchr.ensures)
