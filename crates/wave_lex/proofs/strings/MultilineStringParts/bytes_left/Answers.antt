use Rattle.std.proofs.Common.{arith}
use Rattle.wave_lex.proofs.strings.MultilineStringParts.bytes_left.Goals as goal

pub returns : goal.returns
returns c = rw (← c.self.view_is) (omega arith)
