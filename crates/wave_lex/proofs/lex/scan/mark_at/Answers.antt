use Rattle.std.proofs.Common.{arith}
use Rattle.wave_lex.proofs.QuickScan.ByteRuns.{mark_here}
use Rattle.wave_lex.proofs.lex.scan.mark_at.Goals as goal

pub returns : goal.returns
returns c = mark_here c.args.text.now _ c.args.mark c.as_bytes-bytes.ensures.value (omega arith) (omega arith) (omega arith)
