use Rattle.std.proofs.Common.{arith}
use Rattle.wave_tape.proofs.PlainTexts.{plain_table}
use Rattle.wave_tape.proofs.plain.PlainByteSet.has.Goals as goal

pub returns : goal.returns
returns c = plain_table c.args.byte (omega arith)
