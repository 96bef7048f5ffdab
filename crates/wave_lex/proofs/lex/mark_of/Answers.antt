use Rattle.std.proofs.Common.{arith, refl}
use Rattle.wave_lex.proofs.Tokenization.Marks.{numbered}
use Rattle.wave_lex.proofs.lex.mark_of.Goals as goal

pub returns-in-48 : goal.returns-in-48
returns-in-48 c = numbered c.args.byte 48 (omega arith) c.in-48.is refl

pub returns-in-49 : goal.returns-in-49
returns-in-49 c = numbered c.args.byte 49 (omega arith) c.in-49.is refl

pub returns-in-50 : goal.returns-in-50
returns-in-50 c = numbered c.args.byte 50 (omega arith) c.in-50.is refl

pub returns-in-51 : goal.returns-in-51
returns-in-51 c = numbered c.args.byte 51 (omega arith) c.in-51.is refl

pub returns-in-52 : goal.returns-in-52
returns-in-52 c = numbered c.args.byte 52 (omega arith) c.in-52.is refl

pub returns-in-53 : goal.returns-in-53
returns-in-53 c = numbered c.args.byte 53 (omega arith) c.in-53.is refl

pub returns-in-54 : goal.returns-in-54
returns-in-54 c = numbered c.args.byte 54 (omega arith) c.in-54.is refl

pub returns-in-55 : goal.returns-in-55
returns-in-55 c = numbered c.args.byte 55 (omega arith) c.in-55.is refl
