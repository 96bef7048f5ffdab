use Rattle.std.proofs.Common.{refl}
use Rattle.wave_lex.proofs.MultilineStrings.JoinedLines.{refused_escape}
use Rattle.wave_lex.proofs.strings.StringPartsIterator.next.Goals as goal

pub returns-in-Err-clause-steps : goal.returns-in-Err-clause-steps
returns-in-Err-clause-steps c = refused_escape c.args.self.now c.part.new.self _ c.in-Err.error c.in_default.ensures c.in-Err.ensures refl
