use Rattle.wave_lex.proofs.StringDecoding.EscapesFound.{DigitsSoFar}
use Rattle.wave_lex.proofs.strings.hexadecimal.Given as goal

abbrev pub invariant-loop-i : goal.invariant-loop-i
invariant-loop-i l = DigitsSoFar l.bytes l.i l.value
