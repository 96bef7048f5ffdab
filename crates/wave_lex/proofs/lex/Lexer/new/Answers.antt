use Rattle.std.proofs.Common.{arith}
use Rattle.std.proofs.lemmas.Str.{IsCharBoundary-start}
use Rattle.wave_lex.proofs.lex.Lexer.new.Goals as goal

pub invariant_of-result : goal.invariant_of-result
invariant_of-result c = record { ordered = omega arith; first = IsCharBoundary-start _ c.utf8.source; last = IsCharBoundary-start _ c.utf8.source }
