use Rattle.std.proofs.Common.{None, arith, inr, refl}
use Rattle.std.proofs.lemmas.Str.Pattern.{strip_suffix_char}
use Rattle.wave_place.proofs.place.without_return.Goals as goal

pub returns-in-None : goal.returns-in-None
returns-in-None c = inr (refl, λ (prefix, ends). strip_suffix_char 13 c.args.line.now None c.in-None.ensures.cases (omega arith) prefix ends)
