use Rattle.wave_grammar.proofs.Unambiguity.Levels.{takes-levels, takes-within}
use Rattle.wave_grammar.proofs.laws.levels_are_exact.Goals as goal

pub returns : goal.returns
returns c = λ n tokens rest t h. (takes-levels n tokens t rest h, λ m l. takes-within n m tokens t rest l h)
