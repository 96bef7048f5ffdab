use Rattle.std.proofs.Common.{◌≡◌, true, subst}
use Rattle.wave_value.specs.ValueEquality.{same_typed, one_typed, typed_itself}
use Rattle.wave_value.proofs.laws.equal_values.Goals as goal

pub returns : goal.returns
returns c = λ v w. (one_typed v w, λ e. subst (λ u. same_typed v u ≡ true) e (typed_itself v))
