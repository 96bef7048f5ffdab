use Rattle.std.proofs.Common.{◌≡◌, true, subst}
use Rattle.wave_type.specs.TypeEquality.{same_tree}
use Rattle.wave_type.specs.TypeEqualityLaws.{one_tree, same_itself}
use Rattle.wave_type.proofs.laws.equal_types.Goals as goal

pub returns : goal.returns
returns c = λ T U. (one_tree T U, λ e. subst (λ V. same_tree T V ≡ true) e (same_itself T))
