use Rattle.std.proofs.Common.{rules}
use Rattle.wave_place.specs.Shown.{shown_scalar}
use Rattle.wave_place.proofs.explain.push_scalar.Goals as goal

pub returns-in-9 : goal.returns-in-9
unfolding shown_scalar
returns-in-9 c = search rules

pub returns-in_default : goal.returns-in_default
unfolding shown_scalar
returns-in_default c = search rules

pub returns-in_default-2 : goal.returns-in_default-2
unfolding shown_scalar
returns-in_default-2 c = search rules

pub returns-in_default-3 : goal.returns-in_default-3
unfolding shown_scalar
returns-in_default-3 c = search rules
