use Rattle.std.proofs.Common.{subst}
use Rattle.wave_value.specs.TypedValue.{IsTyped}
use Rattle.wave_value.proofs.ValueModel.ContentMeaning.{means}
use Rattle.wave_value.proofs.value.Value.ty.Goals as goal

pub returns-clause-typed : goal.returns-clause-typed
returns-clause-typed c = subst IsTyped c.self.view_is (means c.self.inside.own c.self.inside.content c.self.invariant)
