use Rattle.std.proofs.Common.{subst}
use Rattle.wave_value.specs.Private.ConstructorRules.{Reports}
use Rattle.wave_value.proofs.ConstructorAnswers.ListsAndEnums.{tells}
use Rattle.wave_value.proofs.value.Value.is_at.Goals as goal

pub returns : goal.returns
returns c =
    subst (Reports c.eq.result c.args.ty.now) c.self.view_is (tells c.eq.result c.self.inside.own c.args.ty.now c.self.inside.content c.eq.ensures c.self.invariant)
