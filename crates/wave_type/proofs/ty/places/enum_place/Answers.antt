use Rattle.std.proofs.Common.{◌∙◌, ap}
use Rattle.std.specs.BTreeMap.{get_by_text}
use Rattle.wave_type.proofs.ty.places.enum_place.Goals as goal

pub returns-in-Enum : goal.returns-in-Enum
returns-in-Enum c =
    rw (← c.ty.view_is) (rw c.in-Enum.is (c.first_place.ensures ∙ (ap (λ p. get_by_text p.1 c.args.name.now) c.deref.ensures ∙ (rw c.in-Enum.is at c.ty.invariant.places) c.args.name.now)))
