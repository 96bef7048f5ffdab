use Rattle.std.proofs.Common.{◌∙◌, ap}
use Rattle.std.specs.BTreeMap.{get_by_text}
use Rattle.wave_type.proofs.ty.places.flag_place.Goals as goal

pub returns-in-Flags : goal.returns-in-Flags
returns-in-Flags c =
    rw (← c.ty.view_is) (rw c.in-Flags.is (c.first_place.ensures ∙ (ap (λ p. get_by_text p.1 c.args.name.now) c.deref.ensures ∙ (rw c.in-Flags.is at c.ty.invariant.places) c.args.name.now)))
