use Rattle.std.proofs.Common.{◌∷◌, refl}
use Rattle.wave_convert.proofs.IntoValue.TupleParts.{parts_taken}
use Rattle.wave_convert.proofs.convert.tuples.value_of.Goals as goal

pub tuple_of-requires : goal.tuple_of-requires
tuple_of-requires g c =
    parts_taken (g.A.IntoValue.own ∷ g.P.Parts.owns) _ _ _ _ c.in_ok-ty.ensures c.new-vals.ensures.items c.in_ok-push_values.ensures (refl, g.met.P.Parts.each_own c.args.parts.1)
