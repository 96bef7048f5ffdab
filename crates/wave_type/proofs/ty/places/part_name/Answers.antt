use Rattle.std.proofs.Common.{◌∙◌}
use Rattle.wave_type.proofs.TypeTrees.Lists.{name_at_place}
use Rattle.wave_type.proofs.ty.places.part_name.Goals as goal

pub returns : goal.returns
returns g c =
    c.as_str.ensures.value ∙ name_at_place c.args.parts.now c.args.place c.index-parts-place.result c.if-place-parts.false c.index-parts-place.is
