use Rattle.std.proofs.Common.{arith, length, map, sym, ◌≡◌, ◌∙◌}
use Rattle.std.specs.Vec.{vec_len}
use Rattle.std.proofs.lemmas.List.{length-map}
use Rattle.wave_type.proofs.DistinctNames.CountedPlaces.{tells_distinct}
use Rattle.wave_type.proofs.ty.index.are_distinct.Goals as goal

pub returns : goal.returns
returns g c =
    let items = c.args.items.now in
    let counted : vec_len items ≡ length items.items = omega (arith, items.ok.0) in
    tells_distinct c.args.places.now (map g.N.Named.name_of items.items) c.requires c.len-2.ensures.ordered c.len.result c.len-2.result
    (c.len.ensures ∙ (counted ∙ sym (length-map items.items g.N.Named.name_of)))
    c.len-2.ensures.len
