use Rattle.std.proofs.Common.{map, take}
use Rattle.wave_type.specs.Private.NameIndex.{AreFirstPlaces}
use Rattle.wave_type.proofs.ty.index.first_places.Given as goal

abbrev pub invariant-loop-i : goal.invariant-loop-i
invariant-loop-i g l = AreFirstPlaces l.places (take l.i (map g.N.Named.name_of l.items.items))
