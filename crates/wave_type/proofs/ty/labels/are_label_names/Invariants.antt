use Rattle.std.proofs.Common.{map, take}
use Rattle.wave_type.proofs.DistinctNames.LabelTest.{AreTested}
use Rattle.wave_type.proofs.ty.labels.are_label_names.Given as goal

abbrev pub invariant-loop-i : goal.invariant-loop-i
invariant-loop-i g l = AreTested (take l.i (map g.N.Named.name_of l.items.items))
