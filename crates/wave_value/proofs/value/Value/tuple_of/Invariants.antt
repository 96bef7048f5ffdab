use Rattle.std.proofs.Common.{take}
use Rattle.wave_value.specs.Private.ValueModel.{EachAt}
use Rattle.wave_value.proofs.value.Value.tuple_of.Given as goal

abbrev pub invariant-loop-i : goal.invariant-loop-i
invariant-loop-i g l = EachAt (take l.i l.types.items) (take l.i l.vals.items)
