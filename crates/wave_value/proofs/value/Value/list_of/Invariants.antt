use Rattle.std.proofs.Common.{take}
use Rattle.wave_value.specs.Private.ValueModel.{AllAt}
use Rattle.wave_value.proofs.value.Value.list_of.Given as goal

abbrev pub invariant-loop-val : goal.invariant-loop-val
invariant-loop-val g l = AllAt l.element (take l.val-index l.val-items)
