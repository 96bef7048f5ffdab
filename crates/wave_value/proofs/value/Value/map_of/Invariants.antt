use Rattle.std.proofs.Common.{take}
use Rattle.wave_value.specs.Private.ValueModel.{EntriesAt}
use Rattle.wave_value.proofs.value.Value.map_of.Given as goal

abbrev pub invariant-loop-entry : goal.invariant-loop-entry
invariant-loop-entry g l = EntriesAt l.key l.value (take l.entry-index l.entry-items)
