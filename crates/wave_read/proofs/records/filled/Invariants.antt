use Rattle.wave_read.specs.Private.RecordParts.{AreFull}
use Rattle.wave_read.proofs.records.filled.Given as goal

abbrev pub invariant-loop-field : goal.invariant-loop-field
invariant-loop-field g l = AreFull g.V.WasmValue.tree g.V.WasmValue.is_of g.V.Type.WasmType.tree l.yielded l.all.items
