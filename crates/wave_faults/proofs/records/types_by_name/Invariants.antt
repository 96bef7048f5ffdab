use Rattle.std.proofs.Common.{◌≤◌, drop, length}
use Rattle.wave_wasm.specs.Borrowed.{denoted_fields}
use Rattle.wave_faults.specs.Private.RecordFaults.{LooksUp}
use Rattle.wave_faults.proofs.records.types_by_name.Given as goal

abbrev pub invariant-loop-i : goal.invariant-loop-i
invariant-loop-i g l = record {
  within : l.i ≤ length l.fields;
  held : LooksUp g.T.WasmType.tree l.types (drop l.i (denoted_fields g.T.WasmType.tree l.fields));
}

abbrev pub decreases-loop-i : goal.decreases-loop-i
decreases-loop-i g l = l.i
