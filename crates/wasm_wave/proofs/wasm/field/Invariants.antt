use Rattle.wave_wasm.specs.Borrowed.{denoted_fields}
use Rattle.wasm_wave.specs.FieldByName.{HasNoField}
use Rattle.wasm_wave.proofs.wasm.field.Given as goal

abbrev pub invariant-loop-own : goal.invariant-loop-own
invariant-loop-own g l = HasNoField l.name (denoted_fields g.V.WasmValue.tree l.yielded)
