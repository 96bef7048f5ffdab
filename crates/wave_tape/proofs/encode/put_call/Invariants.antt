use Rattle.std.proofs.Common.{◌≡◌, ◌++◌, drop, take, length, map}
use Rattle.std.specs.List.{flat_map, list_all}
use Rattle.wave_wasm.specs.Text.{is_writable}
use Rattle.wave_tape.specs.Tape.{bytes_of, call_tape}
use Rattle.wave_tape.proofs.encode.put_call.Given as goal

abbrev pub invariant-loop-arg : goal.invariant-loop-arg
invariant-loop-arg g l =
    let left = map g.V.WasmValue.tree (drop l.arg-index l.args) in
    record {
      put : l.out.items ++ flat_map bytes_of left ≡ l.fn.out.items ++ call_tape l.name (map g.V.WasmValue.tree l.args);
      has : list_all is_writable left ≡ list_all is_writable (map g.V.WasmValue.tree l.args);
      kept : take (length l.fn.out.items) l.out.items ≡ l.fn.out.items;
    }
