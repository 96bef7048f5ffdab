use Rattle.std.proofs.Common.{◌≡◌, ◌++◌, drop, take, length}
use Rattle.std.specs.List.{flat_map}
use Rattle.wave_wasm.specs.Borrowed.{texts}
use Rattle.wave_tape.specs.Tape.{text_bytes, name_bytes, count_bytes}
use Rattle.wave_tape.proofs.encode.put_names.Given as goal

abbrev pub invariant-loop-name : goal.invariant-loop-name
invariant-loop-name l = record {
  put : l.out.items ++ flat_map text_bytes (texts (drop l.name-index l.names)) ≡ l.fn.out.items ++ (count_bytes (length (texts l.names)) ++ name_bytes (texts l.names));
  kept : take (length l.fn.out.items) l.out.items ≡ l.fn.out.items;
}
