use Rattle.std.proofs.Common.{◌≡◌, ◌++◌, drop, take, length}
use Rattle.std.specs.List.{list_all}
use Rattle.wave_wasm.specs.Borrowed.{texts, denoted_all}
use Rattle.wave_tape.specs.TypeTape.{has_type_tape, counted_type_bytes}
use Rattle.wave_tape.proofs.NamedTypes.{named_left}
use Rattle.wave_tape.proofs.encode_type.put_named_types.Given as goal

abbrev pub invariant-loop-i : goal.invariant-loop-i
invariant-loop-i g l = record {
  put : l.out.items ++ named_left (λ t. g.T.WasmType.tree t.now) (texts l.names) l.types l.i ≡ l.fn.out.items ++ counted_type_bytes (texts l.names) (denoted_all g.T.WasmType.tree l.types);
  has : list_all has_type_tape (denoted_all g.T.WasmType.tree (drop l.i l.types)) ≡ list_all has_type_tape (denoted_all g.T.WasmType.tree l.types);
  kept : take (length l.fn.out.items) l.out.items ≡ l.fn.out.items;
}
