use Rattle.std.proofs.Common.{◌≡◌, ◌++◌, ◌+◌, ◌*◌, drop, take, length}
use Rattle.std.specs.List.{flat_map, list_all}
use Rattle.wave_wasm.specs.Borrowed.{denoted, denoted_all, denoted_fields, denoted_pairs}
use Rattle.wave_wasm.specs.Values.{depth, depth_of_maybe, maybe_value}
use Rattle.wave_wasm.proofs.CanonicalText.Sequences.{depths}
use Rattle.wave_wasm.specs.Text.{is_writable}
use Rattle.wave_tape.specs.Tape.{bytes_of}
use Rattle.wave_tape.proofs.Values.{one_field, has_field, one_entry, has_entry}
use Rattle.wave_tape.proofs.encode.+put.Given as goal

abbrev pub decreases-put_value : goal.decreases-put_value
decreases-put_value g l = 5 * depth (g.V.WasmValue.tree l.val.now) + 2

abbrev pub decreases-put_list : goal.decreases-put_list
decreases-put_list g l = 5 * depth (g.V.WasmValue.tree l.val.now) + 1

abbrev pub decreases-put_fixed : goal.decreases-put_fixed
decreases-put_fixed g l = 5 * depth (g.V.WasmValue.tree l.val.now) + 1

abbrev pub decreases-put_tuple : goal.decreases-put_tuple
decreases-put_tuple g l = 5 * depth (g.V.WasmValue.tree l.val.now) + 1

abbrev pub decreases-put_record : goal.decreases-put_record
decreases-put_record g l = 5 * depth (g.V.WasmValue.tree l.val.now) + 1

abbrev pub decreases-put_variant : goal.decreases-put_variant
decreases-put_variant g l = 5 * depth (g.V.WasmValue.tree l.val.now) + 1

abbrev pub decreases-put_option : goal.decreases-put_option
decreases-put_option g l = 5 * depth (g.V.WasmValue.tree l.val.now) + 1

abbrev pub decreases-put_result : goal.decreases-put_result
decreases-put_result g l = 5 * depth (g.V.WasmValue.tree l.val.now) + 1

abbrev pub decreases-put_map : goal.decreases-put_map
decreases-put_map g l = 5 * depth (g.V.WasmValue.tree l.val.now) + 1

abbrev pub decreases-put_row : goal.decreases-put_row
decreases-put_row g l = 5 * depths depth (denoted_all g.V.WasmValue.tree l.items.now) + 4

abbrev pub decreases-put_items : goal.decreases-put_items
decreases-put_items g l = 5 * depths depth (denoted_all g.V.WasmValue.tree l.items.now) + 3

abbrev pub decreases-put_payload : goal.decreases-put_payload
decreases-put_payload g l = 5 * depth_of_maybe (maybe_value (denoted g.V.WasmValue.tree l.payload)) + 3

abbrev pub invariant-put_items-loop-item : goal.invariant-put_items-loop-item
invariant-put_items-loop-item g l =
    let left = denoted_all g.V.WasmValue.tree (drop l.item-index l.items) in
    record {
      put : l.out.items ++ flat_map bytes_of left ≡ l.fn.out.items ++ flat_map bytes_of (denoted_all g.V.WasmValue.tree l.items);
      has : list_all is_writable left ≡ list_all is_writable (denoted_all g.V.WasmValue.tree l.items);
      kept : take (length l.fn.out.items) l.out.items ≡ l.fn.out.items;
    }

abbrev pub invariant-put_record-loop-field : goal.invariant-put_record-loop-field
invariant-put_record-loop-field g l =
    let left = denoted_fields g.V.WasmValue.tree (drop l.field-index l.field-items) in
    record {
      put : l.out.items ++ flat_map one_field left ≡ l.fn.out.items ++ bytes_of (g.V.WasmValue.tree l.val);
      has : list_all has_field left ≡ is_writable (g.V.WasmValue.tree l.val);
      kept : take (length l.fn.out.items) l.out.items ≡ l.fn.out.items;
    }

abbrev pub invariant-put_map-loop-entry : goal.invariant-put_map-loop-entry
invariant-put_map-loop-entry g l =
    let left = denoted_pairs g.V.WasmValue.tree (drop l.entry-index l.entry-items) in
    record {
      put : l.out.items ++ flat_map one_entry left ≡ l.fn.out.items ++ bytes_of (g.V.WasmValue.tree l.val);
      has : list_all has_entry left ≡ is_writable (g.V.WasmValue.tree l.val);
      kept : take (length l.fn.out.items) l.out.items ≡ l.fn.out.items;
    }
