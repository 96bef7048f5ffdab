use Rattle.std.proofs.Common.{◌≡◌, ◌++◌, ◌+◌, ◌*◌, drop, take, length}
use Rattle.std.specs.List.{flat_map, list_all}
use Rattle.wave_wasm.specs.Borrowed.{denoted, denoted_all, denoted_fields, denoted_cases}
use Rattle.wave_wasm.specs.Types.{depth, depth_of_maybe, maybe_type}
use Rattle.wave_tape.specs.TypeTape.{type_bytes, has_type_tape}
use Rattle.wave_tape.proofs.TypeTapes.{one_field, has_field, one_case, has_case}
use Rattle.wave_tape.proofs.encode_type.+put.Given as goal

abbrev pub decreases-put_type : goal.decreases-put_type
decreases-put_type g l = 3 * depth (g.T.WasmType.tree l.ty.now) + 2

abbrev pub decreases-put_list : goal.decreases-put_list
decreases-put_list g l = 3 * depth (g.T.WasmType.tree l.ty.now) + 1

abbrev pub decreases-put_tuple : goal.decreases-put_tuple
decreases-put_tuple g l = 3 * depth (g.T.WasmType.tree l.ty.now) + 1

abbrev pub decreases-put_record : goal.decreases-put_record
decreases-put_record g l = 3 * depth (g.T.WasmType.tree l.ty.now) + 1

abbrev pub decreases-put_variant : goal.decreases-put_variant
decreases-put_variant g l = 3 * depth (g.T.WasmType.tree l.ty.now) + 1

abbrev pub decreases-put_option : goal.decreases-put_option
decreases-put_option g l = 3 * depth (g.T.WasmType.tree l.ty.now) + 1

abbrev pub decreases-put_result : goal.decreases-put_result
decreases-put_result g l = 3 * depth (g.T.WasmType.tree l.ty.now) + 1

abbrev pub decreases-put_map : goal.decreases-put_map
decreases-put_map g l = 3 * depth (g.T.WasmType.tree l.ty.now) + 1

abbrev pub decreases-put_fixed : goal.decreases-put_fixed
decreases-put_fixed g l = 3 * depth (g.T.WasmType.tree l.ty.now) + 1

abbrev pub decreases-put_payload : goal.decreases-put_payload
decreases-put_payload g l = 3 * depth_of_maybe (maybe_type (denoted g.T.WasmType.tree l.payload)) + 3

abbrev pub invariant-put_tuple-loop-item : goal.invariant-put_tuple-loop-item
invariant-put_tuple-loop-item g l =
    let left = denoted_all g.T.WasmType.tree (drop l.item-index l.item-items) in
    record {
      put : l.out.items ++ flat_map type_bytes left ≡ l.fn.out.items ++ type_bytes (g.T.WasmType.tree l.ty);
      has : list_all has_type_tape left ≡ has_type_tape (g.T.WasmType.tree l.ty);
      kept : take (length l.fn.out.items) l.out.items ≡ l.fn.out.items;
    }

abbrev pub invariant-put_record-loop-field : goal.invariant-put_record-loop-field
invariant-put_record-loop-field g l =
    let left = denoted_fields g.T.WasmType.tree (drop l.field-index l.field-items) in
    record {
      put : l.out.items ++ flat_map one_field left ≡ l.fn.out.items ++ type_bytes (g.T.WasmType.tree l.ty);
      has : list_all has_field left ≡ has_type_tape (g.T.WasmType.tree l.ty);
      kept : take (length l.fn.out.items) l.out.items ≡ l.fn.out.items;
    }

abbrev pub invariant-put_variant-loop-case : goal.invariant-put_variant-loop-case
invariant-put_variant-loop-case g l =
    let left = denoted_cases g.T.WasmType.tree (drop l.case-index l.case-items) in
    record {
      put : l.out.items ++ flat_map one_case left ≡ l.fn.out.items ++ type_bytes (g.T.WasmType.tree l.ty);
      has : list_all has_case left ≡ has_type_tape (g.T.WasmType.tree l.ty);
      kept : take (length l.fn.out.items) l.out.items ≡ l.fn.out.items;
    }
