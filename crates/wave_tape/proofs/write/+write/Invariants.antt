use Rattle.std.proofs.Common.{◌≡◌, ◌-◌, ◌+◌, ◌*◌, ◌++◌, ℕ, List, max, map, take, drop, codes}
use Rattle.std.specs.String.{string_bytes}
use Rattle.wave_wasm.specs.Text.{text}
use Rattle.wave_wasm.specs.Types.{depth, depth_of_maybe, maybe_type}
use Rattle.wave_wasm.specs.Values.{Value}
use Rattle.wave_wasm.specs.Borrowed.{denoted, denoted_all, denoted_fields}
use Rattle.wave_tape.specs.Reading.{value_at, times, pair_at}
use Rattle.wave_tape.specs.Private.Readers.{each_at, each_field_at}
use Rattle.wave_tape.specs.Private.TextWriters.{entry_texts, held_texts}
use Rattle.wave_tape.proofs.Loops.{with_front}
use Rattle.wave_tape.proofs.WrittenReadings.{Joining, Opening}
use Rattle.wave_tape.proofs.write.+write.Given as goal

abbrev pub decreases-write_value : goal.decreases-write_value
decreases-write_value g l = 5 * depth (g.V.Type.WasmType.tree l.ty.now) + 2

abbrev pub decreases-write_list : goal.decreases-write_list
decreases-write_list g l = 5 * depth (g.V.Type.WasmType.tree l.ty.now) + 1

abbrev pub decreases-write_tuple : goal.decreases-write_tuple
decreases-write_tuple g l = 5 * depth (g.V.Type.WasmType.tree l.ty.now) + 1

abbrev pub decreases-write_record : goal.decreases-write_record
decreases-write_record g l = 5 * depth (g.V.Type.WasmType.tree l.ty.now) + 1

abbrev pub decreases-write_variant : goal.decreases-write_variant
decreases-write_variant g l = 5 * depth (g.V.Type.WasmType.tree l.ty.now) + 1

abbrev pub decreases-write_option : goal.decreases-write_option
decreases-write_option g l = 5 * depth (g.V.Type.WasmType.tree l.ty.now) + 1

abbrev pub decreases-write_result : goal.decreases-write_result
decreases-write_result g l = 5 * depth (g.V.Type.WasmType.tree l.ty.now) + 1

abbrev pub decreases-write_map : goal.decreases-write_map
decreases-write_map g l = 5 * depth (g.V.Type.WasmType.tree l.ty.now) + 1

abbrev pub decreases-write_items : goal.decreases-write_items
decreases-write_items g l = 5 * depth (g.V.Type.WasmType.tree l.ty.now) + 3

abbrev pub decreases-write_payload : goal.decreases-write_payload
decreases-write_payload g l = 5 * depth_of_maybe (maybe_type (denoted g.V.Type.WasmType.tree l.expected)) + 3

abbrev pub decreases-entry_texts : goal.decreases-entry_texts
decreases-entry_texts g l = 5 * max (depth (g.V.Type.WasmType.tree l.key_ty.now)) (depth (g.V.Type.WasmType.tree l.val_ty.now)) + 3

abbrev pub invariant-write_items-loop : goal.invariant-write_items-loop
invariant-write_items-loop g l =
    let T = g.V.Type.WasmType.tree l.ty in
    (vs : List Value) × (with_front vs (times (value_at T) (l.count - l.counter) l.rest) ≡ times (value_at T) l.count l.bytes) × Joining (string_bytes l.fn.out) (map text vs) l.later (string_bytes l.out)

abbrev pub invariant-write_tuple-loop-item : goal.invariant-write_tuple-loop-item
invariant-write_tuple-loop-item g l =
    let tree = g.V.Type.WasmType.tree in
    (vs : List Value) × (with_front vs (each_at (denoted_all tree (drop l.item-index l.item-items)) l.rest) ≡ each_at (denoted_all tree l.item-items) l.initial.rest)
    × Joining (string_bytes l.fn.out ++ codes "(") (map text vs) l.later (string_bytes l.out)

abbrev pub invariant-write_record-loop-field : goal.invariant-write_record-loop-field
invariant-write_record-loop-field g l =
    let tree = g.V.Type.WasmType.tree in
    (fs : List (List ℕ × Value)) × (with_front fs (each_field_at (denoted_fields tree (drop l.field-index l.field-items)) l.rest) ≡ each_field_at (denoted_fields tree l.field-items) l.initial.rest)
    × Opening (string_bytes l.fn.out) fs l.later (string_bytes l.out)

abbrev pub invariant-write_map-loop-entry : goal.invariant-write_map-loop-entry
invariant-write_map-loop-entry g l = map (λ n. n.now) l.texts.items ≡ map (λ m. string_bytes m.1) (take l.entry-index l.entry-items)

abbrev pub invariant-entry_texts-loop : goal.invariant-entry_texts-loop
invariant-entry_texts-loop g l =
    let K = g.V.Type.WasmType.tree l.key_ty in
    let V = g.V.Type.WasmType.tree l.val_ty in
    (es : List (Value × Value)) × (with_front es (times (pair_at (value_at K) (value_at V)) (l.count - l.counter) l.rest) ≡ times (pair_at (value_at K) (value_at V)) l.count l.bytes)
    × (map held_texts l.entries.items ≡ map entry_texts es)
