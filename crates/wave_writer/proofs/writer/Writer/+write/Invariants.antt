use Rattle.std.proofs.Common.{◌≡◌, ◌++◌, ◌+◌, ◌*◌, ◌&&◌, ℕ, List, map, drop, codes}
use Rattle.std.specs.List.{list_all}
use Rattle.wave_wasm.specs.Commas.{enclosed, behind_name}
use Rattle.wave_wasm.specs.Text.{text, has_text}
use Rattle.wave_wasm.specs.Borrowed.{denoted, denoted_all}
use Rattle.wave_wasm.specs.Values.{Value, maybe_value, depth, depth_of_maybe}
use Rattle.wave_writer.proofs.CanonicalText.WrittenParts.{Writing}
use Rattle.wave_wasm.proofs.CanonicalText.Sequences.{parted, depths}
use Rattle.wave_writer.proofs.CanonicalText.WrittenSequences.{prefixed}
use Rattle.wave_wasm.proofs.CanonicalText.ValueParts.{fields_left}
use Rattle.wave_writer.proofs.writer.Writer.+write.Given as goal

abbrev pub decreases-write_value : goal.decreases-write_value
decreases-write_value g l = 3 * depth (g.V.WasmValue.tree l.val.now) + 2

abbrev pub decreases-write_list : goal.decreases-write_list
decreases-write_list g l = 3 * depth (g.V.WasmValue.tree l.val.now) + 1

abbrev pub decreases-write_tuple : goal.decreases-write_tuple
decreases-write_tuple g l = 3 * depth (g.V.WasmValue.tree l.val.now) + 1

abbrev pub decreases-write_record : goal.decreases-write_record
decreases-write_record g l = 3 * depth (g.V.WasmValue.tree l.val.now) + 1

abbrev pub decreases-write_variant : goal.decreases-write_variant
decreases-write_variant g l = 3 * depth (g.V.WasmValue.tree l.val.now) + 1

abbrev pub decreases-write_option : goal.decreases-write_option
decreases-write_option g l = 3 * depth (g.V.WasmValue.tree l.val.now) + 1

abbrev pub decreases-write_result : goal.decreases-write_result
decreases-write_result g l = 3 * depth (g.V.WasmValue.tree l.val.now) + 1

abbrev pub decreases-write_map : goal.decreases-write_map
decreases-write_map g l = 3 * depth (g.V.WasmValue.tree l.val.now) + 1

abbrev pub decreases-write_items : goal.decreases-write_items
decreases-write_items g l = 3 * depths depth (denoted_all g.V.WasmValue.tree l.items.items) + 3

abbrev pub decreases-write_payload : goal.decreases-write_payload
decreases-write_payload g l = 3 * depth_of_maybe (maybe_value (denoted g.V.WasmValue.tree l.payload)) + 3

abbrev pub invariant-write_items-loop-item : goal.invariant-write_items-loop-item
invariant-write_items-loop-item g l =
    let left = drop l.item-index l.item-items in
    record {
      writing : Writing (enclosed l.opening (map text (denoted_all g.V.WasmValue.tree l.fn.items.items)) l.closing) (prefixed (map (λ v. text (g.V.WasmValue.tree v.now)) left) (text (g.V.WasmValue.tree l.last)) ++ l.closing) (g.W.TextWrite.output l.fn.self) (g.W.TextWrite.output l.self);
      writable : (list_all (λ v. has_text (g.V.WasmValue.tree v.now)) left && has_text (g.V.WasmValue.tree l.last)) ≡ list_all has_text (denoted_all g.V.WasmValue.tree l.fn.items.items);
    }

abbrev pub invariant-write_record-loop-field : goal.invariant-write_record-loop-field
invariant-write_record-loop-field g l =
    let left = drop l.field-index l.field-items in
    record {
      writing : Writing (text (g.V.WasmValue.tree l.val)) (fields_left l.later (map {B = List ℕ × Value} (λ f. (f.0.now, g.V.WasmValue.tree f.1.now)) left)) (g.W.TextWrite.output l.fn.self) (g.W.TextWrite.output l.self);
      writable : list_all (λ f. has_text (g.V.WasmValue.tree f.1.now)) left ≡ has_text (g.V.WasmValue.tree l.val);
    }

abbrev pub invariant-write_map-loop-entry : goal.invariant-write_map-loop-entry
invariant-write_map-loop-entry g l =
    let left = drop l.entry-index l.entry-items in
    record {
      writing : Writing (text (g.V.WasmValue.tree l.val)) (parted l.later (map (λ e. behind_name (text (g.V.WasmValue.tree e.0.now)) (text (g.V.WasmValue.tree e.1.now))) left) ++ codes "}") (g.W.TextWrite.output l.fn.self) (g.W.TextWrite.output l.self);
      writable : list_all (λ e. has_text (g.V.WasmValue.tree e.1.now)) left ≡ has_text (g.V.WasmValue.tree l.val);
    }
