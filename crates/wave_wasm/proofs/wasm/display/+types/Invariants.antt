use Rattle.std.proofs.Common.{◌++◌, ◌+◌, ◌*◌, map, drop, codes}
use Rattle.std.specs.String.{string_bytes}
use Rattle.wave_wasm.specs.Borrowed.{denoted}
use Rattle.wave_wasm.specs.Types.{depth, depth_of_maybe, maybe_type}
use Rattle.wave_wasm.specs.TypeText.{type_text}
use Rattle.wave_wasm.proofs.Displays.TextAppend.{Adding}
use Rattle.wave_wasm.proofs.CanonicalText.Sequences.{parted}
use Rattle.wave_wasm.proofs.Displays.TypeParts.{field_text, case_text}
use Rattle.wave_wasm.proofs.wasm.display.+types.Given as goal

abbrev pub decreases-push_type : goal.decreases-push_type
decreases-push_type g l = 3 * depth (g.T.WasmType.tree l.ty.now) + 2

abbrev pub decreases-push_list : goal.decreases-push_list
decreases-push_list g l = 3 * depth (g.T.WasmType.tree l.ty.now) + 1

abbrev pub decreases-push_fixed_length_list : goal.decreases-push_fixed_length_list
decreases-push_fixed_length_list g l = 3 * depth (g.T.WasmType.tree l.ty.now) + 1

abbrev pub decreases-push_option : goal.decreases-push_option
decreases-push_option g l = 3 * depth (g.T.WasmType.tree l.ty.now) + 1

abbrev pub decreases-push_map : goal.decreases-push_map
decreases-push_map g l = 3 * depth (g.T.WasmType.tree l.ty.now) + 1

abbrev pub decreases-push_result : goal.decreases-push_result
decreases-push_result g l = 3 * depth (g.T.WasmType.tree l.ty.now) + 1

abbrev pub decreases-push_record : goal.decreases-push_record
decreases-push_record g l = 3 * depth (g.T.WasmType.tree l.ty.now) + 1

abbrev pub decreases-push_tuple : goal.decreases-push_tuple
decreases-push_tuple g l = 3 * depth (g.T.WasmType.tree l.ty.now) + 1

abbrev pub decreases-push_variant : goal.decreases-push_variant
decreases-push_variant g l = 3 * depth (g.T.WasmType.tree l.ty.now) + 1

abbrev pub decreases-push_payload : goal.decreases-push_payload
decreases-push_payload g l = 3 * depth_of_maybe (maybe_type (denoted g.T.WasmType.tree l.payload)) + 3

abbrev pub invariant-push_record-loop-field : goal.invariant-push_record-loop-field
invariant-push_record-loop-field g l =
    Adding (type_text (g.T.WasmType.tree l.ty)) (parted l.later (map (λ f. field_text (f.0.now, g.T.WasmType.tree f.1.now)) (drop l.field-index l.field-items)) ++ codes " }") (string_bytes l.fn.text) (string_bytes l.text)

abbrev pub invariant-push_tuple-loop-item : goal.invariant-push_tuple-loop-item
invariant-push_tuple-loop-item g l =
    Adding (type_text (g.T.WasmType.tree l.ty)) (parted l.later (map (λ t. type_text (g.T.WasmType.tree t.now)) (drop l.item-index l.item-items)) ++ codes ">") (string_bytes l.fn.text) (string_bytes l.text)

abbrev pub invariant-push_variant-loop-case : goal.invariant-push_variant-loop-case
invariant-push_variant-loop-case g l =
    Adding (type_text (g.T.WasmType.tree l.ty)) (parted l.later (map (λ c. case_text (c.0.now, denoted g.T.WasmType.tree c.1)) (drop l.case-index l.case-items)) ++ codes " }") (string_bytes l.fn.text) (string_bytes l.text)
