use Rattle.std.proofs.Common.{◌≡◌, ◌+◌, ◌*◌, map, drop}
use Rattle.wave_wasm.specs.Borrowed.{denoted, named}
use Rattle.wave_wasm.specs.Types.{depth, depth_of_maybe, maybe_type, is_representable}
use Rattle.wave_type.specs.TypeConstructors.{tuple_type, record_type, variant_type}
use Rattle.wave_type.specs.TypeConversion.{converted_type}
use Rattle.wave_type.proofs.TypeTrees.Conversion.{can_be_payload, remaining}
use Rattle.wave_type.proofs.ty.+conversion.Given as goal

abbrev pub decreases-Type::from_wasm_type : goal.decreases-Type::from_wasm_type
decreases-Type::from_wasm_type g l = 3 * depth (g.T.WasmType.tree l.ty.now) + 2

abbrev pub decreases-conversion::convert_list : goal.decreases-conversion::convert_list
decreases-conversion::convert_list g l = 3 * depth (g.T.WasmType.tree l.ty.now) + 1

abbrev pub decreases-conversion::convert_result : goal.decreases-conversion::convert_result
decreases-conversion::convert_result g l = 3 * depth (g.T.WasmType.tree l.ty.now) + 1

abbrev pub decreases-conversion::convert_record : goal.decreases-conversion::convert_record
decreases-conversion::convert_record g l = 3 * depth (g.T.WasmType.tree l.ty.now) + 1

abbrev pub decreases-conversion::convert_tuple : goal.decreases-conversion::convert_tuple
decreases-conversion::convert_tuple g l = 3 * depth (g.T.WasmType.tree l.ty.now) + 1

abbrev pub decreases-conversion::convert_variant : goal.decreases-conversion::convert_variant
decreases-conversion::convert_variant g l = 3 * depth (g.T.WasmType.tree l.ty.now) + 1

abbrev pub decreases-conversion::convert_payload : goal.decreases-conversion::convert_payload
decreases-conversion::convert_payload g l = 3 * depth_of_maybe (maybe_type (denoted g.T.WasmType.tree l.payload)) + 3

abbrev pub invariant-conversion::convert_record-loop-field : goal.invariant-conversion::convert_record-loop-field
invariant-conversion::convert_record-loop-field g l =
    converted_type (g.T.WasmType.tree l.ty) ≡ remaining (λ f. is_representable f.1) record_type (named l.converted.items) (map (λ f. (f.0.now, g.T.WasmType.tree f.1.now)) (drop l.field-index l.field-items))

abbrev pub invariant-conversion::convert_tuple-loop-item : goal.invariant-conversion::convert_tuple-loop-item
invariant-conversion::convert_tuple-loop-item g l =
    converted_type (g.T.WasmType.tree l.ty) ≡ remaining is_representable tuple_type l.converted.items (map (λ t. g.T.WasmType.tree t.now) (drop l.item-index l.item-items))

abbrev pub invariant-conversion::convert_variant-loop-case : goal.invariant-conversion::convert_variant-loop-case
invariant-conversion::convert_variant-loop-case g l =
    converted_type (g.T.WasmType.tree l.ty) ≡ remaining can_be_payload variant_type (named l.converted.items) (map (λ c. (c.0.now, denoted g.T.WasmType.tree c.1)) (drop l.case-index l.case-items))
