use Rattle.std.proofs.Common.{arith, ◌≡◌, ℕ, List, ap, subst, ◌∙◌, Bor, map, Option}
use Rattle.std.specs.Result.{IfOk}
use Rattle.wave_wasm.specs.Borrowed.{denoted, named}
use Rattle.wave_wasm.specs.Types.{TypeTree, is_representable, depth}
use Rattle.wave_type.specs.TypeConstructors.{tuple_type, record_type, variant_type}
use Rattle.wave_wasm.proofs.CanonicalText.Sequences.{part_depth}
use Rattle.wave_wasm.proofs.Displays.TypeParts.{record_is, tuple_is, variant_is, field_depth, case_depth}
use Rattle.wave_type.proofs.TypeTrees.Conversion.{record_start, tuple_start, variant_start, can_be_payload, converted_is, refused_is, payload_is, refused_payload, remaining_more, remaining_none, remaining_done, pushed, named_pushed}
use Rattle.wave_type.proofs.ty.+conversion.Goals as goal

pub conversion::convert_record-loop-field-init : goal.conversion::convert_record-loop-field-init
conversion::convert_record-loop-field-init g t c =
    let f : Bor (List ℕ) × Bor g.row.T.Denot → List ℕ × TypeTree = λ x. (x.0.now, g.T.WasmType.tree x.1.now) in
    record_start _ _ _ c.requires (ap (map f) c.deref-field-items.ensures.value ∙ c.in_ok-fields.ensures) (ap named c.new-converted.ensures.items)

pub conversion::convert_record-from_wasm_type-requires : goal.conversion::convert_record-from_wasm_type-requires
conversion::convert_record-from_wasm_type-requires g t c κs within =
    let f : Bor (List ℕ) × Bor g.row.T.Denot → List ℕ × TypeTree = λ x. (x.0.now, g.T.WasmType.tree x.1.now) in
    let s = record_is _ _ c.requires c.in_ok-fields.ensures in
    let d = s.depth_is in
    let h = part_depth field_depth f c.deref-field-items.result.now _ c.loop-field.field-index c.field-item.result c.deref-field-items.ensures.value c.loop-field-test.true c.field-item.is in
    (omega (arith, h, d), within)

pub conversion::convert_tuple-loop-item-init : goal.conversion::convert_tuple-loop-item-init
conversion::convert_tuple-loop-item-init g t c =
    let f : Bor g.row.T.Denot → TypeTree = λ x. g.T.WasmType.tree x.now in
    tuple_start _ _ _ c.requires (ap (map f) c.deref-item-items.ensures.value ∙ c.in_ok-items.ensures) c.new-converted.ensures.items

pub conversion::convert_tuple-from_wasm_type-requires : goal.conversion::convert_tuple-from_wasm_type-requires
conversion::convert_tuple-from_wasm_type-requires g t c κs within =
    let f : Bor g.row.T.Denot → TypeTree = λ x. g.T.WasmType.tree x.now in
    let s = tuple_is _ _ c.requires c.in_ok-items.ensures in
    let d = s.depth_is in
    let h = part_depth depth f c.deref-item-items.result.now _ c.loop-item.item-index c.item-item.result c.deref-item-items.ensures.value c.loop-item-test.true c.item-item.is in
    (omega (arith, h, d), within)

pub conversion::convert_variant-loop-case-init : goal.conversion::convert_variant-loop-case-init
conversion::convert_variant-loop-case-init g t c =
    let f : Bor (List ℕ) × Option (Bor g.row.T.Denot) → List ℕ × Option TypeTree = λ x. (x.0.now, denoted g.T.WasmType.tree x.1) in
    variant_start _ _ _ c.requires (ap (map f) c.deref-case-items.ensures.value ∙ c.in_ok-cases.ensures) (ap named c.new-converted.ensures.items)

pub conversion::convert_variant-convert_payload-requires : goal.conversion::convert_variant-convert_payload-requires
conversion::convert_variant-convert_payload-requires g t c κs within =
    let f : Bor (List ℕ) × Option (Bor g.row.T.Denot) → List ℕ × Option TypeTree = λ x. (x.0.now, denoted g.T.WasmType.tree x.1) in
    let s = variant_is _ _ c.requires c.in_ok-cases.ensures in
    let d = s.depth_is in
    let h = part_depth case_depth f c.deref-case-items.result.now _ c.loop-case.case-index c.case-item.result c.deref-case-items.ensures.value c.loop-case-test.true c.case-item.is in
    (omega (arith, h, d), within)

pub conversion::convert_tuple-loop-item-preserved : goal.conversion::convert_tuple-loop-item-preserved
conversion::convert_tuple-loop-item-preserved g t c =
    let f : Bor g.row.T.Denot → TypeTree = λ x. g.T.WasmType.tree x.now in
    let representable = converted_is (f c.item-item.result) c.in-Some.item _ c.in_ok-item.ensures c.in-Some.is in
    remaining_more is_representable tuple_type f c.deref-item-items.result.now c.loop-item.item-index c.item-item.result c.loop-item.converted.items _ _ c.loop-item.invariant c.loop-item-test.true c.item-item.is representable.0 (pushed _ _ _ _ c.in_ok-push.ensures.items representable.1)

pub conversion::convert_tuple-returns : goal.conversion::convert_tuple-returns
conversion::convert_tuple-returns g t c =
    let f : Bor g.row.T.Denot → TypeTree = λ x. g.T.WasmType.tree x.now in
    subst (λ (whole : Option TypeTree). IfOk c.tuple.result (λ r. r ≡ whole)) (remaining_done is_representable tuple_type f c.deref-item-items.result.now c.loop-item.item-index c.loop-item.converted.items _ c.loop-item.invariant c.loop-item-test.false) c.tuple.ensures

pub conversion::convert_tuple-returns-in_default : goal.conversion::convert_tuple-returns-in_default
conversion::convert_tuple-returns-in_default g t c =
    let f : Bor g.row.T.Denot → TypeTree = λ x. g.T.WasmType.tree x.now in
    remaining_none is_representable tuple_type f c.deref-item-items.result.now c.loop-item.item-index c.item-item.result c.loop-item.converted.items _ c.loop-item.invariant c.loop-item-test.true c.item-item.is (refused_is (f c.item-item.result) _ c.in_ok-item.ensures c.in_default.is)

pub conversion::convert_record-loop-field-preserved : goal.conversion::convert_record-loop-field-preserved
conversion::convert_record-loop-field-preserved g t c =
    let f : Bor (List ℕ) × Bor g.row.T.Denot → List ℕ × TypeTree = λ x. (x.0.now, g.T.WasmType.tree x.1.now) in
    let representable = converted_is ((f c.field-item.result).1) c.in-Some.field_type _ c.in_ok-field_type.ensures c.in-Some.is in
    remaining_more (λ f. is_representable f.1) record_type f c.deref-field-items.result.now c.loop-field.field-index c.field-item.result (named c.loop-field.converted.items) _ _ c.loop-field.invariant c.loop-field-test.true c.field-item.is representable.0 (named_pushed _ _ _ _ _ c.in_ok-push.ensures.items representable.1)

pub conversion::convert_record-returns : goal.conversion::convert_record-returns
conversion::convert_record-returns g t c =
    let f : Bor (List ℕ) × Bor g.row.T.Denot → List ℕ × TypeTree = λ x. (x.0.now, g.T.WasmType.tree x.1.now) in
    subst (λ (whole : Option TypeTree). IfOk c.record.result (λ r. r ≡ whole)) (remaining_done (λ f. is_representable f.1) record_type f c.deref-field-items.result.now c.loop-field.field-index (named c.loop-field.converted.items) _ c.loop-field.invariant c.loop-field-test.false) c.record.ensures

pub conversion::convert_record-returns-in_default : goal.conversion::convert_record-returns-in_default
conversion::convert_record-returns-in_default g t c =
    let f : Bor (List ℕ) × Bor g.row.T.Denot → List ℕ × TypeTree = λ x. (x.0.now, g.T.WasmType.tree x.1.now) in
    remaining_none (λ f. is_representable f.1) record_type f c.deref-field-items.result.now c.loop-field.field-index c.field-item.result (named c.loop-field.converted.items) _ c.loop-field.invariant c.loop-field-test.true c.field-item.is (refused_is ((f c.field-item.result).1) _ c.in_ok-field_type.ensures c.in_default.is)

pub conversion::convert_variant-loop-case-preserved : goal.conversion::convert_variant-loop-case-preserved
conversion::convert_variant-loop-case-preserved g t c =
    let f : Bor (List ℕ) × Option (Bor g.row.T.Denot) → List ℕ × Option TypeTree = λ x. (x.0.now, denoted g.T.WasmType.tree x.1) in
    let representable = payload_is ((f c.case-item.result).1) c.in-Some.payload _ c.in_ok-payload.ensures c.in-Some.is in
    remaining_more can_be_payload variant_type f c.deref-case-items.result.now c.loop-case.case-index c.case-item.result (named c.loop-case.converted.items) _ _ c.loop-case.invariant c.loop-case-test.true c.case-item.is representable.0 (named_pushed _ _ _ _ _ c.in_ok-push.ensures.items representable.1)

pub conversion::convert_variant-returns : goal.conversion::convert_variant-returns
conversion::convert_variant-returns g t c =
    let f : Bor (List ℕ) × Option (Bor g.row.T.Denot) → List ℕ × Option TypeTree = λ x. (x.0.now, denoted g.T.WasmType.tree x.1) in
    subst (λ (whole : Option TypeTree). IfOk c.variant.result (λ r. r ≡ whole)) (remaining_done can_be_payload variant_type f c.deref-case-items.result.now c.loop-case.case-index (named c.loop-case.converted.items) _ c.loop-case.invariant c.loop-case-test.false) c.variant.ensures

pub conversion::convert_variant-returns-in_default : goal.conversion::convert_variant-returns-in_default
conversion::convert_variant-returns-in_default g t c =
    let f : Bor (List ℕ) × Option (Bor g.row.T.Denot) → List ℕ × Option TypeTree = λ x. (x.0.now, denoted g.T.WasmType.tree x.1) in
    remaining_none can_be_payload variant_type f c.deref-case-items.result.now c.loop-case.case-index c.case-item.result (named c.loop-case.converted.items) _ c.loop-case.invariant c.loop-case-test.true c.case-item.is (refused_payload ((f c.case-item.result).1) _ c.in_ok-payload.ensures c.in_default.is)
