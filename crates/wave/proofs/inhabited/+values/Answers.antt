use Rattle.std.proofs.Common.{arith, ℕ, List, ap, ◌∙◌, Bor, map, Option}
use Rattle.wave_wasm.specs.Borrowed.{denoted}
use Rattle.wave_wasm.specs.Types.{TypeTree, depth}
use Rattle.wave_wasm.proofs.CanonicalText.Sequences.{part_depth}
use Rattle.wave_wasm.proofs.Displays.TypeParts.{record_is, tuple_is, variant_is, field_depth, case_depth}
use Rattle.wave.proofs.HavingValue.{record_by, tuple_by, variant_by}
use Rattle.wave.proofs.inhabited.+values.Goals as goal

pub fields_have_value-loop-field-init : goal.fields_have_value-loop-field-init
fields_have_value-loop-field-init g t c =
    let f : Bor (List ℕ) × Bor g.row.T.Denot → List ℕ × TypeTree = λ x. (x.0.now, g.T.WasmType.tree x.1.now) in
    record_by _ _ c.requires (ap (map f) c.deref-field-items.ensures.value ∙ c.in_ok-fields.ensures)

pub fields_have_value-type_has_value-requires : goal.fields_have_value-type_has_value-requires
fields_have_value-type_has_value-requires g t c κs within =
    let f : Bor (List ℕ) × Bor g.row.T.Denot → List ℕ × TypeTree = λ x. (x.0.now, g.T.WasmType.tree x.1.now) in
    let s = record_is _ _ c.requires c.in_ok-fields.ensures in
    let d = s.depth_is in
    let h = part_depth field_depth f c.deref-field-items.result.now _ c.loop-field.field-index c.field-item.result c.deref-field-items.ensures.value c.loop-field-test.true c.field-item.is in
    (omega (arith, h, d), within)

pub items_have_value-loop-item-init : goal.items_have_value-loop-item-init
items_have_value-loop-item-init g t c =
    let f : Bor g.row.T.Denot → TypeTree = λ x. g.T.WasmType.tree x.now in
    tuple_by _ _ c.requires (ap (map f) c.deref-item-items.ensures.value ∙ c.in_ok-items.ensures)

pub items_have_value-type_has_value-requires : goal.items_have_value-type_has_value-requires
items_have_value-type_has_value-requires g t c κs within =
    let f : Bor g.row.T.Denot → TypeTree = λ x. g.T.WasmType.tree x.now in
    let s = tuple_is _ _ c.requires c.in_ok-items.ensures in
    let d = s.depth_is in
    let h = part_depth depth f c.deref-item-items.result.now _ c.loop-item.item-index c.item-item.result c.deref-item-items.ensures.value c.loop-item-test.true c.item-item.is in
    (omega (arith, h, d), within)

pub some_case_has_value-loop-case-init : goal.some_case_has_value-loop-case-init
some_case_has_value-loop-case-init g t c =
    let f : Bor (List ℕ) × Option (Bor g.row.T.Denot) → List ℕ × Option TypeTree = λ x. (x.0.now, denoted g.T.WasmType.tree x.1) in
    variant_by _ _ c.requires (ap (map f) c.deref-case-items.ensures.value ∙ c.in_ok-cases.ensures)

pub some_case_has_value-payload_has_value-requires : goal.some_case_has_value-payload_has_value-requires
some_case_has_value-payload_has_value-requires g t c κs within =
    let f : Bor (List ℕ) × Option (Bor g.row.T.Denot) → List ℕ × Option TypeTree = λ x. (x.0.now, denoted g.T.WasmType.tree x.1) in
    let s = variant_is _ _ c.requires c.in_ok-cases.ensures in
    let d = s.depth_is in
    let h = part_depth case_depth f c.deref-case-items.result.now _ c.loop-case.case-index c.case-item.result c.deref-case-items.ensures.value c.loop-case-test.true c.case-item.is in
    (omega (arith, h, d), within)
