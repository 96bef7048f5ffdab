use Rattle.std.proofs.Common.{arith, ℕ, List, ◌++◌, ap, ◌∙◌, Bor, codes, map, Option, append_assoc}
use Rattle.wave_wasm.specs.Borrowed.{denoted}
use Rattle.wave_wasm.specs.Types.{TypeTree, maybe_type, depth}
use Rattle.wave_wasm.specs.TypeText.{type_text, payload_text}
use Rattle.wave_wasm.specs.Commas.{joined}
use Rattle.wave_wasm.specs.CommaParts.{comma_if}
use Rattle.wave_wasm.proofs.Displays.TextAppend.{adding_none, adding_as, adding_more, adding_two, adding_start, adding_item}
use Rattle.wave_wasm.proofs.CanonicalText.Sequences.{part_depth}
use Rattle.wave_wasm.proofs.CanonicalText.ValueParts.{map_map}
use Rattle.wave_wasm.proofs.Displays.TypeParts.{record_is, tuple_is, variant_is, field_text, field_depth, case_text, case_depth}
use Rattle.wave_wasm.proofs.wasm.display.+types.Goals as goal

pub push_record-loop-field-init : goal.push_record-loop-field-init
push_record-loop-field-init g t c =
    let f : Bor (List ℕ) × Bor g.row.T.Denot → List ℕ × TypeTree = λ x. (x.0.now, g.T.WasmType.tree x.1.now) in
    let s = record_is _ _ c.requires (ap (map f) c.deref-field-items.ensures.value ∙ c.in_ok-fields.ensures) in
    adding_start (λ x. field_text (f x)) c.deref-field-items.result.now (codes "record { ") (codes " }") (adding_as (s.text_is ∙ ap (λ z. codes "record { " ++ (joined z ++ codes " }")) (map_map field_text f c.deref-field-items.result.now)) (adding_none _ _)) c.in_ok-push_str.ensures.bytes

pub push_record-push_type-requires : goal.push_record-push_type-requires
push_record-push_type-requires g t c κs within =
    let f : Bor (List ℕ) × Bor g.row.T.Denot → List ℕ × TypeTree = λ x. (x.0.now, g.T.WasmType.tree x.1.now) in
    let s = record_is _ _ c.requires c.in_ok-fields.ensures in
    let d = s.depth_is in
    let h = part_depth field_depth f c.deref-field-items.result.now _ c.loop-field.field-index c.field-item.result c.deref-field-items.ensures.value c.loop-field-test.true c.field-item.is in
    (omega (arith, h, d), within)

pub push_record-loop-field-preserved : goal.push_record-loop-field-preserved
push_record-loop-field-preserved g t c =
    let f : Bor (List ℕ) × Bor g.row.T.Denot → List ℕ × TypeTree = λ x. (x.0.now, g.T.WasmType.tree x.1.now) in
    let a = adding_item (λ x. field_text (f x)) c.deref-field-items.result.now c.loop-field.field-index c.field-item.result _ _ c.loop-field-test.true c.field-item.is c.loop-field.invariant in
    let name = c.field-item.result.0.now in
    let t = type_text (g.T.WasmType.tree c.field-item.result.1.now) in
    let b = adding_more name (adding_as (append_assoc name (codes ": " ++ t) _) (adding_more (comma_if c.loop-field.later) a c.in_ok-push_separator.ensures)) c.in_ok-push_str-2.ensures.bytes in
    adding_two (codes ": ") t b c.in_ok-push_str-3.ensures.bytes c.in_ok-push_type.ensures

pub push_tuple-loop-item-init : goal.push_tuple-loop-item-init
push_tuple-loop-item-init g t c =
    let f : Bor g.row.T.Denot → TypeTree = λ x. g.T.WasmType.tree x.now in
    let s = tuple_is _ _ c.requires (ap (map f) c.deref-item-items.ensures.value ∙ c.in_ok-items.ensures) in
    adding_start (λ x. type_text (f x)) c.deref-item-items.result.now (codes "tuple<") (codes ">") (adding_as (s.text_is ∙ ap (λ z. codes "tuple<" ++ (joined z ++ codes ">")) (map_map type_text f c.deref-item-items.result.now)) (adding_none _ _)) c.in_ok-push_str.ensures.bytes

pub push_tuple-push_type-requires : goal.push_tuple-push_type-requires
push_tuple-push_type-requires g t c κs within =
    let f : Bor g.row.T.Denot → TypeTree = λ x. g.T.WasmType.tree x.now in
    let s = tuple_is _ _ c.requires c.in_ok-items.ensures in
    let d = s.depth_is in
    let h = part_depth depth f c.deref-item-items.result.now _ c.loop-item.item-index c.item-item.result c.deref-item-items.ensures.value c.loop-item-test.true c.item-item.is in
    (omega (arith, h, d), within)

pub push_variant-loop-case-init : goal.push_variant-loop-case-init
push_variant-loop-case-init g t c =
    let f : Bor (List ℕ) × Option (Bor g.row.T.Denot) → List ℕ × Option TypeTree = λ x. (x.0.now, denoted g.T.WasmType.tree x.1) in
    let s = variant_is _ _ c.requires (ap (map f) c.deref-case-items.ensures.value ∙ c.in_ok-cases.ensures) in
    adding_start (λ x. case_text (f x)) c.deref-case-items.result.now (codes "variant { ") (codes " }") (adding_as (s.text_is ∙ ap (λ z. codes "variant { " ++ (joined z ++ codes " }")) (map_map case_text f c.deref-case-items.result.now)) (adding_none _ _)) c.in_ok-push_str.ensures.bytes

pub push_variant-push_payload-requires : goal.push_variant-push_payload-requires
push_variant-push_payload-requires g t c κs within =
    let f : Bor (List ℕ) × Option (Bor g.row.T.Denot) → List ℕ × Option TypeTree = λ x. (x.0.now, denoted g.T.WasmType.tree x.1) in
    let s = variant_is _ _ c.requires c.in_ok-cases.ensures in
    let d = s.depth_is in
    let h = part_depth case_depth f c.deref-case-items.result.now _ c.loop-case.case-index c.case-item.result c.deref-case-items.ensures.value c.loop-case-test.true c.case-item.is in
    (omega (arith, h, d), within)

pub push_variant-loop-case-preserved : goal.push_variant-loop-case-preserved
push_variant-loop-case-preserved g t c =
    let f : Bor (List ℕ) × Option (Bor g.row.T.Denot) → List ℕ × Option TypeTree = λ x. (x.0.now, denoted g.T.WasmType.tree x.1) in
    let a = adding_item (λ x. case_text (f x)) c.deref-case-items.result.now c.loop-case.case-index c.case-item.result _ _ c.loop-case-test.true c.case-item.is c.loop-case.invariant in
    let payload = payload_text (maybe_type (denoted g.T.WasmType.tree c.case-item.result.1)) in
    adding_two c.case-item.result.0.now payload (adding_more (comma_if c.loop-case.later) a c.in_ok-push_separator.ensures) c.in_ok-push_str-2.ensures.bytes c.in_ok-push_payload.ensures

pub push_tuple-loop-item-preserved : goal.push_tuple-loop-item-preserved
push_tuple-loop-item-preserved g t c =
    let f : Bor g.row.T.Denot → List ℕ = λ x. type_text (g.T.WasmType.tree x.now) in
    let a = adding_item f c.deref-item-items.result.now c.loop-item.item-index c.item-item.result _ _ c.loop-item-test.true c.item-item.is c.loop-item.invariant in
    adding_more _ (adding_more (comma_if c.loop-item.later) a c.in_ok-push_separator.ensures) c.in_ok-push_type.ensures

pub push_type-returns-in-List : goal.push_type-returns-in-List
push_type-returns-in-List g t c = c.push_list.ensures

pub push_type-returns-in-FixedLengthList : goal.push_type-returns-in-FixedLengthList
push_type-returns-in-FixedLengthList g t c = c.push_fixed_length_list.ensures

pub push_type-returns-in-Record : goal.push_type-returns-in-Record
push_type-returns-in-Record g t c = c.push_record.ensures

pub push_type-returns-in-Tuple : goal.push_type-returns-in-Tuple
push_type-returns-in-Tuple g t c = c.push_tuple.ensures

pub push_type-returns-in-Variant : goal.push_type-returns-in-Variant
push_type-returns-in-Variant g t c = c.push_variant.ensures

pub push_type-returns-in-Option : goal.push_type-returns-in-Option
push_type-returns-in-Option g t c = c.push_option.ensures

pub push_type-returns-in-Result : goal.push_type-returns-in-Result
push_type-returns-in-Result g t c = c.push_result.ensures

pub push_type-returns-in-Map : goal.push_type-returns-in-Map
push_type-returns-in-Map g t c = c.push_map.ensures
