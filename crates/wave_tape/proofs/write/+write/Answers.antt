use Rattle.std.proofs.Common.{◌++◌, ℕ, List, [], ◌∷◌, Bor, false, length, map, refl, sym, ap, subst, ◌∙◌, arith, codes}
use Rattle.std.specs.List.{find}
use Rattle.std.specs.Option.{option_map}
use Rattle.std.specs.String.{string_bytes}
use Rattle.std.proofs.lemmas.List.{take_all}
use Rattle.std.proofs.lemmas.Result.{err_from_is_err_and}
use Rattle.wave_wasm.specs.Borrowed.{denoted, denoted_all, denoted_fields, denoted_case, texts}
use Rattle.wave_wasm.specs.Commas.{in_braces, joined}
use Rattle.wave_wasm.specs.Text.{text}
use Rattle.wave_wasm.specs.Types.{TypeTree, depth, depth_of_maybe, maybe_type, variant_parts}
use Rattle.wave_wasm.specs.Values as value
use Rattle.wave_wasm.specs.Values.{Value, no_value, entries}
use Rattle.wave_wasm.specs.declared.wasm.WasmTypeKind.TheVariants as kinds
use Rattle.wave_wasm.proofs.CanonicalText.Sequences.{part_depth}
use Rattle.wave_wasm.proofs.TypesOfValues.TypeOfKind.{formed_as}
use Rattle.wave_wasm.proofs.TypesOfValues.WellFormed.{formed}
use Rattle.wave_tape.specs.Names.{HasTextNames}
use Rattle.wave_tape.specs.Reading.{◌>>=◌, value_at, times, pair_at}
use Rattle.wave_tape.specs.Private.TextWriters.{IsWritten, held_texts}
use Rattle.wave_tape.proofs.Cases.{has_name, found_case, no_case, no_text_case}
use Rattle.wave_tape.proofs.Depths.{field_depth, case_depth}
use Rattle.wave_tape.proofs.Loops.{first_front, less_none, goes_on, is_done, times_step, times_end, each_step, each_end, field_step, fields_end, stops_here, times_stop, second_stop, pair_read}
use Rattle.wave_tape.proofs.Readings.{fails_of, stops_at, read_as}
use Rattle.wave_tape.proofs.TypeParts.{unreadable_at, simple_of_kind, tuple_type, record_type, option_type, option_some, result_type, result_some, map_type, map_some}
use Rattle.wave_tape.proofs.WrittenReadings.{fault_first, leaf_value, list_element, list_kind, Joining, joining_none, joining_item, joining_all, opening_none, opening_skipped, opening_field}
use Rattle.wave_tape.proofs.WrittenRows.{begins, tuple_reads, tuple_stops, tuple_parts_are, record_reads, record_stops, record_parts_are, element_some, all_long}
use Rattle.wave_tape.proofs.WrittenParts.{list_stopped, list_written, item_stopped, each_stopped, tuple_written, field_stopped, record_written, option_stopped, none_written, some_stopped, some_written}
use Rattle.wave_tape.proofs.WrittenCases.{name_stopped, case_stop, variant_written, payload_written, payload_stopped, no_payload, result_stopped, ok_written, err_written, map_counted, map_reads, map_stopped}
use Rattle.wave_tape.proofs.WrittenMaps.{map_text, text_of, entry_more}
use Rattle.wave_tape.proofs.TypedReadings.{value_typed}
use Rattle.wave_tape.proofs.write.+write.Goals as goal

-- ---- lists

pub write_list-returns-in_default : goal.write_list-returns-in_default
write_list-returns-in_default g t c = λ named. absurd (element_some (g.V.Type.WasmType.tree c.args.ty.now) c.requires c.in_default.ensures)

pub write_list-count_at-requires : goal.write_list-count_at-requires
write_list-count_at-requires g t c = c.requires

pub write_list-returns-in_err-count : goal.write_list-returns-in_err-count
write_list-returns-in_err-count g t c =
    let p = err_from_is_err_and c.from_residual.result c.from_residual.ensures.1 in
    rw (p.1, p.2) (fault_first (HasTextNames (g.V.Type.WasmType.tree c.args.ty.now)) (g.V.WasmValue.is_full (g.V.Type.WasmType.tree c.args.ty.now)) (value_at (g.V.Type.WasmType.tree c.args.ty.now) c.args.bytes.now) (value_at (g.V.Type.WasmType.tree c.args.ty.now) c.args.bytes.now) c.in_err-count.field-0.0 (λ x e. e) c.in_err-count.ensures)

pub write_list-returns-in_err-push_str : goal.write_list-returns-in_err-push_str
write_list-returns-in_err-push_str g t c =
    let p = err_from_is_err_and c.from_residual-in_err-push_str.result c.from_residual-in_err-push_str.ensures.1 in
    rw (p.1, p.2) (λ named. tt)

pub write_list-write_items-requires : goal.write_list-write_items-requires
write_list-write_items-requires g t c κs within =
    let d = (list_element g.V.WasmValue.is_full (g.V.Type.WasmType.tree c.args.ty.now) (g.V.Type.WasmType.tree c.in-Some.element.now) c.in-Some.ensures).deep in
    (omega (arith, d), within)

pub write_list-returns-in_err-rest : goal.write_list-returns-in_err-rest
write_list-returns-in_err-rest g t c =
    let p = err_from_is_err_and c.from_residual-in_err-rest.result c.from_residual-in_err-rest.ensures.1 in
    rw (p.1, p.2) (list_stopped g.V.WasmValue.is_full g.met.V.WasmValue.full_parts (g.V.Type.WasmType.tree c.args.ty.now) (g.V.Type.WasmType.tree c.in-Some.element.now) c.in_ok-count.count c.args.bytes.now c.in_ok-count.rest.now c.in_err-rest.field-0.0 c.in-Some.ensures (c.in_ok-count.ensures (g.V.Type.WasmType.tree c.in-Some.element.now) c.in-Some.ensures) c.in_err-rest.ensures)

pub write_list-returns-in_err-push_str-2 : goal.write_list-returns-in_err-push_str-2
write_list-returns-in_err-push_str-2 g t c =
    let p = err_from_is_err_and c.from_residual-in_err-push_str-2.result c.from_residual-in_err-push_str-2.ensures.1 in
    rw (p.1, p.2) (λ named. tt)

pub write_list-returns : goal.write_list-returns
write_list-returns g t c =
    list_written g.V.WasmValue.is_full g.met.V.WasmValue.full_parts (g.V.Type.WasmType.tree c.args.ty.now) (g.V.Type.WasmType.tree c.in-Some.element.now) c.in_ok-count.count c.args.bytes.now c.in_ok-count.rest.now _ _ _ _ c.in_ok-rest.rest c.requires (c.in_ok-count.ensures (g.V.Type.WasmType.tree c.in-Some.element.now) c.in-Some.ensures) c.in_ok-push_str.ensures.bytes c.in_ok-push_str-2.ensures.bytes c.in_ok-rest.ensures

-- ---- so many items

pub write_items-loop-init : goal.write_items-loop-init
write_items-loop-init g t c = ([], first_front (λ (v : Value). v) [] _ _ refl (ap (λ (n : ℕ). times (value_at (g.V.Type.WasmType.tree c.args.ty.now)) n c.args.bytes.now) (less_none c.args.count)), joining_none _)

pub write_items-returns-in_err-put_either : goal.write_items-returns-in_err-put_either
write_items-returns-in_err-put_either g t c =
    let p = err_from_is_err_and c.from_residual.result c.from_residual.ensures.1 in
    rw (p.1, p.2) (λ named. tt)

pub write_items-write_value-requires : goal.write_items-write_value-requires
write_items-write_value-requires g t c κs within = (omega arith, within)

pub write_items-returns-in_err-rest : goal.write_items-returns-in_err-rest
write_items-returns-in_err-rest g t c =
    let p = err_from_is_err_and c.from_residual-in_err-rest.result c.from_residual-in_err-rest.ensures.1 in
    rw (p.1, p.2) (item_stopped g.V.WasmValue.is_full g.met.V.WasmValue.full_parts (g.V.Type.WasmType.tree c.args.ty.now) c.args.count c.loop.counter c.args.bytes.now c.loop.rest.now c.loop.invariant.0 c.in_err-rest.field-0.0 c.loop-test.true c.loop.invariant.1 c.in_err-rest.ensures)

pub write_items-loop-preserved : goal.write_items-loop-preserved
write_items-loop-preserved g t c =
    let h = c.in_ok-rest.ensures in
    let vs = c.loop.invariant.0 in (
      vs ++ h.0 ∷ [],
      goes_on vs h.0 _ _ _ (times_step (value_at (g.V.Type.WasmType.tree c.args.ty.now)) c.args.count c.loop.counter c.loop.rest.now h.0 _ c.loop-test.true h.1) c.loop.invariant.1,
      joining_item _ vs c.loop.later _ _ _ h.0 c.in_ok-put_either.ensures h.2 c.loop.invariant.2,
    )

pub write_items-returns : goal.write_items-returns
write_items-returns g t c =
    let vs = c.loop.invariant.0 in
    (vs, is_done vs c.loop.rest.now _ _ (times_end (value_at (g.V.Type.WasmType.tree c.args.ty.now)) c.args.count c.loop.counter c.loop.rest.now c.loop-test.false) c.loop.invariant.1, joining_all _ (map text vs) c.loop.later _ c.loop.invariant.2)

-- ---- tuples

pub write_tuple-returns-in_err-types : goal.write_tuple-returns-in_err-types
write_tuple-returns-in_err-types g t c =
    let p = err_from_is_err_and c.from_residual.result c.from_residual.ensures.1 in
    rw (p.1, p.2) (λ named. tt)

pub write_tuple-returns-in_err-rest : goal.write_tuple-returns-in_err-rest
write_tuple-returns-in_err-rest g t c =
    let p = err_from_is_err_and c.from_residual-in_err-rest.result c.from_residual-in_err-rest.ensures.1 in
    rw (p.1, p.2) (fault_first (HasTextNames (g.V.Type.WasmType.tree c.args.ty.now)) (g.V.WasmValue.is_full (g.V.Type.WasmType.tree c.args.ty.now)) (begins c.is_empty.result c.args.bytes.now) (value_at (g.V.Type.WasmType.tree c.args.ty.now) c.args.bytes.now) c.in_err-rest.field-0.0 (λ x e. tuple_stops (g.V.Type.WasmType.tree c.args.ty.now) (denoted_all g.V.Type.WasmType.tree c.in_ok-types.types.items) c.is_empty.result _ c.args.bytes.now x (tuple_type (g.V.Type.WasmType.tree c.args.ty.now) (denoted_all g.V.Type.WasmType.tree c.in_ok-types.types.items) c.requires c.in_ok-types.ensures) c.is_empty.ensures (all_long c.in_ok-types.types.items (λ (x : Bor g.row.V-Type.Denot). g.V.Type.WasmType.tree x.now) _ c.in_ok-types.types.ok.0) e) c.in_err-rest.ensures)

pub write_tuple-returns-in_err-push_str : goal.write_tuple-returns-in_err-push_str
write_tuple-returns-in_err-push_str g t c =
    let p = err_from_is_err_and c.from_residual-in_err-push_str.result c.from_residual-in_err-push_str.ensures.1 in
    rw (p.1, p.2) (λ named. tt)

pub write_tuple-loop-item-init : goal.write_tuple-loop-item-init
write_tuple-loop-item-init g t c = ([], first_front (λ (v : Value). v) [] _ _ refl refl, subst (λ s. Joining s [] false (string_bytes c.push_str.new.self)) c.in_ok-push_str.ensures.bytes (joining_none (string_bytes c.push_str.new.self)))

pub write_tuple-returns-in_err-put_either : goal.write_tuple-returns-in_err-put_either
write_tuple-returns-in_err-put_either g t c =
    let p = err_from_is_err_and c.from_residual-in_err-put_either.result c.from_residual-in_err-put_either.ensures.1 in
    rw (p.1, p.2) (λ named. tt)

pub write_tuple-write_value-requires : goal.write_tuple-write_value-requires
write_tuple-write_value-requires g t c κs within =
    let f : Bor g.row.V-Type.Denot → TypeTree = λ x. g.V.Type.WasmType.tree x.now in
    let d = (tuple_parts_are g.V.WasmValue.is_full (g.V.Type.WasmType.tree c.args.ty.now) (denoted_all g.V.Type.WasmType.tree c.deref-item-items.result.now) (tuple_type (g.V.Type.WasmType.tree c.args.ty.now) (denoted_all g.V.Type.WasmType.tree c.deref-item-items.result.now) c.requires (ap (denoted_all g.V.Type.WasmType.tree) c.deref-item-items.ensures.value ∙ c.in_ok-types.ensures))).deep in
    let h = part_depth depth f c.deref-item-items.result.now c.deref-item-items.result.now c.loop-item.item-index c.item-item.result refl c.loop-item-test.true c.item-item.is in
    (omega (arith, h, d), within)

pub write_tuple-returns-in_err-rest-2 : goal.write_tuple-returns-in_err-rest-2
write_tuple-returns-in_err-rest-2 g t c =
    let p = err_from_is_err_and c.from_residual-in_err-rest-2.result c.from_residual-in_err-rest-2.ensures.1 in
    rw (p.1, p.2) (let f : Bor g.row.V-Type.Denot → TypeTree = λ x. g.V.Type.WasmType.tree x.now in each_stopped g.V.WasmValue.is_full g.met.V.WasmValue.full_parts f c.deref-item-items.result.now (g.V.Type.WasmType.tree c.args.ty.now) c.args.bytes.now c.in_ok-rest.rest.now (tuple_reads (g.V.Type.WasmType.tree c.args.ty.now) (denoted_all g.V.Type.WasmType.tree c.deref-item-items.result.now) c.is_empty.result _ c.args.bytes.now c.in_ok-rest.rest.now (tuple_type (g.V.Type.WasmType.tree c.args.ty.now) (denoted_all g.V.Type.WasmType.tree c.deref-item-items.result.now) c.requires (ap (denoted_all g.V.Type.WasmType.tree) c.deref-item-items.ensures.value ∙ c.in_ok-types.ensures)) c.is_empty.ensures (all_long c.deref-item-items.result.now f _ (c.in_ok-types.types.ok.0 ∙ ap length (sym c.deref-item-items.ensures.value))) c.in_ok-rest.ensures) c.loop-item.item-index c.item-item.result c.loop-item.rest.now c.loop-item.invariant.0 c.in_err-rest-2.field-0.0 (tuple_parts_are g.V.WasmValue.is_full (g.V.Type.WasmType.tree c.args.ty.now) (denoted_all g.V.Type.WasmType.tree c.deref-item-items.result.now) (tuple_type (g.V.Type.WasmType.tree c.args.ty.now) (denoted_all g.V.Type.WasmType.tree c.deref-item-items.result.now) c.requires (ap (denoted_all g.V.Type.WasmType.tree) c.deref-item-items.ensures.value ∙ c.in_ok-types.ensures))) c.loop-item-test.true c.item-item.is c.loop-item.invariant.1 c.in_err-rest-2.ensures)

pub write_tuple-loop-item-preserved : goal.write_tuple-loop-item-preserved
write_tuple-loop-item-preserved g t c =
    let f : Bor g.row.V-Type.Denot → TypeTree = λ x. g.V.Type.WasmType.tree x.now in
    let h = c.in_ok-rest-2.ensures in
    let vs = c.loop-item.invariant.0 in (
      vs ++ h.0 ∷ [],
      goes_on vs h.0 _ _ _ (each_step f c.deref-item-items.result.now c.loop-item.item-index c.item-item.result c.loop-item-test.true c.item-item.is c.loop-item.rest.now h.0 _ h.1) c.loop-item.invariant.1,
      joining_item _ vs c.loop-item.later _ _ _ h.0 c.in_ok-put_either.ensures h.2 c.loop-item.invariant.2,
    )

pub write_tuple-returns-in_err-push_str-2 : goal.write_tuple-returns-in_err-push_str-2
write_tuple-returns-in_err-push_str-2 g t c =
    let p = err_from_is_err_and c.from_residual-in_err-push_str-2.result c.from_residual-in_err-push_str-2.ensures.1 in
    rw (p.1, p.2) (λ named. tt)

pub write_tuple-returns : goal.write_tuple-returns
write_tuple-returns g t c =
    let f : Bor g.row.V-Type.Denot → TypeTree = λ x. g.V.Type.WasmType.tree x.now in
    let vs = c.loop-item.invariant.0 in
    tuple_written g.V.WasmValue.is_full g.met.V.WasmValue.full_parts f c.deref-item-items.result.now (g.V.Type.WasmType.tree c.args.ty.now) c.args.bytes.now c.in_ok-rest.rest.now (tuple_reads (g.V.Type.WasmType.tree c.args.ty.now) (denoted_all g.V.Type.WasmType.tree c.deref-item-items.result.now) c.is_empty.result _ c.args.bytes.now c.in_ok-rest.rest.now (tuple_type (g.V.Type.WasmType.tree c.args.ty.now) (denoted_all g.V.Type.WasmType.tree c.deref-item-items.result.now) c.requires (ap (denoted_all g.V.Type.WasmType.tree) c.deref-item-items.ensures.value ∙ c.in_ok-types.ensures)) c.is_empty.ensures (all_long c.deref-item-items.result.now f _ (c.in_ok-types.types.ok.0 ∙ ap length (sym c.deref-item-items.ensures.value))) c.in_ok-rest.ensures) vs c.loop-item.later _ _ _ _ c.loop-item.rest
    (is_done vs c.loop-item.rest.now _ _ (each_end f c.deref-item-items.result.now c.loop-item.item-index c.loop-item.rest.now c.loop-item-test.false) c.loop-item.invariant.1) refl c.in_ok-push_str-2.ensures.bytes c.loop-item.invariant.2

-- ---- records

pub write_record-returns-in_err-fields : goal.write_record-returns-in_err-fields
write_record-returns-in_err-fields g t c =
    let p = err_from_is_err_and c.from_residual.result c.from_residual.ensures.1 in
    rw (p.1, p.2) (λ named. tt)

pub write_record-returns-in_err-rest : goal.write_record-returns-in_err-rest
write_record-returns-in_err-rest g t c =
    let p = err_from_is_err_and c.from_residual-in_err-rest.result c.from_residual-in_err-rest.ensures.1 in
    rw (p.1, p.2) (fault_first (HasTextNames (g.V.Type.WasmType.tree c.args.ty.now)) (g.V.WasmValue.is_full (g.V.Type.WasmType.tree c.args.ty.now)) (begins c.is_empty.result c.args.bytes.now) (value_at (g.V.Type.WasmType.tree c.args.ty.now) c.args.bytes.now) c.in_err-rest.field-0.0 (λ x e. record_stops (g.V.Type.WasmType.tree c.args.ty.now) (denoted_fields g.V.Type.WasmType.tree c.in_ok-fields.fields.items) c.is_empty.result _ c.args.bytes.now x (record_type (g.V.Type.WasmType.tree c.args.ty.now) (denoted_fields g.V.Type.WasmType.tree c.in_ok-fields.fields.items) c.requires c.in_ok-fields.ensures) c.is_empty.ensures (all_long c.in_ok-fields.fields.items (λ (x : Bor (List ℕ) × Bor g.row.V-Type.Denot). (x.0.now, g.V.Type.WasmType.tree x.1.now)) _ c.in_ok-fields.fields.ok.0) e) c.in_err-rest.ensures)

pub write_record-loop-field-init : goal.write_record-loop-field-init
write_record-loop-field-init g t c = ([], first_front (λ (v : List ℕ × Value). v) [] _ _ refl refl, opening_none _)

pub write_record-loop-field-preserved-in-Some : goal.write_record-loop-field-preserved-in-Some
write_record-loop-field-preserved-in-Some g t c =
    let f : Bor (List ℕ) × Bor g.row.V-Type.Denot → List ℕ × TypeTree = λ x. (x.0.now, g.V.Type.WasmType.tree x.1.now) in
    let fs = c.loop-field.invariant.0 in
    let v : Value = value.option no_value in (
      fs ++ (c.field-item.result.0.now, v) ∷ [],
      goes_on fs (c.field-item.result.0.now, v) _ _ _ (field_step f c.deref-field-items.result.now c.loop-field.field-index c.field-item.result c.loop-field-test.true c.field-item.is c.loop-field.rest.now v _ c.in-Some.ensures.none) c.loop-field.invariant.1,
      opening_skipped _ fs c.loop-field.later _ c.field-item.result.0.now v refl c.loop-field.invariant.2,
    )

pub write_record-returns-in_err-put_either : goal.write_record-returns-in_err-put_either
write_record-returns-in_err-put_either g t c =
    let p = err_from_is_err_and c.from_residual-in_err-put_either.result c.from_residual-in_err-put_either.ensures.1 in
    rw (p.1, p.2) (λ named. tt)

pub write_record-returns-in_err-push_str : goal.write_record-returns-in_err-push_str
write_record-returns-in_err-push_str g t c =
    let p = err_from_is_err_and c.from_residual-in_err-push_str.result c.from_residual-in_err-push_str.ensures.1 in
    rw (p.1, p.2) (λ named. tt)

pub write_record-returns-in_err-push_str-2 : goal.write_record-returns-in_err-push_str-2
write_record-returns-in_err-push_str-2 g t c =
    let p = err_from_is_err_and c.from_residual-in_err-push_str-2.result c.from_residual-in_err-push_str-2.ensures.1 in
    rw (p.1, p.2) (λ named. tt)

pub write_record-write_value-requires : goal.write_record-write_value-requires
write_record-write_value-requires g t c κs within =
    let f : Bor (List ℕ) × Bor g.row.V-Type.Denot → List ℕ × TypeTree = λ x. (x.0.now, g.V.Type.WasmType.tree x.1.now) in
    let d = (record_parts_are g.V.WasmValue.is_full (g.V.Type.WasmType.tree c.args.ty.now) (denoted_fields g.V.Type.WasmType.tree c.deref-field-items.result.now) (record_type (g.V.Type.WasmType.tree c.args.ty.now) (denoted_fields g.V.Type.WasmType.tree c.deref-field-items.result.now) c.requires (ap (denoted_fields g.V.Type.WasmType.tree) c.deref-field-items.ensures.value ∙ c.in_ok-fields.ensures))).deep in
    let h = part_depth field_depth f c.deref-field-items.result.now c.deref-field-items.result.now c.loop-field.field-index c.field-item.result refl c.loop-field-test.true c.field-item.is in
    (omega (arith, h, d), within)

pub write_record-returns-in_err-rest-2 : goal.write_record-returns-in_err-rest-2
write_record-returns-in_err-rest-2 g t c =
    let p = err_from_is_err_and c.from_residual-in_err-rest-2.result c.from_residual-in_err-rest-2.ensures.1 in
    rw (p.1, p.2) (let f : Bor (List ℕ) × Bor g.row.V-Type.Denot → List ℕ × TypeTree = λ x. (x.0.now, g.V.Type.WasmType.tree x.1.now) in field_stopped g.V.WasmValue.is_full g.met.V.WasmValue.full_parts f c.deref-field-items.result.now (g.V.Type.WasmType.tree c.args.ty.now) c.args.bytes.now c.in_ok-rest.rest.now (record_reads (g.V.Type.WasmType.tree c.args.ty.now) (denoted_fields g.V.Type.WasmType.tree c.deref-field-items.result.now) c.is_empty.result _ c.args.bytes.now c.in_ok-rest.rest.now (record_type (g.V.Type.WasmType.tree c.args.ty.now) (denoted_fields g.V.Type.WasmType.tree c.deref-field-items.result.now) c.requires (ap (denoted_fields g.V.Type.WasmType.tree) c.deref-field-items.ensures.value ∙ c.in_ok-fields.ensures)) c.is_empty.ensures (all_long c.deref-field-items.result.now f _ (c.in_ok-fields.fields.ok.0 ∙ ap length (sym c.deref-field-items.ensures.value))) c.in_ok-rest.ensures) c.loop-field.field-index c.field-item.result c.loop-field.rest.now c.loop-field.invariant.0 c.in_err-rest-2.field-0.0 (record_parts_are g.V.WasmValue.is_full (g.V.Type.WasmType.tree c.args.ty.now) (denoted_fields g.V.Type.WasmType.tree c.deref-field-items.result.now) (record_type (g.V.Type.WasmType.tree c.args.ty.now) (denoted_fields g.V.Type.WasmType.tree c.deref-field-items.result.now) c.requires (ap (denoted_fields g.V.Type.WasmType.tree) c.deref-field-items.ensures.value ∙ c.in_ok-fields.ensures))) c.loop-field-test.true c.field-item.is c.loop-field.invariant.1 c.in_err-rest-2.ensures)

pub write_record-loop-field-preserved : goal.write_record-loop-field-preserved
write_record-loop-field-preserved g t c =
    let f : Bor (List ℕ) × Bor g.row.V-Type.Denot → List ℕ × TypeTree = λ x. (x.0.now, g.V.Type.WasmType.tree x.1.now) in
    let h = c.in_ok-rest-2.ensures in
    let fs = c.loop-field.invariant.0 in
    let name = c.field-item.result.0.now in (
      fs ++ (name, h.0) ∷ [],
      goes_on fs (name, h.0) _ _ _ (field_step f c.deref-field-items.result.now c.loop-field.field-index c.field-item.result c.loop-field-test.true c.field-item.is c.loop-field.rest.now h.0 _ h.1) c.loop-field.invariant.1,
      opening_field _ fs c.loop-field.later _ _ _ _ _ name h.0 c.in_ok-put_either.ensures c.in_ok-push_str.ensures.bytes c.in_ok-push_str-2.ensures.bytes h.2 (c.in_default.ensures.other h.0 _ h.1) c.loop-field.invariant.2,
    )

pub write_record-returns-in_err-put_either-2 : goal.write_record-returns-in_err-put_either-2
write_record-returns-in_err-put_either-2 g t c =
    let p = err_from_is_err_and c.from_residual-in_err-put_either-2.result c.from_residual-in_err-put_either-2.ensures.1 in
    rw (p.1, p.2) (λ named. tt)

pub write_record-returns : goal.write_record-returns
write_record-returns g t c =
    let f : Bor (List ℕ) × Bor g.row.V-Type.Denot → List ℕ × TypeTree = λ x. (x.0.now, g.V.Type.WasmType.tree x.1.now) in
    let fs = c.loop-field.invariant.0 in
    record_written g.V.WasmValue.is_full g.met.V.WasmValue.full_parts f c.deref-field-items.result.now (g.V.Type.WasmType.tree c.args.ty.now) c.args.bytes.now c.in_ok-rest.rest.now (record_reads (g.V.Type.WasmType.tree c.args.ty.now) (denoted_fields g.V.Type.WasmType.tree c.deref-field-items.result.now) c.is_empty.result _ c.args.bytes.now c.in_ok-rest.rest.now (record_type (g.V.Type.WasmType.tree c.args.ty.now) (denoted_fields g.V.Type.WasmType.tree c.deref-field-items.result.now) c.requires (ap (denoted_fields g.V.Type.WasmType.tree) c.deref-field-items.ensures.value ∙ c.in_ok-fields.ensures)) c.is_empty.ensures (all_long c.deref-field-items.result.now f _ (c.in_ok-fields.fields.ok.0 ∙ ap length (sym c.deref-field-items.ensures.value))) c.in_ok-rest.ensures) fs c.loop-field.later _ _ _ c.loop-field.rest
    (is_done fs c.loop-field.rest.now _ _ (fields_end f c.deref-field-items.result.now c.loop-field.field-index c.loop-field.rest.now c.loop-field-test.false) c.loop-field.invariant.1) c.in_ok-put_either-2.ensures c.loop-field.invariant.2

-- ---- variants

pub write_variant-returns-in_err-name : goal.write_variant-returns-in_err-name
write_variant-returns-in_err-name g t c =
    let p = err_from_is_err_and c.from_residual.result c.from_residual.ensures.1 in
    rw (p.1, p.2) (let is = formed_as kinds.Variant (g.V.Type.WasmType.tree c.args.ty.now) (sym c.requires) in name_stopped g.V.WasmValue.is_full g.met.V.WasmValue.full_parts (g.V.Type.WasmType.tree c.args.ty.now) is.0 c.args.bytes.now c.in_err-name.field-0.0 is.1 c.in_err-name.ensures)

pub write_variant-returns-in_default : goal.write_variant-returns-in_default
write_variant-returns-in_default g t c = λ named.
    let is = formed_as kinds.Variant (g.V.Type.WasmType.tree c.args.ty.now) (sym c.requires) in
    case_stop g.V.WasmValue.is_full g.met.V.WasmValue.full_parts (g.V.Type.WasmType.tree c.args.ty.now) is.0 c.args.bytes.now c.in_ok-name.name.now c.in_ok-name.rest.now _ is.1 c.in_ok-name.ensures (no_text_case is.0 c.args.bytes.now c.in_ok-name.name.now c.in_ok-name.rest.now (subst HasTextNames is.1 named).0 c.in_default.ensures.cases.0)

pub write_variant-returns-in_err-expected : goal.write_variant-returns-in_err-expected
write_variant-returns-in_err-expected g t c =
    let p = err_from_is_err_and c.from_residual-in_err-expected.result c.from_residual-in_err-expected.ensures.1 in
    rw (p.1, p.2) (λ named. tt)

pub write_variant-returns-in_default-2 : goal.write_variant-returns-in_default-2
write_variant-returns-in_default-2 g t c = λ named.
    let is = formed_as kinds.Variant (g.V.Type.WasmType.tree c.args.ty.now) (sym c.requires) in
    let name = c.in-Ok.name.now in
    let reads = c.in_ok-name.ensures ∙ ap (λ (n : List ℕ). read_as n c.in_ok-name.rest.now) (sym c.in-Ok.ensures.cases.0) in
    case_stop g.V.WasmValue.is_full g.met.V.WasmValue.full_parts (g.V.Type.WasmType.tree c.args.ty.now) is.0 c.args.bytes.now name c.in_ok-name.rest.now _ is.1 reads (no_case is.0 c.args.bytes.now name c.in_ok-name.rest.now (ap (option_map (denoted_case g.V.Type.WasmType.tree)) (sym c.in_default-2.is) ∙ (c.in_ok-expected.ensures ∙ ap (λ (U : TypeTree). find (has_name name) (variant_parts U)) is.1)))

pub write_variant-returns-in_err-put_case : goal.write_variant-returns-in_err-put_case
write_variant-returns-in_err-put_case g t c =
    let p = err_from_is_err_and c.from_residual-in_err-put_case.result c.from_residual-in_err-put_case.ensures.1 in
    rw (p.1, p.2) (λ named. tt)

pub write_variant-write_payload-requires : goal.write_variant-write_payload-requires
write_variant-write_payload-requires g t c κs within =
    let is = formed_as kinds.Variant (g.V.Type.WasmType.tree c.args.ty.now) (sym c.requires) in
    let name = c.in-Ok.name.now in
    let h = case_depth is.0 name (denoted_case g.V.Type.WasmType.tree (c.in-Some.field-0-0, c.in-Some.expected)) (ap (option_map (denoted_case g.V.Type.WasmType.tree)) (sym c.in-Some.is) ∙ (c.in_ok-expected.ensures ∙ ap (λ (U : TypeTree). find (has_name name) (variant_parts U)) is.1)) in
    let d = ap depth is.1 in
    (omega (arith, h, d), within)

pub write_variant-returns : goal.write_variant-returns
write_variant-returns g t c =
    let is = formed_as kinds.Variant (g.V.Type.WasmType.tree c.args.ty.now) (sym c.requires) in
    let name = c.in-Ok.name.now in
    let reads = c.in_ok-name.ensures ∙ ap (λ (n : List ℕ). read_as n c.in_ok-name.rest.now) (sym c.in-Ok.ensures.cases.0) in
    variant_written g.V.WasmValue.is_full g.met.V.WasmValue.full_parts (g.V.Type.WasmType.tree c.args.ty.now) is.0 (denoted g.V.Type.WasmType.tree c.in-Some.expected) c.args.bytes.now name c.in_ok-name.rest.now _ _ _ c.write_payload.result is.1 reads (found_case g.V.WasmValue.is_full is.0 name (denoted_case g.V.Type.WasmType.tree (c.in-Some.field-0-0, c.in-Some.expected)) (ap (option_map (denoted_case g.V.Type.WasmType.tree)) (sym c.in-Some.is) ∙ (c.in_ok-expected.ensures ∙ ap (λ (U : TypeTree). find (has_name name) (variant_parts U)) is.1))) c.in_ok-put_case.ensures c.write_payload.ensures

-- ---- payloads

pub write_payload-returns-in_err-push_str-in-Some : goal.write_payload-returns-in_err-push_str-in-Some
write_payload-returns-in_err-push_str-in-Some g t c =
    let p = err_from_is_err_and c.from_residual.result c.from_residual.ensures.1 in
    rw (p.1, p.2) (λ named. tt)

pub write_payload-write_value-requires : goal.write_payload-write_value-requires
write_payload-write_value-requires g t c κs within =
    let d = ap (λ o. depth_of_maybe (maybe_type (denoted g.V.Type.WasmType.tree o))) c.in-Some.is in
    (omega (arith, d), within)

pub write_payload-returns-in_err-rest-in-Some : goal.write_payload-returns-in_err-rest-in-Some
write_payload-returns-in_err-rest-in-Some g t c =
    let p = err_from_is_err_and c.from_residual-in_err-rest-in-Some.result c.from_residual-in_err-rest-in-Some.ensures.1 in
    rw (p.1, p.2) (payload_stopped g.V.WasmValue.is_full g.met.V.WasmValue.full_parts (denoted g.V.Type.WasmType.tree c.args.expected) (g.V.Type.WasmType.tree c.in-Some.ty.now) c.args.bytes.now c.in_err-rest-in-Some.field-0.0 (ap (denoted g.V.Type.WasmType.tree) c.in-Some.is) c.in_err-rest-in-Some.ensures)

pub write_payload-returns-in_ok-push_str-in-Some-2 : goal.write_payload-returns-in_ok-push_str-in-Some-2
write_payload-returns-in_ok-push_str-in-Some-2 g t c =
    payload_written g.V.WasmValue.is_full g.met.V.WasmValue.full_parts (denoted g.V.Type.WasmType.tree c.args.expected) (g.V.Type.WasmType.tree c.in-Some.ty.now) c.args.bytes.now _ _ _ _ c.in_ok-rest-in-Some.rest (ap (denoted g.V.Type.WasmType.tree) c.in-Some.is) c.in_ok-push_str-in-Some.ensures.bytes c.in_ok-push_str-in-Some-2.ensures.bytes c.in_ok-rest-in-Some.ensures

pub write_payload-returns-in-None : goal.write_payload-returns-in-None
write_payload-returns-in-None g t c = no_payload g.V.WasmValue.is_full g.met.V.WasmValue.full_parts (denoted g.V.Type.WasmType.tree c.args.expected) _ c.args.bytes (ap (denoted g.V.Type.WasmType.tree) c.in-None.is)

-- ---- options

pub write_option-returns-in_default : goal.write_option-returns-in_default
write_option-returns-in_default g t c = λ named. absurd (option_some (g.V.Type.WasmType.tree c.args.ty.now) c.requires c.in_default.ensures)

pub write_option-returns-in_err-some : goal.write_option-returns-in_err-some
write_option-returns-in_err-some g t c =
    let p = err_from_is_err_and c.from_residual.result c.from_residual.ensures.1 in
    rw (p.1, p.2) (option_stopped g.V.WasmValue.is_full g.met.V.WasmValue.full_parts (g.V.Type.WasmType.tree c.args.ty.now) (g.V.Type.WasmType.tree c.in-Some.expected.now) c.args.bytes.now c.in_err-some.field-0.0 (option_type (g.V.Type.WasmType.tree c.args.ty.now) (g.V.Type.WasmType.tree c.in-Some.expected.now) c.requires c.in-Some.ensures) c.in_err-some.ensures)

pub write_option-returns-in_err-push_str : goal.write_option-returns-in_err-push_str
write_option-returns-in_err-push_str g t c =
    let p = err_from_is_err_and c.from_residual-in_err-push_str.result c.from_residual-in_err-push_str.ensures.1 in
    rw (p.1, p.2) (λ named. tt)

pub write_option-returns-then-not-some : goal.write_option-returns-then-not-some
write_option-returns-then-not-some g t c =
    none_written g.V.WasmValue.is_full g.met.V.WasmValue.full_parts (g.V.Type.WasmType.tree c.args.ty.now) (g.V.Type.WasmType.tree c.in-Some.expected.now) c.args.bytes.now _ _ c.in_ok-some.some c.in_ok-some.rest (option_type (g.V.Type.WasmType.tree c.args.ty.now) (g.V.Type.WasmType.tree c.in-Some.expected.now) c.requires c.in-Some.ensures) c.in_ok-some.ensures c.if-not-some.true c.in_ok-push_str.ensures.bytes

pub write_option-returns-in_err-push_str-2 : goal.write_option-returns-in_err-push_str-2
write_option-returns-in_err-push_str-2 g t c =
    let p = err_from_is_err_and c.from_residual-in_err-push_str-2.result c.from_residual-in_err-push_str-2.ensures.1 in
    rw (p.1, p.2) (λ named. tt)

pub write_option-write_value-requires : goal.write_option-write_value-requires
write_option-write_value-requires g t c κs within =
    let d = ap depth (option_type (g.V.Type.WasmType.tree c.args.ty.now) (g.V.Type.WasmType.tree c.in-Some.expected.now) c.requires c.in-Some.ensures) in
    (omega (arith, d), within)

pub write_option-returns-in_err-rest : goal.write_option-returns-in_err-rest
write_option-returns-in_err-rest g t c =
    let p = err_from_is_err_and c.from_residual-in_err-rest.result c.from_residual-in_err-rest.ensures.1 in
    rw (p.1, p.2) (some_stopped g.V.WasmValue.is_full g.met.V.WasmValue.full_parts (g.V.Type.WasmType.tree c.args.ty.now) (g.V.Type.WasmType.tree c.in-Some.expected.now) c.args.bytes.now c.in_ok-some.rest.now c.in_ok-some.some c.in_err-rest.field-0.0 (option_type (g.V.Type.WasmType.tree c.args.ty.now) (g.V.Type.WasmType.tree c.in-Some.expected.now) c.requires c.in-Some.ensures) c.in_ok-some.ensures c.if-not-some.false c.in_err-rest.ensures)

pub write_option-returns-in_err-push_str-3 : goal.write_option-returns-in_err-push_str-3
write_option-returns-in_err-push_str-3 g t c =
    let p = err_from_is_err_and c.from_residual-in_err-push_str-3.result c.from_residual-in_err-push_str-3.ensures.1 in
    rw (p.1, p.2) (λ named. tt)

pub write_option-returns : goal.write_option-returns
write_option-returns g t c =
    some_written g.V.WasmValue.is_full g.met.V.WasmValue.full_parts (g.V.Type.WasmType.tree c.args.ty.now) (g.V.Type.WasmType.tree c.in-Some.expected.now) c.args.bytes.now c.in_ok-some.rest.now _ _ _ _ c.in_ok-some.some c.in_ok-rest.rest (option_type (g.V.Type.WasmType.tree c.args.ty.now) (g.V.Type.WasmType.tree c.in-Some.expected.now) c.requires c.in-Some.ensures) c.in_ok-some.ensures c.if-not-some.false c.in_ok-push_str-2.ensures.bytes c.in_ok-push_str-3.ensures.bytes c.in_ok-rest.ensures

-- ---- results

pub write_result-returns-in_default : goal.write_result-returns-in_default
write_result-returns-in_default g t c = λ named. absurd (result_some (g.V.Type.WasmType.tree c.args.ty.now) c.requires c.in_default.ensures)

pub write_result-returns-in_err-is_err : goal.write_result-returns-in_err-is_err
write_result-returns-in_err-is_err g t c =
    let p = err_from_is_err_and c.from_residual.result c.from_residual.ensures.1 in
    rw (p.1, p.2) (result_stopped g.V.WasmValue.is_full g.met.V.WasmValue.full_parts (g.V.Type.WasmType.tree c.args.ty.now) (denoted g.V.Type.WasmType.tree c.in-Some.ok) (denoted g.V.Type.WasmType.tree c.in-Some.err) c.args.bytes.now c.in_err-is_err.field-0.0 (result_type (g.V.Type.WasmType.tree c.args.ty.now) (denoted g.V.Type.WasmType.tree c.in-Some.ok) (denoted g.V.Type.WasmType.tree c.in-Some.err) c.requires c.in-Some.ensures) c.in_err-is_err.ensures)

pub write_result-returns-in_err-push_str : goal.write_result-returns-in_err-push_str
write_result-returns-in_err-push_str g t c =
    let p = err_from_is_err_and c.from_residual-in_err-push_str.result c.from_residual-in_err-push_str.ensures.1 in
    rw (p.1, p.2) (λ named. tt)

pub write_result-returns-in_err-push_str-2 : goal.write_result-returns-in_err-push_str-2
write_result-returns-in_err-push_str-2 g t c =
    let p = err_from_is_err_and c.from_residual-in_err-push_str-2.result c.from_residual-in_err-push_str-2.ensures.1 in
    rw (p.1, p.2) (λ named. tt)

pub write_result-write_payload-requires : goal.write_result-write_payload-requires
write_result-write_payload-requires g t c κs within =
    let d = ap depth (result_type (g.V.Type.WasmType.tree c.args.ty.now) (denoted g.V.Type.WasmType.tree c.in-Some.ok) (denoted g.V.Type.WasmType.tree c.in-Some.err) c.requires c.in-Some.ensures) in
    (omega (arith, d), within)

pub write_result-write_payload-requires-2 : goal.write_result-write_payload-requires-2
write_result-write_payload-requires-2 g t c κs within =
    let d = ap depth (result_type (g.V.Type.WasmType.tree c.args.ty.now) (denoted g.V.Type.WasmType.tree c.in-Some.ok) (denoted g.V.Type.WasmType.tree c.in-Some.err) c.requires c.in-Some.ensures) in
    (omega (arith, d), within)

pub write_result-returns-then-is_err : goal.write_result-returns-then-is_err
write_result-returns-then-is_err g t c =
    err_written g.V.WasmValue.is_full g.met.V.WasmValue.full_parts (g.V.Type.WasmType.tree c.args.ty.now) (denoted g.V.Type.WasmType.tree c.in-Some.ok) (denoted g.V.Type.WasmType.tree c.in-Some.err) c.args.bytes.now c.in_ok-is_err.rest.now _ _ _ c.in_ok-is_err.is_err c.write_payload.result (result_type (g.V.Type.WasmType.tree c.args.ty.now) (denoted g.V.Type.WasmType.tree c.in-Some.ok) (denoted g.V.Type.WasmType.tree c.in-Some.err) c.requires c.in-Some.ensures) c.in_ok-is_err.ensures c.if-is_err.true c.in_ok-push_str.ensures.bytes c.write_payload.ensures

pub write_result-returns : goal.write_result-returns
write_result-returns g t c =
    ok_written g.V.WasmValue.is_full g.met.V.WasmValue.full_parts (g.V.Type.WasmType.tree c.args.ty.now) (denoted g.V.Type.WasmType.tree c.in-Some.ok) (denoted g.V.Type.WasmType.tree c.in-Some.err) c.args.bytes.now c.in_ok-is_err.rest.now _ _ _ c.in_ok-is_err.is_err c.write_payload-2.result (result_type (g.V.Type.WasmType.tree c.args.ty.now) (denoted g.V.Type.WasmType.tree c.in-Some.ok) (denoted g.V.Type.WasmType.tree c.in-Some.err) c.requires c.in-Some.ensures) c.in_ok-is_err.ensures c.if-is_err.false c.in_ok-push_str-2.ensures.bytes c.write_payload-2.ensures

-- ---- maps

pub write_map-returns-in_default : goal.write_map-returns-in_default
write_map-returns-in_default g t c = λ named. absurd (map_some (g.V.Type.WasmType.tree c.args.ty.now) c.requires c.in_default.ensures)

pub write_map-returns-in_err-count : goal.write_map-returns-in_err-count
write_map-returns-in_err-count g t c =
    let p = err_from_is_err_and c.from_residual.result c.from_residual.ensures.1 in
    rw (p.1, p.2) (map_counted g.V.WasmValue.is_full g.met.V.WasmValue.full_parts (g.V.Type.WasmType.tree c.args.ty.now) (g.V.Type.WasmType.tree c.in-Some.key.now) (g.V.Type.WasmType.tree c.in-Some.val.now) c.args.bytes.now c.in_err-count.field-0.0 (map_type (g.V.Type.WasmType.tree c.args.ty.now) (g.V.Type.WasmType.tree c.in-Some.key.now) (g.V.Type.WasmType.tree c.in-Some.val.now) c.requires c.in-Some.ensures) c.in_err-count.ensures)

pub write_map-entry_texts-requires : goal.write_map-entry_texts-requires
write_map-entry_texts-requires g t c κs within =
    let is = (map_type (g.V.Type.WasmType.tree c.args.ty.now) (g.V.Type.WasmType.tree c.in-Some.key.now) (g.V.Type.WasmType.tree c.in-Some.val.now) c.requires c.in-Some.ensures) in
    let d = ap depth is.is in
    let k = ap depth is.key_is in
    (omega (arith, d, k), within)

pub write_map-returns-in_err-entries : goal.write_map-returns-in_err-entries
write_map-returns-in_err-entries g t c =
    let p = err_from_is_err_and c.from_residual-in_err-entries.result c.from_residual-in_err-entries.ensures.1 in
    rw (p.1, p.2) (map_stopped g.V.WasmValue.is_full g.met.V.WasmValue.full_parts (g.V.Type.WasmType.tree c.args.ty.now) (g.V.Type.WasmType.tree c.in-Some.key.now) (g.V.Type.WasmType.tree c.in-Some.val.now) c.args.bytes.now c.in_ok-count.count c.in_ok-count.rest.now c.in_err-entries.field-0.0 (map_type (g.V.Type.WasmType.tree c.args.ty.now) (g.V.Type.WasmType.tree c.in-Some.key.now) (g.V.Type.WasmType.tree c.in-Some.val.now) c.requires c.in-Some.ensures) c.in_ok-count.ensures c.in_err-entries.ensures)

pub write_map-returns-in_err-merged : goal.write_map-returns-in_err-merged
write_map-returns-in_err-merged g t c =
    let p = err_from_is_err_and c.from_residual-in_err-merged.result c.from_residual-in_err-merged.ensures.1 in
    rw (p.1, p.2) (λ named. tt)

pub write_map-loop-entry-init : goal.write_map-loop-entry-init
write_map-loop-entry-init g t c = ap (map (λ n. n.now)) c.new-texts.ensures.items

pub write_map-returns-in_err-put_in_braces : goal.write_map-returns-in_err-put_in_braces
write_map-returns-in_err-put_in_braces g t c =
    let p = err_from_is_err_and c.from_residual-in_err-put_in_braces.result c.from_residual-in_err-put_in_braces.ensures.1 in
    rw (p.1, p.2) (λ named. tt)

pub write_map-returns : goal.write_map-returns
write_map-returns g t c =
    let is = (map_type (g.V.Type.WasmType.tree c.args.ty.now) (g.V.Type.WasmType.tree c.in-Some.key.now) (g.V.Type.WasmType.tree c.in-Some.val.now) c.requires c.in-Some.ensures) in
    let (es, read, said) = c.in_ok-entries.ensures in
    let (all, are, whole) = map_reads g.V.WasmValue.is_full g.met.V.WasmValue.full_parts (g.V.Type.WasmType.tree c.args.ty.now) (g.V.Type.WasmType.tree c.in-Some.key.now) (g.V.Type.WasmType.tree c.in-Some.val.now) c.args.bytes.now c.in_ok-count.count c.in_ok-count.rest.now es c.in_ok-entries.rest.now is c.in_ok-count.ensures read in
    let v : Value = value.map (entries all) in
    let well = formed (g.V.Type.WasmType.tree c.args.ty.now) v (value_typed (g.V.Type.WasmType.tree c.args.ty.now) c.args.bytes.now v c.in_ok-entries.rest.now (λ i. omega (arith, c.type_inv.bytes i)) whole) in
    let texts_are = ap texts c.deref.ensures.value ∙ (c.loop-entry.invariant ∙ ap (map text_of) (take_all c.loop-entry.entry-index c.deref-entry-items.result.now c.loop-entry-test.false ∙ c.deref-entry-items.ensures.value)) in
    (v, whole, c.in_ok-put_in_braces.ensures ∙ ap (λ s. string_bytes c.args.out.now ++ s) (ap (λ l. in_braces (joined l)) texts_are ∙ sym (map_text all es c.in_ok-entries.entries.items c.in_ok-merged.merged.items are well said c.in_ok-merged.ensures)))

-- ---- entries

pub entry_texts-loop-init : goal.entry_texts-loop-init
entry_texts-loop-init g t c = ([], first_front (λ (v : Value × Value). v) [] _ _ refl (ap (λ (n : ℕ). times (pair_at (value_at (g.V.Type.WasmType.tree c.args.key_ty.now)) (value_at (g.V.Type.WasmType.tree c.args.val_ty.now))) n c.args.bytes.now) (less_none c.args.count)), ap (map held_texts) c.new-entries.ensures.items)

pub entry_texts-write_value-requires : goal.entry_texts-write_value-requires
entry_texts-write_value-requires g t c κs within = (omega arith, within)

pub entry_texts-write_value-requires-in-loop : goal.entry_texts-write_value-requires-in-loop
entry_texts-write_value-requires-in-loop g t c κs within = (omega arith, within)

pub entry_texts-returns-in_err-behind_key : goal.entry_texts-returns-in_err-behind_key
entry_texts-returns-in_err-behind_key g t c =
    let p = err_from_is_err_and c.from_residual.result c.from_residual.ensures.1 in
    rw (p.1, p.2) (λ named text. fails_of (g.V.WasmValue.is_full (g.V.Type.WasmType.tree c.args.key_ty.now)) (g.V.WasmValue.is_full (g.V.Type.WasmType.tree c.args.key_ty.now) × g.V.WasmValue.is_full (g.V.Type.WasmType.tree c.args.val_ty.now)) c.in_err-behind_key.field-0.0 (value_at (g.V.Type.WasmType.tree c.args.key_ty.now) c.loop.rest.now) (times (pair_at (value_at (g.V.Type.WasmType.tree c.args.key_ty.now)) (value_at (g.V.Type.WasmType.tree c.args.val_ty.now))) c.args.count c.args.bytes.now) (λ full. full.0) (λ x e. stops_here c.loop.invariant.0 _ _ x (times_stop (pair_at (value_at (g.V.Type.WasmType.tree c.args.key_ty.now)) (value_at (g.V.Type.WasmType.tree c.args.val_ty.now))) c.args.count c.loop.counter c.loop.rest.now x c.loop-test.true (stops_at (value_at (g.V.Type.WasmType.tree c.args.key_ty.now) c.loop.rest.now) (λ a. value_at (g.V.Type.WasmType.tree c.args.val_ty.now) a.1 >>= λ b. read_as (a.0, b.0) b.1) x e)) c.loop.invariant.1) (c.in_err-behind_key.ensures named))

pub entry_texts-returns-in_err-entry : goal.entry_texts-returns-in_err-entry
entry_texts-returns-in_err-entry g t c =
    let p = err_from_is_err_and c.from_residual-in_err-entry.result c.from_residual-in_err-entry.ensures.1 in
    rw (p.1, p.2) (λ named text. tt)

pub entry_texts-returns-in_err-push_str : goal.entry_texts-returns-in_err-push_str
entry_texts-returns-in_err-push_str g t c =
    let p = err_from_is_err_and c.from_residual-in_err-push_str.result c.from_residual-in_err-push_str.ensures.1 in
    rw (p.1, p.2) (λ named text. tt)

pub entry_texts-returns-in_err-push : goal.entry_texts-returns-in_err-push
entry_texts-returns-in_err-push g t c =
    let p = err_from_is_err_and c.from_residual-in_err-push.result c.from_residual-in_err-push.ensures.1 in
    rw (p.1, p.2) (λ named text. tt)

pub entry_texts-returns-in_err-behind_val : goal.entry_texts-returns-in_err-behind_val
entry_texts-returns-in_err-behind_val g t c =
    let p = err_from_is_err_and c.from_residual-in_err-behind_val.result c.from_residual-in_err-behind_val.ensures.1 in
    rw (p.1, p.2) (λ named text. fails_of (g.V.WasmValue.is_full (g.V.Type.WasmType.tree c.args.val_ty.now)) (g.V.WasmValue.is_full (g.V.Type.WasmType.tree c.args.key_ty.now) × g.V.WasmValue.is_full (g.V.Type.WasmType.tree c.args.val_ty.now)) c.in_err-behind_val.field-0.0 (value_at (g.V.Type.WasmType.tree c.args.val_ty.now) c.in_ok-behind_key.behind_key.now) (times (pair_at (value_at (g.V.Type.WasmType.tree c.args.key_ty.now)) (value_at (g.V.Type.WasmType.tree c.args.val_ty.now))) c.args.count c.args.bytes.now) (λ full. full.1) (λ x e. stops_here c.loop.invariant.0 _ _ x (times_stop (pair_at (value_at (g.V.Type.WasmType.tree c.args.key_ty.now)) (value_at (g.V.Type.WasmType.tree c.args.val_ty.now))) c.args.count c.loop.counter c.loop.rest.now x c.loop-test.true (second_stop (g.V.Type.WasmType.tree c.args.key_ty.now) (g.V.Type.WasmType.tree c.args.val_ty.now) c.loop.rest.now _ _ x c.in_ok-behind_key.ensures.1 e)) c.loop.invariant.1) (c.in_err-behind_val.ensures text))

pub entry_texts-loop-preserved : goal.entry_texts-loop-preserved
entry_texts-loop-preserved g t c =
    let k = c.in_ok-behind_key.ensures in
    let v = c.in_ok-behind_val.ensures in
    let es = c.loop.invariant.0 in (
      es ++ (k.0, v.0) ∷ [],
      goes_on es (k.0, v.0) _ _ _ (times_step (pair_at (value_at (g.V.Type.WasmType.tree c.args.key_ty.now)) (value_at (g.V.Type.WasmType.tree c.args.val_ty.now))) c.args.count c.loop.counter c.loop.rest.now (k.0, v.0) _ c.loop-test.true (pair_read (g.V.Type.WasmType.tree c.args.key_ty.now) (g.V.Type.WasmType.tree c.args.val_ty.now) c.loop.rest.now _ _ _ _ k.1 v.1)) c.loop.invariant.1,
      entry_more c.loop.entries.items _ es _ k.0 v.0 _ _ c.new-key.ensures.bytes k.2 (c.in_ok-push_str.ensures.bytes ∙ ap (λ (s : List ℕ). s ++ codes ": ") c.in_ok-entry.ensures.cases) v.2 c.in_ok-push.ensures.items c.loop.invariant.2,
    )

pub entry_texts-returns : goal.entry_texts-returns
entry_texts-returns g t c =
    let es = c.loop.invariant.0 in
    (es, is_done es c.loop.rest.now _ _ (times_end (pair_at (value_at (g.V.Type.WasmType.tree c.args.key_ty.now)) (value_at (g.V.Type.WasmType.tree c.args.val_ty.now))) c.args.count c.loop.counter c.loop.rest.now c.loop-test.false) c.loop.invariant.1, c.loop.invariant.2)

-- ---- by kind

pub write_value-returns-in-Tuple : goal.write_value-returns-in-Tuple
write_value-returns-in-Tuple g t c = c.write_tuple.ensures

pub write_value-write_tuple-requires : goal.write_value-write_tuple-requires
write_value-write_tuple-requires g t c κs within = (omega arith, (within.0, (within.1, sym c.kind-kind.ensures ∙ c.in-Tuple.is)))

pub write_value-returns-in-Record : goal.write_value-returns-in-Record
write_value-returns-in-Record g t c = c.write_record.ensures

pub write_value-write_record-requires : goal.write_value-write_record-requires
write_value-write_record-requires g t c κs within = (omega arith, (within.0, (within.1, sym c.kind-kind.ensures ∙ c.in-Record.is)))

pub write_value-returns-in-Variant : goal.write_value-returns-in-Variant
write_value-returns-in-Variant g t c = c.write_variant.ensures

pub write_value-write_variant-requires : goal.write_value-write_variant-requires
write_value-write_variant-requires g t c κs within = (omega arith, (within.0, (within.1, sym c.kind-kind.ensures ∙ c.in-Variant.is)))

pub write_value-returns-in-Option : goal.write_value-returns-in-Option
write_value-returns-in-Option g t c = c.write_option.ensures

pub write_value-write_option-requires : goal.write_value-write_option-requires
write_value-write_option-requires g t c κs within = (omega arith, (within.0, (within.1, sym c.kind-kind.ensures ∙ c.in-Option.is)))

pub write_value-returns-in-Result : goal.write_value-returns-in-Result
write_value-returns-in-Result g t c = c.write_result.ensures

pub write_value-write_result-requires : goal.write_value-write_result-requires
write_value-write_result-requires g t c κs within = (omega arith, (within.0, (within.1, sym c.kind-kind.ensures ∙ c.in-Result.is)))

pub write_value-returns-in-Map : goal.write_value-returns-in-Map
write_value-returns-in-Map g t c = c.write_map.ensures

pub write_value-write_map-requires : goal.write_value-write_map-requires
write_value-write_map-requires g t c κs within = (omega arith, (within.0, (within.1, sym c.kind-kind.ensures ∙ c.in-Map.is)))

pub write_value-returns-in-List : goal.write_value-returns-in-List
write_value-returns-in-List g t c = c.write_list.ensures

pub write_value-write_list-requires : goal.write_value-write_list-requires
write_value-write_list-requires g t c κs within = (omega arith, (within.0, (within.1, list_kind (g.V.Type.WasmType.tree c.args.ty.now) c.kind-kind.result c.kind-kind.ensures c.in-List.is)))

pub write_value-returns-in-Enum : goal.write_value-returns-in-Enum
write_value-returns-in-Enum g t c = c.write_enum.ensures

pub write_value-write_enum-requires : goal.write_value-write_enum-requires
write_value-write_enum-requires g t c = sym c.kind-kind.ensures ∙ c.in-Enum.is

pub write_value-returns-in-Flags : goal.write_value-returns-in-Flags
write_value-returns-in-Flags g t c = c.write_flags.ensures

pub write_value-write_flags-requires : goal.write_value-write_flags-requires
write_value-write_flags-requires g t c = sym c.kind-kind.ensures ∙ c.in-Flags.is

pub write_value-returns-in-F32 : goal.write_value-returns-in-F32
write_value-returns-in-F32 g t c = λ named. unreadable_at (g.V.Type.WasmType.tree c.args.ty.now) c.args.bytes.now c.kind-kind.result c.kind-kind.ensures c.in-F32.is

pub write_value-returns-in-Bool : goal.write_value-returns-in-Bool
write_value-returns-in-Bool g t c =
    let is = simple_of_kind (g.V.Type.WasmType.tree c.args.ty.now) c.kind-kind.result c.kind-kind.ensures c.in-Bool.is in
    subst (λ (U : TypeTree). IsWritten g.V.WasmValue.is_full U c.args.bytes.now (string_bytes c.args.out.now) (string_bytes c.write_leaf.new.out) c.write_leaf.result) (sym is.1) (leaf_value g.V.WasmValue.is_full is.0 c.args.bytes.now _ _ c.write_leaf.result (c.write_leaf.ensures is.0 is.2))
