use Rattle.std.proofs.Common.{arith, ℕ, ◌+◌, ◌&&◌, List, ap, sym, ◌∙◌, refl, Bor, Bool, map}
use Rattle.std.proofs.lemmas.Result.{err_from_is_err_and}
use Rattle.std.specs.List.{list_all}
use Rattle.std.specs.Str.{bytes_eq}
use Rattle.wave_wasm.specs.Commas.{enclosed, behind_name}
use Rattle.wave_wasm.specs.Borrowed.{denoted}
use Rattle.wave_wasm.specs.Text.{text, has_text}
use Rattle.wave_wasm.specs.TextParts.{payload_text, has_payload_text}
use Rattle.wave_wasm.specs.Values.{Value, maybe_value, depth, depth_of_maybe}
use Rattle.wave_writer.specs.Private.Values.{IsLeaf}
use Rattle.wave_writer.proofs.CanonicalText.WrittenParts.{writing_more, writing_refused, writing_refused_text, start_refused, start_written, writing_as, writing_none, refused_before, refused_grounded, refused_unsupported, writing_last, nothing_written}
use Rattle.wave_writer.proofs.CanonicalText.Rows.{writing_rest, refused_rows, rest_writable, rest_item}
use Rattle.wave_wasm.proofs.CanonicalText.Sequences.{item_blocks, item_passes, items_pass, part_depth, all_at, prefix_split, prefix_writable, prefix_blocks, prefix_passes, last_decides, prefix_depth, last_depth, none_taken}
use Rattle.wave_writer.proofs.CanonicalText.WrittenSequences.{writing_start, writing_close, writing_prefix_start, writing_prefix, writing_prefix_close}
use Rattle.wave_wasm.proofs.CanonicalText.ValueParts.{map_map, all_map, list_sequence, tuple_sequence, record_is, variant_text, variant_writable, ok_text, ok_writable, err_text, err_writable, no_text_of_kind, of_list_kind}
use Rattle.wave_writer.proofs.TypesOfValues.MatchedKinds.{leaf_of}
use Rattle.wave_writer.proofs.CanonicalText.Records.{writing_field, writing_skipped, none_writable, writing_record_close}
use Rattle.wave_writer.proofs.CanonicalText.Maps.{map_is, keys_are_leaves, writing_entry}
use Rattle.wave_writer.proofs.Merging.Congruence.{keys_keep}
use Rattle.wave_writer.proofs.writer.Writer.+write.Goals as goal

-- items between a start and an end

pub write_items-returns-in_default : goal.write_items-returns-in_default
write_items-returns-in_default g t c =
    let tree : Bor g.row.V.Denot → Value = λ v. g.V.WasmValue.tree v.now in
    let none = none_taken c.args.items.items _ c.pop.result c.args.items.ok.0 c.pop.ensures.variant c.in_default.is in
    let w = start_written c.args.closing.now (ap (λ l. enclosed c.args.opening.now (map text (map tree l)) c.args.closing.now) none) c.in_ok-write_text.ensures.ok in
    writing_last w (ap (λ l. list_all has_text (map tree l)) none) c.write_text-in_default.ensures

pub write_items-returns-in_err-written : goal.write_items-returns-in_err-written
write_items-returns-in_err-written g t c =
    let f : Bor g.row.V.Denot → List ℕ = λ v. text (g.V.WasmValue.tree v.now) in
    let tree : Bor g.row.V.Denot → Value = λ v. g.V.WasmValue.tree v.now in
    let p = err_from_is_err_and c.from_residual-in_err-written.result c.from_residual-in_err-written.ensures.1 in
    let ys = c.as_slice-others.result.now in
    let split = prefix_split c.args.items.items c.pop.new.self.items ys c.pop.result c.in-Some.last c.pop.ensures.items c.as_slice-others.ensures.value c.in-Some.is in
    let w = writing_prefix_start f c.args.items.items ys c.in-Some.last _ _ (ap (λ z. enclosed c.args.opening.now z c.args.closing.now) (map_map text tree c.args.items.items)) split c.in_ok-write_text.ensures.ok in
    rw (p.1, p.2) (refused_rows f ys _ _ w c.in_err-written.ensures.err)

pub write_items-loop-item-init : goal.write_items-loop-item-init
write_items-loop-item-init g t c =
    let f : Bor g.row.V.Denot → List ℕ = λ v. text (g.V.WasmValue.tree v.now) in
    let tree : Bor g.row.V.Denot → Value = λ v. g.V.WasmValue.tree v.now in
    let ok : Bor g.row.V.Denot → Bool = λ v. has_text (g.V.WasmValue.tree v.now) in
    let ys = c.as_slice-others.result.now in
    let split = prefix_split c.args.items.items c.pop.new.self.items ys c.pop.result c.in-Some.last c.pop.ensures.items c.as_slice-others.ensures.value c.in-Some.is in
    let w = writing_prefix_start f c.args.items.items ys c.in-Some.last _ _ (ap (λ z. enclosed c.args.opening.now z c.args.closing.now) (map_map text tree c.args.items.items)) split c.in_ok-write_text.ensures.ok in
    record {
      writing = writing_rest f ys c.in_ok-written.written _ _ w c.in_ok-written.ensures.ok;
      writable = ap (λ b. b && ok c.in-Some.last) (rest_writable ok ys c.in_ok-written.written c.in_ok-written.ensures.writable) ∙ sym (all_map has_text tree c.args.items.items ∙ (ap (list_all ok) split ∙ prefix_writable ok ys c.in-Some.last));
    }

pub write_items-write_value-requires : goal.write_items-write_value-requires
write_items-write_value-requires g t c κs within =
    let tree : Bor g.row.V.Denot → Value = λ v. g.V.WasmValue.tree v.now in
    let ys = c.as_slice-others.result.now in
    let split = prefix_split c.args.items.items c.pop.new.self.items ys c.pop.result c.in-Some.last c.pop.ensures.items c.as_slice-others.ensures.value c.in-Some.is in
    let r = rest_item ys c.in_ok-written.written c.loop-item.item-index c.item-item.result c.loop-item-test.true c.item-item.is in
    let h = prefix_depth depth tree c.args.items.items ys c.in-Some.last (c.in_ok-written.written + c.loop-item.item-index) c.item-item.result split r.0 r.1 in
    (omega (arith, h), within)

pub write_items-returns-in_err-write_value : goal.write_items-returns-in_err-write_value
write_items-returns-in_err-write_value g t c =
    let f : Bor g.row.V.Denot → List ℕ = λ v. text (g.V.WasmValue.tree v.now) in
    let ok : Bor g.row.V.Denot → Bool = λ v. has_text (g.V.WasmValue.tree v.now) in
    let p = err_from_is_err_and c.from_residual-in_err-write_value.result c.from_residual-in_err-write_value.ensures.1 in
    let w = writing_prefix f _ c.loop-item.item-index c.item-item.result _ _ c.loop-item-test.true c.item-item.is c.loop-item.invariant.writing in
    rw (p.1, p.2) (writing_refused _ w (prefix_blocks ok _ _ c.loop-item.item-index c.item-item.result _ c.loop-item-test.true c.item-item.is c.loop-item.invariant.writable) c.in_err-write_value.ensures.err)

pub write_items-returns-in_err-write_text-2 : goal.write_items-returns-in_err-write_text-2
write_items-returns-in_err-write_text-2 g t c =
    let f : Bor g.row.V.Denot → List ℕ = λ v. text (g.V.WasmValue.tree v.now) in
    let p = err_from_is_err_and c.from_residual-in_err-write_text-2.result c.from_residual-in_err-write_text-2.ensures.1 in
    let w = writing_prefix f _ c.loop-item.item-index c.item-item.result _ _ c.loop-item-test.true c.item-item.is c.loop-item.invariant.writing in
    rw (p.1, p.2) (writing_refused_text _ (writing_more w c.in_ok-write_value.ensures.ok) c.in_err-write_text-2.ensures)

pub write_items-loop-item-preserved : goal.write_items-loop-item-preserved
write_items-loop-item-preserved g t c =
    let f : Bor g.row.V.Denot → List ℕ = λ v. text (g.V.WasmValue.tree v.now) in
    let ok : Bor g.row.V.Denot → Bool = λ v. has_text (g.V.WasmValue.tree v.now) in
    let w = writing_prefix f _ c.loop-item.item-index c.item-item.result _ _ c.loop-item-test.true c.item-item.is c.loop-item.invariant.writing in
    record {
      writing = writing_more (writing_more w c.in_ok-write_value.ensures.ok) c.in_ok-write_text-2.ensures.ok;
      writable = prefix_passes ok _ _ c.loop-item.item-index c.item-item.result _ c.loop-item-test.true c.item-item.is c.loop-item.invariant.writable c.in_ok-write_value.ensures.writable;
    }

pub write_items-write_value-requires-2 : goal.write_items-write_value-requires-2
write_items-write_value-requires-2 g t c κs within =
    let tree : Bor g.row.V.Denot → Value = λ v. g.V.WasmValue.tree v.now in
    let ys = c.as_slice-others.result.now in
    let split = prefix_split c.args.items.items c.pop.new.self.items ys c.pop.result c.in-Some.last c.pop.ensures.items c.as_slice-others.ensures.value c.in-Some.is in
    let h = last_depth depth tree c.args.items.items ys c.in-Some.last split in
    (omega (arith, h), within)

pub write_items-returns-in_err-write_value-2 : goal.write_items-returns-in_err-write_value-2
write_items-returns-in_err-write_value-2 g t c =
    let f : Bor g.row.V.Denot → List ℕ = λ v. text (g.V.WasmValue.tree v.now) in
    let ok : Bor g.row.V.Denot → Bool = λ v. has_text (g.V.WasmValue.tree v.now) in
    let p = err_from_is_err_and c.from_residual-in_err-write_value-2.result c.from_residual-in_err-write_value-2.ensures.1 in
    let w = writing_prefix_close f _ c.loop-item.item-index _ _ c.loop-item-test.false c.loop-item.invariant.writing in
    let all = last_decides ok _ _ c.loop-item.item-index _ c.loop-item-test.false c.loop-item.invariant.writable in
    rw (p.1, p.2) (writing_refused _ w (λ h. all ∙ h) c.in_err-write_value-2.ensures.err)

pub write_items-returns : goal.write_items-returns
write_items-returns g t c =
    let f : Bor g.row.V.Denot → List ℕ = λ v. text (g.V.WasmValue.tree v.now) in
    let ok : Bor g.row.V.Denot → Bool = λ v. has_text (g.V.WasmValue.tree v.now) in
    let w = writing_prefix_close f _ c.loop-item.item-index _ _ c.loop-item-test.false c.loop-item.invariant.writing in
    let all = last_decides ok _ _ c.loop-item.item-index _ c.loop-item-test.false c.loop-item.invariant.writable in
    writing_last (writing_more w c.in_ok-write_value-2.ensures.ok) (all ∙ c.in_ok-write_value-2.ensures.writable) c.write_text-2.ensures

-- a list

pub write_list-write_items-requires : goal.write_list-write_items-requires
write_list-write_items-requires g t c κs within =
    let s = list_sequence _ _ c.requires c.in_ok-items.ensures in
    let d = s.depth_is in
    (omega (arith, d), within)

pub write_list-returns : goal.write_list-returns
write_list-returns g t c =
    let s = list_sequence _ _ c.requires c.in_ok-items.ensures in
    rw (s.text_is, s.writable_is) c.write_items.ensures

-- a tuple

pub write_tuple-write_items-requires : goal.write_tuple-write_items-requires
write_tuple-write_items-requires g t c κs within =
    let s = tuple_sequence _ _ c.requires c.in_ok-items.ensures in
    let d = s.depth_is in
    (omega (arith, d), within)

pub write_tuple-returns : goal.write_tuple-returns
write_tuple-returns g t c =
    let s = tuple_sequence _ _ c.requires c.in_ok-items.ensures in
    rw (s.text_is, s.writable_is) c.write_items.ensures

-- a record

pub write_record-returns-in_err-fields : goal.write_record-returns-in_err-fields
write_record-returns-in_err-fields g t c =
    let p = err_from_is_err_and c.from_residual.result c.from_residual.ensures.1 in
    rw (p.1, p.2) (refused_before _ _ _ _)

pub write_record-loop-field-init : goal.write_record-loop-field-init
write_record-loop-field-init g t c =
    let f : Bor (List ℕ) × Bor g.row.V.Denot → List ℕ × Value = λ x. (x.0.now, g.V.WasmValue.tree x.1.now) in
    let s = record_is _ _ c.requires (ap (map f) c.deref-field-items.ensures.value ∙ c.in_ok-fields.ensures) in
    record {
      writing = writing_as s.text_is (writing_none _ _);
      writable = sym (s.writable_is ∙ all_map (λ (x : List ℕ × Value). has_text x.1) f c.deref-field-items.result.now);
    }

pub write_record-returns-in_err-write_either : goal.write_record-returns-in_err-write_either
write_record-returns-in_err-write_either g t c =
    let f : Bor (List ℕ) × Bor g.row.V.Denot → List ℕ × Value = λ x. (x.0.now, g.V.WasmValue.tree x.1.now) in
    let some = sym c.is_none.ensures ∙ c.if-is_none.false in
    let w = writing_field f c.deref-field-items.result.now c.loop-field.field-index c.field-item.result _ c.loop-field-test.true c.field-item.is some c.loop-field.invariant.writing in
    let p = err_from_is_err_and c.from_residual-in_err-write_either.result c.from_residual-in_err-write_either.ensures.1 in
    rw (p.1, p.2) (writing_refused_text _ w c.in_err-write_either.ensures)

pub write_record-returns-in_err-write_text : goal.write_record-returns-in_err-write_text
write_record-returns-in_err-write_text g t c =
    let f : Bor (List ℕ) × Bor g.row.V.Denot → List ℕ × Value = λ x. (x.0.now, g.V.WasmValue.tree x.1.now) in
    let some = sym c.is_none.ensures ∙ c.if-is_none.false in
    let w = writing_field f c.deref-field-items.result.now c.loop-field.field-index c.field-item.result _ c.loop-field-test.true c.field-item.is some c.loop-field.invariant.writing in
    let p = err_from_is_err_and c.from_residual-in_err-write_text.result c.from_residual-in_err-write_text.ensures.1 in
    rw (p.1, p.2) (writing_refused_text _ (writing_more w c.in_ok-write_either.ensures.ok) c.in_err-write_text.ensures)

pub write_record-returns-in_err-write_text-2 : goal.write_record-returns-in_err-write_text-2
write_record-returns-in_err-write_text-2 g t c =
    let f : Bor (List ℕ) × Bor g.row.V.Denot → List ℕ × Value = λ x. (x.0.now, g.V.WasmValue.tree x.1.now) in
    let some = sym c.is_none.ensures ∙ c.if-is_none.false in
    let w = writing_field f c.deref-field-items.result.now c.loop-field.field-index c.field-item.result _ c.loop-field-test.true c.field-item.is some c.loop-field.invariant.writing in
    let p = err_from_is_err_and c.from_residual-in_err-write_text-2.result c.from_residual-in_err-write_text-2.ensures.1 in
    rw (p.1, p.2) (writing_refused_text _ (writing_more (writing_more w c.in_ok-write_either.ensures.ok) c.in_ok-write_text.ensures.ok) c.in_err-write_text-2.ensures)

pub write_record-write_value-requires : goal.write_record-write_value-requires
write_record-write_value-requires g t c κs within =
    let f : Bor (List ℕ) × Bor g.row.V.Denot → List ℕ × Value = λ x. (x.0.now, g.V.WasmValue.tree x.1.now) in
    let s = record_is _ _ c.requires c.in_ok-fields.ensures in
    let d = s.depth_is in
    let h = part_depth (λ (x : List ℕ × Value). depth x.1) f c.deref-field-items.result.now _ c.loop-field.field-index c.field-item.result c.deref-field-items.ensures.value c.loop-field-test.true c.field-item.is in
    (omega (arith, h, d), within)

pub write_record-returns-in_err-write_value : goal.write_record-returns-in_err-write_value
write_record-returns-in_err-write_value g t c =
    let f : Bor (List ℕ) × Bor g.row.V.Denot → List ℕ × Value = λ x. (x.0.now, g.V.WasmValue.tree x.1.now) in
    let some = sym c.is_none.ensures ∙ c.if-is_none.false in
    let w = writing_field f c.deref-field-items.result.now c.loop-field.field-index c.field-item.result _ c.loop-field-test.true c.field-item.is some c.loop-field.invariant.writing in
    let p = err_from_is_err_and c.from_residual-in_err-write_value.result c.from_residual-in_err-write_value.ensures.1 in
    rw (p.1, p.2) (writing_refused _ (writing_more (writing_more (writing_more w c.in_ok-write_either.ensures.ok) c.in_ok-write_text.ensures.ok) c.in_ok-write_text-2.ensures.ok) (item_blocks (λ (x : Bor (List ℕ) × Bor g.row.V.Denot). has_text (g.V.WasmValue.tree x.1.now)) c.deref-field-items.result.now c.loop-field.field-index c.field-item.result _ c.loop-field-test.true c.field-item.is c.loop-field.invariant.writable) c.in_err-write_value.ensures.err)

pub write_record-returns : goal.write_record-returns
write_record-returns g t c =
    let f : Bor (List ℕ) × Bor g.row.V.Denot → List ℕ × Value = λ x. (x.0.now, g.V.WasmValue.tree x.1.now) in
    let w = writing_record_close f c.deref-field-items.result.now c.loop-field.field-index _ c.loop-field-test.false c.loop-field.invariant.writing in
    writing_last w (items_pass (λ (x : Bor (List ℕ) × Bor g.row.V.Denot). has_text (g.V.WasmValue.tree x.1.now)) c.deref-field-items.result.now c.loop-field.field-index _ c.loop-field-test.false c.loop-field.invariant.writable) c.write_either-2.ensures

pub write_record-loop-field-preserved : goal.write_record-loop-field-preserved
write_record-loop-field-preserved g t c =
    let f : Bor (List ℕ) × Bor g.row.V.Denot → List ℕ × Value = λ x. (x.0.now, g.V.WasmValue.tree x.1.now) in
    let some = sym c.is_none.ensures ∙ c.if-is_none.false in
    let w = writing_field f c.deref-field-items.result.now c.loop-field.field-index c.field-item.result _ c.loop-field-test.true c.field-item.is some c.loop-field.invariant.writing in
    record {
      writing = writing_more (writing_more (writing_more (writing_more w c.in_ok-write_either.ensures.ok) c.in_ok-write_text.ensures.ok) c.in_ok-write_text-2.ensures.ok) c.in_ok-write_value.ensures.ok;
      writable = item_passes (λ (x : Bor (List ℕ) × Bor g.row.V.Denot). has_text (g.V.WasmValue.tree x.1.now)) c.deref-field-items.result.now c.loop-field.field-index c.field-item.result _ c.loop-field-test.true c.field-item.is c.loop-field.invariant.writable c.in_ok-write_value.ensures.writable;
    }

-- payloads

pub write_variant-returns : goal.write_variant-returns
write_variant-returns g t c =
    let w = start_written _ (ap text c.unwrap_variant.ensures ∙ variant_text c.unwrap_variant.result.0.now (denoted g.V.WasmValue.tree c.unwrap_variant.result.1)) c.in_ok-write_case.ensures.ok in
    let ok = ap has_text c.unwrap_variant.ensures ∙ variant_writable c.unwrap_variant.result.0.now (denoted g.V.WasmValue.tree c.unwrap_variant.result.1) in
    writing_last w ok c.write_payload.ensures

pub write_option-returns-in_err-write_text-in-Some : goal.write_option-returns-in_err-write_text-in-Some
write_option-returns-in_err-write_text-in-Some g t c =
    let p = err_from_is_err_and c.from_residual.result c.from_residual.ensures.1 in
    rw (p.1, p.2) (start_refused _ (ap text c.in-Some.ensures) c.in_err-write_text-in-Some.ensures)

pub write_result-returns-in_err-write_text-in-Ok : goal.write_result-returns-in_err-write_text-in-Ok
write_result-returns-in_err-write_text-in-Ok g t c =
    let p = err_from_is_err_and c.from_residual.result c.from_residual.ensures.1 in
    rw (p.1, p.2) (start_refused _ (ap text c.in-Ok.ensures ∙ ok_text _) c.in_err-write_text-in-Ok.ensures)

pub write_result-returns-in_err-write_text-in-Err : goal.write_result-returns-in_err-write_text-in-Err
write_result-returns-in_err-write_text-in-Err g t c =
    let p = err_from_is_err_and c.from_residual-in_err-write_text-in-Err.result c.from_residual-in_err-write_text-in-Err.ensures.1 in
    rw (p.1, p.2) (start_refused _ (ap text c.in-Err.ensures ∙ err_text _) c.in_err-write_text-in-Err.ensures)

pub write_payload-returns-in_err-write_text-in-Some : goal.write_payload-returns-in_err-write_text-in-Some
write_payload-returns-in_err-write_text-in-Some g t c =
    let p = err_from_is_err_and c.from_residual.result c.from_residual.ensures.1 in
    rw (p.1, p.2) (start_refused _ (ap (λ o. payload_text (denoted g.V.WasmValue.tree o)) c.in-Some.is) c.in_err-write_text-in-Some.ensures)

pub write_payload-returns-in_ok-write_value-in-Some : goal.write_payload-returns-in_ok-write_value-in-Some
write_payload-returns-in_ok-write_value-in-Some g t c =
    let w = writing_more (start_written _ (ap (λ o. payload_text (denoted g.V.WasmValue.tree o)) c.in-Some.is) c.in_ok-write_text-in-Some.ensures.ok) c.in_ok-write_value-in-Some.ensures.ok in
    writing_last w (ap (λ o. has_payload_text (denoted g.V.WasmValue.tree o)) c.in-Some.is ∙ c.in_ok-write_value-in-Some.ensures.writable) c.write_text-in-Some.ensures

pub write_value-returns-in-F32-clause-err : goal.write_value-returns-in-F32-clause-err
write_value-returns-in-F32-clause-err g t c =
    refused_unsupported _ _ _ (no_text_of_kind _ _ c.kind.ensures.kind c.in-F32.is)

-- a map

pub write_map-merge_entries-requires : goal.write_map-merge_entries-requires
write_map-merge_entries-requires g t c =
    let f : Bor g.row.V.Denot → Value = λ v. g.V.WasmValue.tree v.now in
    keys_are_leaves f _ _ c.in_ok-entries.ensures

pub write_map-returns-in_err-merged : goal.write_map-returns-in_err-merged
write_map-returns-in_err-merged g t c =
    let p = err_from_is_err_and c.from_residual-in_err-merged.result c.from_residual-in_err-merged.ensures.1 in
    rw (p.1, p.2) (refused_grounded _ _ _ _ c.in_err-merged.ensures.err)

pub write_map-returns-in_err-write_text : goal.write_map-returns-in_err-write_text
write_map-returns-in_err-write_text g t c =
    let f : Bor g.row.V.Denot → Value = λ v. g.V.WasmValue.tree v.now in
    let s = map_is f _ c.in_ok-entries.entries.items c.requires.kind c.requires.formed c.in_ok-entries.ensures c.in_ok-merged.merged.items c.in_ok-merged.ensures.ok in
    let p = err_from_is_err_and c.from_residual-in_err-write_text.result c.from_residual-in_err-write_text.ensures.1 in
    rw (p.1, p.2) (start_refused _ s.text_is c.in_err-write_text.ensures)

pub write_map-loop-entry-init : goal.write_map-loop-entry-init
write_map-loop-entry-init g t c =
    let f : Bor g.row.V.Denot → Value = λ v. g.V.WasmValue.tree v.now in
    let key : Bor g.row.V.Denot × Bor g.row.V.Denot → List ℕ = λ e. text (g.V.WasmValue.tree e.0.now) in
    let value : Bor g.row.V.Denot × Bor g.row.V.Denot → List ℕ = λ e. text (g.V.WasmValue.tree e.1.now) in
    let s = map_is f _ c.in_ok-entries.entries.items c.requires.kind c.requires.formed c.in_ok-entries.ensures c.deref-entry-items.result.now (c.deref-entry-items.ensures.value ∙ c.in_ok-merged.ensures.ok) in
    record {
      writing = writing_start (λ e. behind_name (key e) (value e)) c.deref-entry-items.result.now _ _ s.text_is c.in_ok-write_text.ensures.ok;
      writable = sym s.writable_is;
    }

pub write_map-returns-in_err-write_separator : goal.write_map-returns-in_err-write_separator
write_map-returns-in_err-write_separator g t c =
    let key : Bor g.row.V.Denot × Bor g.row.V.Denot → List ℕ = λ e. text (g.V.WasmValue.tree e.0.now) in
    let value : Bor g.row.V.Denot × Bor g.row.V.Denot → List ℕ = λ e. text (g.V.WasmValue.tree e.1.now) in
    let p = err_from_is_err_and c.from_residual-in_err-write_separator.result c.from_residual-in_err-write_separator.ensures.1 in
    let w = writing_entry key value c.deref-entry-items.result.now c.loop-entry.entry-index c.entry-item.result _ _ _ c.loop-entry-test.true c.entry-item.is refl c.loop-entry.invariant.writing in
    rw (p.1, p.2) (writing_refused_text _ w c.in_err-write_separator.ensures)

pub write_map-write_leaf-requires : goal.write_map-write_leaf-requires
write_map-write_leaf-requires g t c =
    let f : Bor g.row.V.Denot → Value = λ v. g.V.WasmValue.tree v.now in
    let leaves = keys_keep (λ k. IsLeaf (f k)) (λ a b. bytes_eq (text (f a)) (text (f b))) c.in_ok-entries.entries.items (keys_are_leaves f _ _ c.in_ok-entries.ensures) in
    all_at (λ e. IsLeaf (f e.0)) c.deref-entry-items.result.now _ c.loop-entry.entry-index c.entry-item.result (c.deref-entry-items.ensures.value ∙ c.in_ok-merged.ensures.ok) c.loop-entry-test.true c.entry-item.is leaves

pub write_map-returns-in_err-write_leaf : goal.write_map-returns-in_err-write_leaf
write_map-returns-in_err-write_leaf g t c =
    let key : Bor g.row.V.Denot × Bor g.row.V.Denot → List ℕ = λ e. text (g.V.WasmValue.tree e.0.now) in
    let value : Bor g.row.V.Denot × Bor g.row.V.Denot → List ℕ = λ e. text (g.V.WasmValue.tree e.1.now) in
    let p = err_from_is_err_and c.from_residual-in_err-write_leaf.result c.from_residual-in_err-write_leaf.ensures.1 in
    let w = writing_entry key value c.deref-entry-items.result.now c.loop-entry.entry-index c.entry-item.result _ _ _ c.loop-entry-test.true c.entry-item.is refl c.loop-entry.invariant.writing in
    rw (p.1, p.2) (writing_refused_text _ (writing_more w c.in_ok-write_separator.ensures.ok) c.in_err-write_leaf.ensures)

pub write_map-returns-in_err-write_text-2 : goal.write_map-returns-in_err-write_text-2
write_map-returns-in_err-write_text-2 g t c =
    let key : Bor g.row.V.Denot × Bor g.row.V.Denot → List ℕ = λ e. text (g.V.WasmValue.tree e.0.now) in
    let value : Bor g.row.V.Denot × Bor g.row.V.Denot → List ℕ = λ e. text (g.V.WasmValue.tree e.1.now) in
    let p = err_from_is_err_and c.from_residual-in_err-write_text-2.result c.from_residual-in_err-write_text-2.ensures.1 in
    let w = writing_entry key value c.deref-entry-items.result.now c.loop-entry.entry-index c.entry-item.result _ _ _ c.loop-entry-test.true c.entry-item.is refl c.loop-entry.invariant.writing in
    rw (p.1, p.2) (writing_refused_text _ (writing_more (writing_more w c.in_ok-write_separator.ensures.ok) c.in_ok-write_leaf.ensures.ok) c.in_err-write_text-2.ensures)

pub write_map-write_value-requires : goal.write_map-write_value-requires
write_map-write_value-requires g t c κs within =
    let f : Bor g.row.V.Denot → Value = λ v. g.V.WasmValue.tree v.now in
    let s = map_is f _ c.in_ok-entries.entries.items c.requires.kind c.requires.formed c.in_ok-entries.ensures c.deref-entry-items.result.now (c.deref-entry-items.ensures.value ∙ c.in_ok-merged.ensures.ok) in
    let d = all_at _ c.deref-entry-items.result.now c.deref-entry-items.result.now c.loop-entry.entry-index c.entry-item.result refl c.loop-entry-test.true c.entry-item.is s.depths_are in
    (omega (arith, d), within)

pub write_map-returns-in_err-write_value : goal.write_map-returns-in_err-write_value
write_map-returns-in_err-write_value g t c =
    let key : Bor g.row.V.Denot × Bor g.row.V.Denot → List ℕ = λ e. text (g.V.WasmValue.tree e.0.now) in
    let value : Bor g.row.V.Denot × Bor g.row.V.Denot → List ℕ = λ e. text (g.V.WasmValue.tree e.1.now) in
    let ok : Bor g.row.V.Denot × Bor g.row.V.Denot → Bool = λ e. has_text (g.V.WasmValue.tree e.1.now) in
    let p = err_from_is_err_and c.from_residual-in_err-write_value.result c.from_residual-in_err-write_value.ensures.1 in
    let w = writing_entry key value c.deref-entry-items.result.now c.loop-entry.entry-index c.entry-item.result _ _ _ c.loop-entry-test.true c.entry-item.is refl c.loop-entry.invariant.writing in
    rw (p.1, p.2) (writing_refused _ (writing_more (writing_more (writing_more w c.in_ok-write_separator.ensures.ok) c.in_ok-write_leaf.ensures.ok) c.in_ok-write_text-2.ensures.ok) (item_blocks ok c.deref-entry-items.result.now c.loop-entry.entry-index c.entry-item.result _ c.loop-entry-test.true c.entry-item.is c.loop-entry.invariant.writable) c.in_err-write_value.ensures.err)

pub write_map-loop-entry-preserved : goal.write_map-loop-entry-preserved
write_map-loop-entry-preserved g t c =
    let key : Bor g.row.V.Denot × Bor g.row.V.Denot → List ℕ = λ e. text (g.V.WasmValue.tree e.0.now) in
    let value : Bor g.row.V.Denot × Bor g.row.V.Denot → List ℕ = λ e. text (g.V.WasmValue.tree e.1.now) in
    let ok : Bor g.row.V.Denot × Bor g.row.V.Denot → Bool = λ e. has_text (g.V.WasmValue.tree e.1.now) in
    let w = writing_entry key value c.deref-entry-items.result.now c.loop-entry.entry-index c.entry-item.result _ _ _ c.loop-entry-test.true c.entry-item.is refl c.loop-entry.invariant.writing in
    record {
      writing = writing_more (writing_more (writing_more (writing_more w c.in_ok-write_separator.ensures.ok) c.in_ok-write_leaf.ensures.ok) c.in_ok-write_text-2.ensures.ok) c.in_ok-write_value.ensures.ok;
      writable = item_passes ok c.deref-entry-items.result.now c.loop-entry.entry-index c.entry-item.result _ c.loop-entry-test.true c.entry-item.is c.loop-entry.invariant.writable c.in_ok-write_value.ensures.writable;
    }

pub write_map-returns : goal.write_map-returns
write_map-returns g t c =
    let key : Bor g.row.V.Denot × Bor g.row.V.Denot → List ℕ = λ e. text (g.V.WasmValue.tree e.0.now) in
    let value : Bor g.row.V.Denot × Bor g.row.V.Denot → List ℕ = λ e. text (g.V.WasmValue.tree e.1.now) in
    let ok : Bor g.row.V.Denot × Bor g.row.V.Denot → Bool = λ e. has_text (g.V.WasmValue.tree e.1.now) in
    let w = writing_close (λ e. behind_name (key e) (value e)) c.deref-entry-items.result.now c.loop-entry.entry-index _ _ c.loop-entry-test.false c.loop-entry.invariant.writing in
    writing_last w (items_pass ok c.deref-entry-items.result.now c.loop-entry.entry-index _ c.loop-entry-test.false c.loop-entry.invariant.writable) c.write_text-2.ensures

-- what the checks above leave

pub write_items-returns-in_err-write_text : goal.write_items-returns-in_err-write_text
write_items-returns-in_err-write_text g t c =
    let p = err_from_is_err_and c.from_residual.result c.from_residual.ensures.1 in
    rw (p.1, p.2) (start_refused _ refl c.in_err-write_text.ensures)

pub write_list-returns-in_err-items : goal.write_list-returns-in_err-items
write_list-returns-in_err-items g t c =
    let p = err_from_is_err_and c.from_residual.result c.from_residual.ensures.1 in
    rw (p.1, p.2) (refused_before _ _ _ _)

pub write_tuple-returns-in_err-items : goal.write_tuple-returns-in_err-items
write_tuple-returns-in_err-items g t c =
    let p = err_from_is_err_and c.from_residual.result c.from_residual.ensures.1 in
    rw (p.1, p.2) (refused_before _ _ _ _)

pub write_map-returns-in_err-entries : goal.write_map-returns-in_err-entries
write_map-returns-in_err-entries g t c =
    let p = err_from_is_err_and c.from_residual.result c.from_residual.ensures.1 in
    rw (p.1, p.2) (refused_before _ _ _ _)

pub write_record-loop-field-preserved-then-is_none : goal.write_record-loop-field-preserved-then-is_none
write_record-loop-field-preserved-then-is_none g t c =
    let f : Bor (List ℕ) × Bor g.row.V.Denot → List ℕ × Value = λ x. (x.0.now, g.V.WasmValue.tree x.1.now) in
    let none = sym c.is_none.ensures ∙ c.if-is_none.true in
    record {
      writing = writing_skipped f c.deref-field-items.result.now c.loop-field.field-index c.field-item.result _ c.loop-field-test.true c.field-item.is none c.loop-field.invariant.writing;
      writable = item_passes (λ (x : Bor (List ℕ) × Bor g.row.V.Denot). has_text (g.V.WasmValue.tree x.1.now)) c.deref-field-items.result.now c.loop-field.field-index c.field-item.result _ c.loop-field-test.true c.field-item.is c.loop-field.invariant.writable (none_writable _ none);
    }

pub write_variant-returns-in_err-write_case : goal.write_variant-returns-in_err-write_case
write_variant-returns-in_err-write_case g t c =
    let p = err_from_is_err_and c.from_residual.result c.from_residual.ensures.1 in
    rw (p.1, p.2) (start_refused _ (ap text c.unwrap_variant.ensures ∙ variant_text c.unwrap_variant.result.0.now (denoted g.V.WasmValue.tree c.unwrap_variant.result.1)) c.in_err-write_case.ensures)

pub write_variant-write_payload-requires : goal.write_variant-write_payload-requires
write_variant-write_payload-requires g t c κs within =
    let d = ap depth c.unwrap_variant.ensures in
    (omega (arith, d), within)

pub write_option-write_payload-requires : goal.write_option-write_payload-requires
write_option-write_payload-requires g t c κs within =
    let d = ap depth c.in-Some.ensures in
    (omega (arith, d), within)

pub write_result-write_payload-requires : goal.write_result-write_payload-requires
write_result-write_payload-requires g t c κs within =
    let d = ap depth c.in-Ok.ensures in
    (omega (arith, d), within)

pub write_result-write_payload-requires-in-Err : goal.write_result-write_payload-requires-in-Err
write_result-write_payload-requires-in-Err g t c κs within =
    let d = ap depth c.in-Err.ensures in
    (omega (arith, d), within)

pub write_payload-write_value-requires : goal.write_payload-write_value-requires
write_payload-write_value-requires g t c κs within =
    let d = ap (λ o. depth_of_maybe (maybe_value (denoted g.V.WasmValue.tree o))) c.in-Some.is in
    (omega (arith, d), within)

pub write_option-returns-in-None : goal.write_option-returns-in-None
write_option-returns-in-None g t c =
    rw (ap text c.in-None.ensures, ap has_text c.in-None.ensures) c.write_text.ensures

pub write_option-returns-in_ok-write_text-in-Some : goal.write_option-returns-in_ok-write_text-in-Some
write_option-returns-in_ok-write_text-in-Some g t c =
    writing_last (start_written _ (ap text c.in-Some.ensures) c.in_ok-write_text-in-Some.ensures.ok) (ap has_text c.in-Some.ensures) c.write_payload.ensures

pub write_result-returns-in_ok-write_text-in-Ok : goal.write_result-returns-in_ok-write_text-in-Ok
write_result-returns-in_ok-write_text-in-Ok g t c =
    writing_last (start_written _ (ap text c.in-Ok.ensures ∙ ok_text (denoted g.V.WasmValue.tree c.in-Ok.payload)) c.in_ok-write_text-in-Ok.ensures.ok) (ap has_text c.in-Ok.ensures ∙ ok_writable (denoted g.V.WasmValue.tree c.in-Ok.payload)) c.write_payload.ensures

pub write_result-returns-in_ok-write_text-in-Err : goal.write_result-returns-in_ok-write_text-in-Err
write_result-returns-in_ok-write_text-in-Err g t c =
    writing_last (start_written _ (ap text c.in-Err.ensures ∙ err_text (denoted g.V.WasmValue.tree c.in-Err.payload)) c.in_ok-write_text-in-Err.ensures.ok) (ap has_text c.in-Err.ensures ∙ err_writable (denoted g.V.WasmValue.tree c.in-Err.payload)) c.write_payload-in-Err.ensures

pub write_payload-returns-in_err-write_value-in-Some : goal.write_payload-returns-in_err-write_value-in-Some
write_payload-returns-in_err-write_value-in-Some g t c =
    let p = err_from_is_err_and c.from_residual-in_err-write_value-in-Some.result c.from_residual-in_err-write_value-in-Some.ensures.1 in
    rw (p.1, p.2) (writing_refused _ (start_written _ (ap (λ o. payload_text (denoted g.V.WasmValue.tree o)) c.in-Some.is) c.in_ok-write_text-in-Some.ensures.ok) (λ h. ap (λ o. has_payload_text (denoted g.V.WasmValue.tree o)) c.in-Some.is ∙ h) c.in_err-write_value-in-Some.ensures.err)

pub write_payload-returns-in-None : goal.write_payload-returns-in-None
write_payload-returns-in-None g t c =
    nothing_written _ _ _ (ap (λ o. payload_text (denoted g.V.WasmValue.tree o)) c.in-None.is) (ap (λ o. has_payload_text (denoted g.V.WasmValue.tree o)) c.in-None.is)

pub write_value-returns-in-List-clause-ok : goal.write_value-returns-in-List-clause-ok
write_value-returns-in-List-clause-ok g t c = c.write_list.ensures.ok

pub write_value-returns-in-List-clause-writable : goal.write_value-returns-in-List-clause-writable
write_value-returns-in-List-clause-writable g t c = c.write_list.ensures.writable

pub write_value-returns-in-List-clause-err : goal.write_value-returns-in-List-clause-err
write_value-returns-in-List-clause-err g t c = c.write_list.ensures.err

pub write_value-returns-in-Record-clause-ok : goal.write_value-returns-in-Record-clause-ok
write_value-returns-in-Record-clause-ok g t c = c.write_record.ensures.ok

pub write_value-returns-in-Record-clause-writable : goal.write_value-returns-in-Record-clause-writable
write_value-returns-in-Record-clause-writable g t c = c.write_record.ensures.writable

pub write_value-returns-in-Record-clause-err : goal.write_value-returns-in-Record-clause-err
write_value-returns-in-Record-clause-err g t c = c.write_record.ensures.err

pub write_value-returns-in-Tuple-clause-ok : goal.write_value-returns-in-Tuple-clause-ok
write_value-returns-in-Tuple-clause-ok g t c = c.write_tuple.ensures.ok

pub write_value-returns-in-Tuple-clause-writable : goal.write_value-returns-in-Tuple-clause-writable
write_value-returns-in-Tuple-clause-writable g t c = c.write_tuple.ensures.writable

pub write_value-returns-in-Tuple-clause-err : goal.write_value-returns-in-Tuple-clause-err
write_value-returns-in-Tuple-clause-err g t c = c.write_tuple.ensures.err

pub write_value-returns-in-Variant-clause-ok : goal.write_value-returns-in-Variant-clause-ok
write_value-returns-in-Variant-clause-ok g t c = c.write_variant.ensures.ok

pub write_value-returns-in-Variant-clause-writable : goal.write_value-returns-in-Variant-clause-writable
write_value-returns-in-Variant-clause-writable g t c = c.write_variant.ensures.writable

pub write_value-returns-in-Variant-clause-err : goal.write_value-returns-in-Variant-clause-err
write_value-returns-in-Variant-clause-err g t c = c.write_variant.ensures.err

pub write_value-returns-in-Option-clause-ok : goal.write_value-returns-in-Option-clause-ok
write_value-returns-in-Option-clause-ok g t c = c.write_option.ensures.ok

pub write_value-returns-in-Option-clause-writable : goal.write_value-returns-in-Option-clause-writable
write_value-returns-in-Option-clause-writable g t c = c.write_option.ensures.writable

pub write_value-returns-in-Option-clause-err : goal.write_value-returns-in-Option-clause-err
write_value-returns-in-Option-clause-err g t c = c.write_option.ensures.err

pub write_value-returns-in-Result-clause-ok : goal.write_value-returns-in-Result-clause-ok
write_value-returns-in-Result-clause-ok g t c = c.write_result.ensures.ok

pub write_value-returns-in-Result-clause-writable : goal.write_value-returns-in-Result-clause-writable
write_value-returns-in-Result-clause-writable g t c = c.write_result.ensures.writable

pub write_value-returns-in-Result-clause-err : goal.write_value-returns-in-Result-clause-err
write_value-returns-in-Result-clause-err g t c = c.write_result.ensures.err

pub write_value-returns-in-Flags-clause-ok : goal.write_value-returns-in-Flags-clause-ok
write_value-returns-in-Flags-clause-ok g t c = c.write_flags.ensures.ok

pub write_value-returns-in-Flags-clause-writable : goal.write_value-returns-in-Flags-clause-writable
write_value-returns-in-Flags-clause-writable g t c = c.write_flags.ensures.writable

pub write_value-returns-in-Flags-clause-err : goal.write_value-returns-in-Flags-clause-err
write_value-returns-in-Flags-clause-err g t c = c.write_flags.ensures.err

pub write_value-returns-in-Map-clause-ok : goal.write_value-returns-in-Map-clause-ok
write_value-returns-in-Map-clause-ok g t c = c.write_map.ensures.ok

pub write_value-returns-in-Map-clause-writable : goal.write_value-returns-in-Map-clause-writable
write_value-returns-in-Map-clause-writable g t c = c.write_map.ensures.writable

pub write_value-returns-in-Map-clause-err : goal.write_value-returns-in-Map-clause-err
write_value-returns-in-Map-clause-err g t c = c.write_map.ensures.err

pub write_value-returns-in_default-clause-ok : goal.write_value-returns-in_default-clause-ok
write_value-returns-in_default-clause-ok g t c = c.write_leaf.ensures.ok

pub write_value-write_list-requires : goal.write_value-write_list-requires
write_value-write_list-requires g t c κs within = (omega arith, (within.0, (within.1.0, (within.1.1, of_list_kind _ _ c.kind.ensures.kind c.in-List.is))))

pub write_value-write_map-requires : goal.write_value-write_map-requires
write_value-write_map-requires g t c κs within = (omega arith, (within.0, (within.1.0, (within.1.1, (sym c.kind.ensures.kind ∙ c.in-Map.is, c.kind.ensures.formed)))))

pub write_value-write_leaf-requires : goal.write_value-write_leaf-requires
write_value-write_leaf-requires g t c = leaf_of _ _ c.kind.ensures.kind (record {
  list = c.in_default.not-List;
  fixed = c.in_default.not-FixedLengthList;
  record_kind = c.in_default.not-Record;
  tuple = c.in_default.not-Tuple;
  variant = c.in_default.not-Variant;
  enum = c.in_default.not-Enum;
  option = c.in_default.not-Option;
  result = c.in_default.not-Result;
  flags = c.in_default.not-Flags;
  map = c.in_default.not-Map;
  f32 = c.in_default.not-F32;
  f64 = c.in_default.not-F64;
  unsupported = c.in_default.not-Unsupported;
})

pub write_value-write_flags-requires : goal.write_value-write_flags-requires
write_value-write_flags-requires g t c = sym c.kind.ensures.kind ∙ c.in-Flags.is

pub write_value-returns-in-Enum-clause-ok : goal.write_value-returns-in-Enum-clause-ok
write_value-returns-in-Enum-clause-ok g t c = rw (ap text c.unwrap_enum.ensures) c.write_case.ensures.ok

pub write_value-returns-in_default-clause-writable : goal.write_value-returns-in_default-clause-writable
write_value-returns-in_default-clause-writable g t c =
    let one = write_value-write_leaf-requires g t c.before in
    rw (ap has_text one.1) c.write_leaf.ensures.writable

pub write_value-returns-in_default-clause-err : goal.write_value-returns-in_default-clause-err
write_value-returns-in_default-clause-err g t c =
    let one = write_value-write_leaf-requires g t c.before in
    rw (ap has_text one.1) c.write_leaf.ensures.err

pub write_value-write_record-requires : goal.write_value-write_record-requires
write_value-write_record-requires g t c κs within = (omega arith, (within.0, (within.1.0, (within.1.1, sym c.kind.ensures.kind ∙ c.in-Record.is))))

pub write_value-write_tuple-requires : goal.write_value-write_tuple-requires
write_value-write_tuple-requires g t c κs within = (omega arith, (within.0, (within.1.0, (within.1.1, sym c.kind.ensures.kind ∙ c.in-Tuple.is))))

pub write_value-write_variant-requires : goal.write_value-write_variant-requires
write_value-write_variant-requires g t c κs within = (omega arith, (within.0, (within.1.0, (within.1.1, sym c.kind.ensures.kind ∙ c.in-Variant.is))))

pub write_value-write_option-requires : goal.write_value-write_option-requires
write_value-write_option-requires g t c κs within = (omega arith, (within.0, (within.1.0, (within.1.1, sym c.kind.ensures.kind ∙ c.in-Option.is))))

pub write_value-write_result-requires : goal.write_value-write_result-requires
write_value-write_result-requires g t c κs within = (omega arith, (within.0, (within.1.0, (within.1.1, sym c.kind.ensures.kind ∙ c.in-Result.is))))

pub write_value-unwrap_enum-requires : goal.write_value-unwrap_enum-requires
write_value-unwrap_enum-requires g t c = sym c.kind.ensures.kind ∙ c.in-Enum.is

pub write_value-returns-in-Enum-clause-writable : goal.write_value-returns-in-Enum-clause-writable
write_value-returns-in-Enum-clause-writable g t c =
    rw (ap has_text c.unwrap_enum.ensures) c.write_case.ensures.writable

pub write_value-returns-in-Enum-clause-err : goal.write_value-returns-in-Enum-clause-err
write_value-returns-in-Enum-clause-err g t c =
    rw (ap text c.unwrap_enum.ensures, ap has_text c.unwrap_enum.ensures) c.write_case.ensures.err

pub write_list-unwrap_list-requires : goal.write_list-unwrap_list-requires
write_list-unwrap_list-requires g t c = c.requires

pub write_tuple-unwrap_tuple-requires : goal.write_tuple-unwrap_tuple-requires
write_tuple-unwrap_tuple-requires g t c = c.requires

pub write_record-unwrap_record-requires : goal.write_record-unwrap_record-requires
write_record-unwrap_record-requires g t c = c.requires

pub write_variant-unwrap_variant-requires : goal.write_variant-unwrap_variant-requires
write_variant-unwrap_variant-requires g t c = c.requires

pub write_option-unwrap_option-requires : goal.write_option-unwrap_option-requires
write_option-unwrap_option-requires g t c = c.requires

pub write_result-unwrap_result-requires : goal.write_result-unwrap_result-requires
write_result-unwrap_result-requires g t c = c.requires

pub write_map-unwrap_map-requires : goal.write_map-unwrap_map-requires
write_map-unwrap_map-requires g t c = c.requires.kind
