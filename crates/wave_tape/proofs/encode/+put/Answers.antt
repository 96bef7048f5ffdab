use Rattle.std.proofs.Common.{ℕ, ◌≤◌, List, [], ◌∷◌, ◌++◌, Bool, length, map, refl, sym, ap, subst, ◌∙◌, Bor, arith}
use Rattle.std.specs.Int.{w16, w32, w64, to_le_bytes}
use Rattle.std.specs.List.{flat_map, list_all}
use Rattle.std.proofs.lemmas.List.{append-nil, length-map, nil_from_length}
use Rattle.std.proofs.lemmas.Result.{err_from_is_err_and}
use Rattle.wave_wasm.specs.Borrowed.{denoted}
use Rattle.wave_wasm.specs.ConstructorContracts.{IsOfListKind}
use Rattle.wave_wasm.specs.Values.{Value, IsWellFormed, maybe_value, depth, depth_of_maybe}
use Rattle.wave_wasm.proofs.CanonicalText.Sequences.{part_depth}
use Rattle.wave_wasm.proofs.CanonicalText.ValueParts.{list_sequence, tuple_sequence, record_is}
use Rattle.wave_wasm.specs.Text.{is_writable, is_writable_maybe}
use Rattle.wave_tape.specs.Tape.{bytes_of, payload_bytes, count_bytes, text_bytes}
use Rattle.wave_tape.specs.Private.Rows.{row_or_zero}
use Rattle.wave_tape.proofs.Puts.{bytes_stop, puts_stop, memory_stop, kept_same, kept_later, puts_as, puts_last, counted_start, put_next, put_all, has_next, has_none, has_all, zero_of, some_of, byte_is, both_put, and_left, and_right, and_both}
use Rattle.wave_tape.proofs.Signed.{fits8, fits16, fits32, fits64, signed_bytes, signed_byte}
use Rattle.wave_tape.proofs.Values.{list_is, fixed_is, tuple_is, record_tape, map_is, row_full, without_tape, one_field, has_field, one_entry, has_entry}
use Rattle.wave_tape.proofs.encode.+put.Goals as goal

-- ---- a list, a list of a fixed length, a tuple

pub put_list-unwrap_list-requires : goal.put_list-unwrap_list-requires
put_list-unwrap_list-requires g t c = subst IsOfListKind (sym c.requires) tt

pub put_list-returns-in_err-put_count : goal.put_list-returns-in_err-put_count
put_list-returns-in_err-put_count g t c =
    let p = err_from_is_err_and c.from_residual-in_err-put_count.result c.from_residual-in_err-put_count.ensures.1 in
    rw (p.1, p.2) (bytes_stop c.in_err-put_count.ensures)

pub put_list-put_items-requires : goal.put_list-put_items-requires
put_list-put_items-requires g t c κs within =
    let s = list_sequence _ _ (subst IsOfListKind (sym c.requires) tt) c.in_ok-items.ensures in
    let d = s.depth_is in
    let e = c.deref.ensures.value in
    (rw e (omega (arith, d)), within)

pub put_list-returns : goal.put_list-returns
put_list-returns g t c =
    let tree : Bor g.row.V.Denot → Value = λ v. g.V.WasmValue.tree v.now in
    let items = c.deref.result.now in
    let s = list_is _ (map tree items) c.requires (ap (map tree) c.deref.ensures.value ∙ c.in_ok-items.ensures) in
    let count = c.len.ensures ∙ (c.in_ok-items.items.ok.0 ∙ (ap length (sym c.deref.ensures.value) ∙ sym (length-map items tree))) in
    puts_last (count_bytes c.len.result) c.in_ok-put_count.ensures.ok.0 (s.bytes_are ∙ ap (λ (n : ℕ). count_bytes n ++ flat_map bytes_of (map tree items)) (sym count)) s.has_is c.put_items.ensures

pub put_fixed-unwrap_list-requires : goal.put_fixed-unwrap_list-requires
put_fixed-unwrap_list-requires g t c = subst IsOfListKind (sym c.requires) tt

pub put_fixed-put_row-requires : goal.put_fixed-put_row-requires
put_fixed-put_row-requires g t c κs within =
    let s = list_sequence _ _ (subst IsOfListKind (sym c.requires) tt) c.in_ok-items.ensures in
    let d = s.depth_is in
    let e = c.deref.ensures.value in
    (rw e (omega (arith, d)), within)

pub put_fixed-returns : goal.put_fixed-returns
put_fixed-returns g t c =
    let tree : Bor g.row.V.Denot → Value = λ v. g.V.WasmValue.tree v.now in
    let s = fixed_is _ (map tree c.deref.result.now) c.requires (ap (map tree) c.deref.ensures.value ∙ c.in_ok-items.ensures) in
    puts_as s.bytes_are s.has_is c.put_row.ensures

pub put_tuple-put_row-requires : goal.put_tuple-put_row-requires
put_tuple-put_row-requires g t c κs within =
    let s = tuple_sequence _ _ c.requires c.in_ok-items.ensures in
    let d = s.depth_is in
    let e = c.deref.ensures.value in
    (rw e (omega (arith, d)), within)

pub put_tuple-returns : goal.put_tuple-returns
put_tuple-returns g t c =
    let tree : Bor g.row.V.Denot → Value = λ v. g.V.WasmValue.tree v.now in
    let s = tuple_is _ (map tree c.deref.result.now) c.requires (ap (map tree) c.deref.ensures.value ∙ c.in_ok-items.ensures) in
    puts_as s.bytes_are s.has_is c.put_row.ensures

-- ---- items in a row

pub put_row-returns-then-is_empty : goal.put_row-returns-then-is_empty
put_row-returns-then-is_empty g t c =
    let tree : Bor g.row.V.Denot → Value = λ v. g.V.WasmValue.tree v.now in
    let none = nil_from_length c.args.items.now (zero_of _ (sym c.is_empty.ensures ∙ c.if-is_empty.true)) in
    puts_as (ap (λ l. row_or_zero bytes_of (map tree l)) none) (ap (λ l. list_all is_writable (map tree l)) none) c.put_bytes.ensures

pub put_row-returns : goal.put_row-returns
put_row-returns g t c =
    let tree : Bor g.row.V.Denot → Value = λ v. g.V.WasmValue.tree v.now in
    let one : 1 ≤ length c.args.items.now = some_of _ (sym c.is_empty.ensures ∙ c.if-is_empty.false) in
    let some : 1 ≤ length (map tree c.args.items.now) = omega (arith, one, length-map c.args.items.now tree) in
    puts_as (row_full bytes_of (map tree c.args.items.now) some) refl c.put_items.ensures

pub put_items-put_value-requires : goal.put_items-put_value-requires
put_items-put_value-requires g t c κs within =
    let tree : Bor g.row.V.Denot → Value = λ v. g.V.WasmValue.tree v.now in
    let h = part_depth depth tree c.args.items.now c.args.items.now c.loop-item.item-index c.item-item.result refl c.loop-item-test.true c.item-item.is in
    (omega (arith, h), within)

pub put_items-returns-in_err-put_value : goal.put_items-returns-in_err-put_value
put_items-returns-in_err-put_value g t c =
    let tree : Bor g.row.V.Denot → Value = λ v. g.V.WasmValue.tree v.now in
    let k : List (Bor g.row.V.Denot) → Bool = λ l. list_all is_writable (map tree l) in
    let p = err_from_is_err_and c.from_residual.result c.from_residual.ensures.1 in
    rw (p.1, p.2) (puts_stop _ (has_none k c.args.items.now c.loop-item.item-index c.item-item.result (is_writable (tree c.item-item.result)) _ c.loop-item-test.true c.item-item.is refl c.loop-item.invariant.has) c.loop-item.invariant.kept c.in_err-put_value.ensures)

pub put_items-loop-item-preserved : goal.put_items-loop-item-preserved
put_items-loop-item-preserved g t c =
    let tree : Bor g.row.V.Denot → Value = λ v. g.V.WasmValue.tree v.now in
    let h : List (Bor g.row.V.Denot) → List ℕ = λ l. flat_map bytes_of (map tree l) in
    let k : List (Bor g.row.V.Denot) → Bool = λ l. list_all is_writable (map tree l) in
    record {
      put = put_next h c.args.items.now c.loop-item.item-index c.item-item.result (bytes_of (tree c.item-item.result)) _ _ _ c.loop-item-test.true c.item-item.is refl c.in_ok-put_value.ensures.ok.0 c.loop-item.invariant.put;
      has = has_next k c.args.items.now c.loop-item.item-index c.item-item.result (is_writable (tree c.item-item.result)) _ c.loop-item-test.true c.item-item.is refl c.in_ok-put_value.ensures.ok.1 c.loop-item.invariant.has;
      kept = kept_later _ _ _ c.loop-item.invariant.kept c.in_ok-put_value.ensures.kept;
    }

pub put_items-returns : goal.put_items-returns
put_items-returns g t c =
    let tree : Bor g.row.V.Denot → Value = λ v. g.V.WasmValue.tree v.now in
    let h : List (Bor g.row.V.Denot) → List ℕ = λ l. flat_map bytes_of (map tree l) in
    let k : List (Bor g.row.V.Denot) → Bool = λ l. list_all is_writable (map tree l) in
    record {
      ok = (
        put_all h c.args.items.now c.loop-item.item-index _ _ c.loop-item-test.false refl c.loop-item.invariant.put,
        has_all k c.args.items.now c.loop-item.item-index _ c.loop-item-test.false refl c.loop-item.invariant.has,
      );
      err = tt;
      kept = c.loop-item.invariant.kept;
    }

-- ---- a record

pub put_record-returns-then-is_empty : goal.put_record-returns-then-is_empty
put_record-returns-then-is_empty g t c =
    let f : Bor (List ℕ) × Bor g.row.V.Denot → List ℕ × Value = λ x. (x.0.now, g.V.WasmValue.tree x.1.now) in
    let none = nil_from_length c.in_ok-fields.fields.items (sym c.in_ok-fields.fields.ok.0 ∙ zero_of _ (sym c.is_empty.ensures ∙ c.if-is_empty.true)) in
    let s = record_tape _ (map f c.in_ok-fields.fields.items) c.requires c.in_ok-fields.ensures in
    puts_as (s.bytes_are ∙ ap (λ l. row_or_zero one_field (map f l)) none) (s.has_is ∙ ap (λ l. list_all has_field (map f l)) none) c.put_bytes.ensures

pub put_record-loop-field-init : goal.put_record-loop-field-init
put_record-loop-field-init g t c =
    let f : Bor (List ℕ) × Bor g.row.V.Denot → List ℕ × Value = λ x. (x.0.now, g.V.WasmValue.tree x.1.now) in
    let fields = c.deref-field-items.result.now in
    let s = record_tape _ (map f fields) c.requires (ap (map f) c.deref-field-items.ensures.value ∙ c.in_ok-fields.ensures) in
    let one = some_of _ (sym c.is_empty.ensures ∙ c.if-is_empty.false) in
    let some : 1 ≤ length (map f fields) = omega (arith, one, length-map fields f, ap length c.deref-field-items.ensures.value, c.in_ok-fields.fields.ok.0) in
    record {
      put = ap (λ (z : List ℕ). c.args.out.now.items ++ z) (sym (s.bytes_are ∙ row_full one_field (map f fields) some));
      has = sym s.has_is;
      kept = kept_same _;
    }

pub put_record-put_value-requires : goal.put_record-put_value-requires
put_record-put_value-requires g t c κs within =
    let f : Bor (List ℕ) × Bor g.row.V.Denot → List ℕ × Value = λ x. (x.0.now, g.V.WasmValue.tree x.1.now) in
    let s = record_is _ _ c.requires c.in_ok-fields.ensures in
    let d = s.depth_is in
    let h = part_depth (λ (x : List ℕ × Value). depth x.1) f c.deref-field-items.result.now _ c.loop-field.field-index c.field-item.result c.deref-field-items.ensures.value c.loop-field-test.true c.field-item.is in
    (omega (arith, h, d), within)

pub put_record-returns-in_err-put_value : goal.put_record-returns-in_err-put_value
put_record-returns-in_err-put_value g t c =
    let f : Bor (List ℕ) × Bor g.row.V.Denot → List ℕ × Value = λ x. (x.0.now, g.V.WasmValue.tree x.1.now) in
    let k : List (Bor (List ℕ) × Bor g.row.V.Denot) → Bool = λ l. list_all has_field (map f l) in
    let p = err_from_is_err_and c.from_residual-in_err-put_value.result c.from_residual-in_err-put_value.ensures.1 in
    rw (p.1, p.2) (puts_stop _ (has_none k c.deref-field-items.result.now c.loop-field.field-index c.field-item.result (has_field (f c.field-item.result)) _ c.loop-field-test.true c.field-item.is refl c.loop-field.invariant.has) c.loop-field.invariant.kept c.in_err-put_value.ensures)

pub put_record-loop-field-preserved : goal.put_record-loop-field-preserved
put_record-loop-field-preserved g t c =
    let f : Bor (List ℕ) × Bor g.row.V.Denot → List ℕ × Value = λ x. (x.0.now, g.V.WasmValue.tree x.1.now) in
    let h : List (Bor (List ℕ) × Bor g.row.V.Denot) → List ℕ = λ l. flat_map one_field (map f l) in
    let k : List (Bor (List ℕ) × Bor g.row.V.Denot) → Bool = λ l. list_all has_field (map f l) in
    record {
      put = put_next h c.deref-field-items.result.now c.loop-field.field-index c.field-item.result (one_field (f c.field-item.result)) _ _ _ c.loop-field-test.true c.field-item.is refl c.in_ok-put_value.ensures.ok.0 c.loop-field.invariant.put;
      has = has_next k c.deref-field-items.result.now c.loop-field.field-index c.field-item.result (has_field (f c.field-item.result)) _ c.loop-field-test.true c.field-item.is refl c.in_ok-put_value.ensures.ok.1 c.loop-field.invariant.has;
      kept = kept_later _ _ _ c.loop-field.invariant.kept c.in_ok-put_value.ensures.kept;
    }

pub put_record-returns : goal.put_record-returns
put_record-returns g t c =
    let f : Bor (List ℕ) × Bor g.row.V.Denot → List ℕ × Value = λ x. (x.0.now, g.V.WasmValue.tree x.1.now) in
    let h : List (Bor (List ℕ) × Bor g.row.V.Denot) → List ℕ = λ l. flat_map one_field (map f l) in
    let k : List (Bor (List ℕ) × Bor g.row.V.Denot) → Bool = λ l. list_all has_field (map f l) in
    record {
      ok = (
        put_all h c.deref-field-items.result.now c.loop-field.field-index _ _ c.loop-field-test.false refl c.loop-field.invariant.put,
        has_all k c.deref-field-items.result.now c.loop-field.field-index _ c.loop-field-test.false refl c.loop-field.invariant.has,
      );
      err = tt;
      kept = c.loop-field.invariant.kept;
    }

-- ---- payloads

pub put_variant-returns-in_err-put_text : goal.put_variant-returns-in_err-put_text
put_variant-returns-in_err-put_text g t c =
    let p = err_from_is_err_and c.from_residual.result c.from_residual.ensures.1 in
    rw (p.1, p.2) (bytes_stop c.in_err-put_text.ensures)

pub put_variant-put_payload-requires : goal.put_variant-put_payload-requires
put_variant-put_payload-requires g t c κs within =
    let d = ap depth c.unwrap_variant.ensures in
    (omega (arith, d), within)

pub put_variant-returns : goal.put_variant-returns
put_variant-returns g t c =
    puts_last (text_bytes c.unwrap_variant.result.0.now) c.in_ok-put_text.ensures.ok.0 (ap bytes_of c.unwrap_variant.ensures) (ap is_writable c.unwrap_variant.ensures) c.put_payload.ensures

pub put_option-returns-in-None : goal.put_option-returns-in-None
put_option-returns-in-None g t c =
    puts_as (ap bytes_of c.in-None.ensures) (ap is_writable c.in-None.ensures) c.put_bytes.ensures

pub put_option-returns-in_err-put_bytes-in-Some : goal.put_option-returns-in_err-put_bytes-in-Some
put_option-returns-in_err-put_bytes-in-Some g t c =
    let p = err_from_is_err_and c.from_residual.result c.from_residual.ensures.1 in
    rw (p.1, p.2) (bytes_stop c.in_err-put_bytes-in-Some.ensures)

pub put_option-put_value-requires : goal.put_option-put_value-requires
put_option-put_value-requires g t c κs within =
    let d = ap depth c.in-Some.ensures in
    (omega (arith, d), within)

pub put_option-returns-in_ok-put_bytes-in-Some : goal.put_option-returns-in_ok-put_bytes-in-Some
put_option-returns-in_ok-put_bytes-in-Some g t c =
    puts_last (1 ∷ []) c.in_ok-put_bytes-in-Some.ensures.ok.0 (ap bytes_of c.in-Some.ensures) (ap is_writable c.in-Some.ensures) c.put_value.ensures

pub put_result-returns-in_err-put_bytes-in-Ok : goal.put_result-returns-in_err-put_bytes-in-Ok
put_result-returns-in_err-put_bytes-in-Ok g t c =
    let p = err_from_is_err_and c.from_residual.result c.from_residual.ensures.1 in
    rw (p.1, p.2) (bytes_stop c.in_err-put_bytes-in-Ok.ensures)

pub put_result-put_payload-requires : goal.put_result-put_payload-requires
put_result-put_payload-requires g t c κs within =
    let d = ap depth c.in-Ok.ensures in
    (omega (arith, d), within)

pub put_result-returns-in_ok-put_bytes-in-Ok : goal.put_result-returns-in_ok-put_bytes-in-Ok
put_result-returns-in_ok-put_bytes-in-Ok g t c =
    puts_last (0 ∷ []) c.in_ok-put_bytes-in-Ok.ensures.ok.0 (ap bytes_of c.in-Ok.ensures) (ap is_writable c.in-Ok.ensures) c.put_payload.ensures

pub put_result-returns-in_err-put_bytes-in-Err : goal.put_result-returns-in_err-put_bytes-in-Err
put_result-returns-in_err-put_bytes-in-Err g t c =
    let p = err_from_is_err_and c.from_residual-in_err-put_bytes-in-Err.result c.from_residual-in_err-put_bytes-in-Err.ensures.1 in
    rw (p.1, p.2) (bytes_stop c.in_err-put_bytes-in-Err.ensures)

pub put_result-put_payload-requires-in-Err : goal.put_result-put_payload-requires-in-Err
put_result-put_payload-requires-in-Err g t c κs within =
    let d = ap depth c.in-Err.ensures in
    (omega (arith, d), within)

pub put_result-returns-in_ok-put_bytes-in-Err : goal.put_result-returns-in_ok-put_bytes-in-Err
put_result-returns-in_ok-put_bytes-in-Err g t c =
    puts_last (1 ∷ []) c.in_ok-put_bytes-in-Err.ensures.ok.0 (ap bytes_of c.in-Err.ensures) (ap is_writable c.in-Err.ensures) c.put_payload-in-Err.ensures

pub put_payload-returns-in-None : goal.put_payload-returns-in-None
put_payload-returns-in-None g t c =
    record {
      ok = (
        sym (ap (λ (z : List ℕ). c.args.out.now.items ++ z) (ap (λ o. payload_bytes (maybe_value (denoted g.V.WasmValue.tree o))) c.in-None.is) ∙ append-nil c.args.out.now.items),
        ap (λ o. is_writable_maybe (maybe_value (denoted g.V.WasmValue.tree o))) c.in-None.is,
      );
      err = tt;
      kept = kept_same _;
    }

pub put_payload-put_value-requires : goal.put_payload-put_value-requires
put_payload-put_value-requires g t c κs within =
    let d = ap (λ o. depth_of_maybe (maybe_value (denoted g.V.WasmValue.tree o))) c.in-Some.is in
    (omega (arith, d), within)

pub put_payload-returns-in-Some : goal.put_payload-returns-in-Some
put_payload-returns-in-Some g t c =
    puts_as (ap (λ o. payload_bytes (maybe_value (denoted g.V.WasmValue.tree o))) c.in-Some.is) (ap (λ o. is_writable_maybe (maybe_value (denoted g.V.WasmValue.tree o))) c.in-Some.is) c.put_value.ensures

-- ---- a map

pub put_map-returns-in_err-put_count : goal.put_map-returns-in_err-put_count
put_map-returns-in_err-put_count g t c =
    let p = err_from_is_err_and c.from_residual-in_err-put_count.result c.from_residual-in_err-put_count.ensures.1 in
    rw (p.1, p.2) (bytes_stop c.in_err-put_count.ensures)

pub put_map-loop-entry-init : goal.put_map-loop-entry-init
put_map-loop-entry-init g t c =
    let f : Bor g.row.V.Denot × Bor g.row.V.Denot → Value × Value = λ e. (g.V.WasmValue.tree e.0.now, g.V.WasmValue.tree e.1.now) in
    let entries = c.deref-entry-items.result.now in
    let m = map_is _ (map f entries) c.requires (ap (map f) c.deref-entry-items.ensures.value ∙ c.in_ok-entries.ensures) in
    let count = c.len.ensures ∙ (c.in_ok-entries.entries.ok.0 ∙ (ap length (sym c.deref-entry-items.ensures.value) ∙ sym (length-map entries f))) in
    record {
      put = counted_start c.len.result (length (map f entries)) (flat_map one_entry (map f entries)) c.args.out.now.items c.put_count.new.out.items _ count c.in_ok-put_count.ensures.ok.0 m.is.bytes_are;
      has = sym m.is.has_is;
      kept = c.in_ok-put_count.ensures.kept;
    }

pub put_map-put_value-requires : goal.put_map-put_value-requires
put_map-put_value-requires g t c κs within =
    let f : Bor g.row.V.Denot × Bor g.row.V.Denot → Value × Value = λ e. (g.V.WasmValue.tree e.0.now, g.V.WasmValue.tree e.1.now) in
    let s = map_is _ _ c.requires c.in_ok-entries.ensures in
    let k = s.keys in
    let d = s.vals in
    let h = part_depth (λ (e : Value × Value). depth e.0) f c.deref-entry-items.result.now _ c.loop-entry.entry-index c.entry-item.result c.deref-entry-items.ensures.value c.loop-entry-test.true c.entry-item.is in
    (omega (arith, h, k, d), within)

pub put_map-put_value-requires-in-loop-entry : goal.put_map-put_value-requires-in-loop-entry
put_map-put_value-requires-in-loop-entry g t c κs within =
    let f : Bor g.row.V.Denot × Bor g.row.V.Denot → Value × Value = λ e. (g.V.WasmValue.tree e.0.now, g.V.WasmValue.tree e.1.now) in
    let s = map_is _ _ c.requires c.in_ok-entries.ensures in
    let d = s.vals in
    let h = part_depth (λ (e : Value × Value). depth e.1) f c.deref-entry-items.result.now _ c.loop-entry.entry-index c.entry-item.result c.deref-entry-items.ensures.value c.loop-entry-test.true c.entry-item.is in
    (omega (arith, h, d), within)

pub put_map-returns-in_err-put_value : goal.put_map-returns-in_err-put_value
put_map-returns-in_err-put_value g t c =
    let f : Bor g.row.V.Denot × Bor g.row.V.Denot → Value × Value = λ e. (g.V.WasmValue.tree e.0.now, g.V.WasmValue.tree e.1.now) in
    let k : List (Bor g.row.V.Denot × Bor g.row.V.Denot) → Bool = λ l. list_all has_entry (map f l) in
    let p = err_from_is_err_and c.from_residual-in_err-put_value.result c.from_residual-in_err-put_value.ensures.1 in
    let blocks = has_none k c.deref-entry-items.result.now c.loop-entry.entry-index c.entry-item.result (has_entry (f c.entry-item.result)) _ c.loop-entry-test.true c.entry-item.is refl c.loop-entry.invariant.has in
    rw (p.1, p.2) (puts_stop _ (λ none. blocks (and_left _ none)) c.loop-entry.invariant.kept c.in_err-put_value.ensures)

pub put_map-returns-in_err-put_value-2 : goal.put_map-returns-in_err-put_value-2
put_map-returns-in_err-put_value-2 g t c =
    let f : Bor g.row.V.Denot × Bor g.row.V.Denot → Value × Value = λ e. (g.V.WasmValue.tree e.0.now, g.V.WasmValue.tree e.1.now) in
    let k : List (Bor g.row.V.Denot × Bor g.row.V.Denot) → Bool = λ l. list_all has_entry (map f l) in
    let p = err_from_is_err_and c.from_residual-in_err-put_value-2.result c.from_residual-in_err-put_value-2.ensures.1 in
    let blocks = has_none k c.deref-entry-items.result.now c.loop-entry.entry-index c.entry-item.result (has_entry (f c.entry-item.result)) _ c.loop-entry-test.true c.entry-item.is refl c.loop-entry.invariant.has in
    rw (p.1, p.2) (puts_stop _ (λ none. blocks (and_right _ none)) (kept_later _ _ _ c.loop-entry.invariant.kept c.in_ok-put_value.ensures.kept) c.in_err-put_value-2.ensures)

pub put_map-loop-entry-preserved : goal.put_map-loop-entry-preserved
put_map-loop-entry-preserved g t c =
    let f : Bor g.row.V.Denot × Bor g.row.V.Denot → Value × Value = λ e. (g.V.WasmValue.tree e.0.now, g.V.WasmValue.tree e.1.now) in
    let h : List (Bor g.row.V.Denot × Bor g.row.V.Denot) → List ℕ = λ l. flat_map one_entry (map f l) in
    let k : List (Bor g.row.V.Denot × Bor g.row.V.Denot) → Bool = λ l. list_all has_entry (map f l) in
    record {
      put = put_next h c.deref-entry-items.result.now c.loop-entry.entry-index c.entry-item.result (one_entry (f c.entry-item.result)) _ _ _ c.loop-entry-test.true c.entry-item.is refl (both_put _ _ _ c.in_ok-put_value.ensures.ok.0 c.in_ok-put_value-2.ensures.ok.0) c.loop-entry.invariant.put;
      has = has_next k c.deref-entry-items.result.now c.loop-entry.entry-index c.entry-item.result (has_entry (f c.entry-item.result)) _ c.loop-entry-test.true c.entry-item.is refl (and_both c.in_ok-put_value.ensures.ok.1 c.in_ok-put_value-2.ensures.ok.1) c.loop-entry.invariant.has;
      kept = kept_later _ _ _ (kept_later _ _ _ c.loop-entry.invariant.kept c.in_ok-put_value.ensures.kept) c.in_ok-put_value-2.ensures.kept;
    }

pub put_map-returns : goal.put_map-returns
put_map-returns g t c =
    let f : Bor g.row.V.Denot × Bor g.row.V.Denot → Value × Value = λ e. (g.V.WasmValue.tree e.0.now, g.V.WasmValue.tree e.1.now) in
    let h : List (Bor g.row.V.Denot × Bor g.row.V.Denot) → List ℕ = λ l. flat_map one_entry (map f l) in
    let k : List (Bor g.row.V.Denot × Bor g.row.V.Denot) → Bool = λ l. list_all has_entry (map f l) in
    record {
      ok = (
        put_all h c.deref-entry-items.result.now c.loop-entry.entry-index _ _ c.loop-entry-test.false refl c.loop-entry.invariant.put,
        has_all k c.deref-entry-items.result.now c.loop-entry.entry-index _ c.loop-entry-test.false refl c.loop-entry.invariant.has,
      );
      err = tt;
      kept = c.loop-entry.invariant.kept;
    }

-- ---- by kind

pub put_value-returns-in-List : goal.put_value-returns-in-List
put_value-returns-in-List g t c = c.put_list.ensures

pub put_value-put_list-requires : goal.put_value-put_list-requires
put_value-put_list-requires g t c κs within = (omega arith, (within.0, (within.1, sym c.kind.ensures.kind ∙ c.in-List.is)))

pub put_value-returns-in-FixedLengthList : goal.put_value-returns-in-FixedLengthList
put_value-returns-in-FixedLengthList g t c = c.put_fixed.ensures

pub put_value-put_fixed-requires : goal.put_value-put_fixed-requires
put_value-put_fixed-requires g t c κs within = (omega arith, (within.0, (within.1, sym c.kind.ensures.kind ∙ c.in-FixedLengthList.is)))

pub put_value-returns-in-Tuple : goal.put_value-returns-in-Tuple
put_value-returns-in-Tuple g t c = c.put_tuple.ensures

pub put_value-put_tuple-requires : goal.put_value-put_tuple-requires
put_value-put_tuple-requires g t c κs within = (omega arith, (within.0, (within.1, sym c.kind.ensures.kind ∙ c.in-Tuple.is)))

pub put_value-returns-in-Record : goal.put_value-returns-in-Record
put_value-returns-in-Record g t c = c.put_record.ensures

pub put_value-put_record-requires : goal.put_value-put_record-requires
put_value-put_record-requires g t c κs within = (omega arith, (within.0, (within.1, sym c.kind.ensures.kind ∙ c.in-Record.is)))

pub put_value-returns-in-Variant : goal.put_value-returns-in-Variant
put_value-returns-in-Variant g t c = c.put_variant.ensures

pub put_value-put_variant-requires : goal.put_value-put_variant-requires
put_value-put_variant-requires g t c κs within = (omega arith, (within.0, (within.1, sym c.kind.ensures.kind ∙ c.in-Variant.is)))

pub put_value-returns-in-Option : goal.put_value-returns-in-Option
put_value-returns-in-Option g t c = c.put_option.ensures

pub put_value-put_option-requires : goal.put_value-put_option-requires
put_value-put_option-requires g t c κs within = (omega arith, (within.0, (within.1, sym c.kind.ensures.kind ∙ c.in-Option.is)))

pub put_value-returns-in-Result : goal.put_value-returns-in-Result
put_value-returns-in-Result g t c = c.put_result.ensures

pub put_value-put_result-requires : goal.put_value-put_result-requires
put_value-put_result-requires g t c κs within = (omega arith, (within.0, (within.1, sym c.kind.ensures.kind ∙ c.in-Result.is)))

pub put_value-returns-in-Flags : goal.put_value-returns-in-Flags
put_value-returns-in-Flags g t c = c.put_flags.ensures

pub put_value-put_flags-requires : goal.put_value-put_flags-requires
put_value-put_flags-requires g t c = sym c.kind.ensures.kind ∙ c.in-Flags.is

pub put_value-returns-in-Map : goal.put_value-returns-in-Map
put_value-returns-in-Map g t c = c.put_map.ensures

pub put_value-put_map-requires : goal.put_value-put_map-requires
put_value-put_map-requires g t c κs within = (omega arith, (within.0, (within.1, sym c.kind.ensures.kind ∙ c.in-Map.is)))

pub put_value-returns-in-Bool : goal.put_value-returns-in-Bool
put_value-returns-in-Bool g t c =
    puts_as (ap bytes_of c.unwrap_bool.ensures ∙ ap (λ (n : ℕ). n ∷ []) (sym c.from.ensures)) (ap is_writable c.unwrap_bool.ensures) c.put_bytes.ensures

pub put_value-returns-in-U8 : goal.put_value-returns-in-U8
put_value-returns-in-U8 g t c =
    puts_as (ap bytes_of c.unwrap_u8.ensures ∙ (byte_is c.unwrap_u8.result (omega arith) ∙ sym c.to_le_bytes.ensures)) (ap is_writable c.unwrap_u8.ensures) c.put_bytes-in-U8.ensures

pub put_value-returns-in-U16 : goal.put_value-returns-in-U16
put_value-returns-in-U16 g t c =
    puts_as (ap bytes_of c.unwrap_u16.ensures ∙ sym c.to_le_bytes-in-U16.ensures) (ap is_writable c.unwrap_u16.ensures) c.put_bytes-in-U16.ensures

pub put_value-returns-in-U32 : goal.put_value-returns-in-U32
put_value-returns-in-U32 g t c =
    puts_as (ap bytes_of c.unwrap_u32.ensures ∙ sym c.to_le_bytes-in-U32.ensures) (ap is_writable c.unwrap_u32.ensures) c.put_bytes-in-U32.ensures

pub put_value-returns-in-U64 : goal.put_value-returns-in-U64
put_value-returns-in-U64 g t c =
    puts_as (ap bytes_of c.unwrap_u64.ensures ∙ sym c.to_le_bytes-in-U64.ensures) (ap is_writable c.unwrap_u64.ensures) c.put_bytes-in-U64.ensures

pub put_value-returns-in-S8 : goal.put_value-returns-in-S8
put_value-returns-in-S8 g t c =
    puts_as (ap bytes_of c.unwrap_s8.ensures ∙ (signed_byte c.unwrap_s8.result (fits8 _ (subst IsWellFormed c.unwrap_s8.ensures c.kind.ensures.formed)) ∙ sym c.to_le_bytes-in-S8.ensures)) (ap is_writable c.unwrap_s8.ensures) c.put_bytes-in-S8.ensures

pub put_value-returns-in-S16 : goal.put_value-returns-in-S16
put_value-returns-in-S16 g t c =
    puts_as (ap bytes_of c.unwrap_s16.ensures ∙ (signed_bytes w16 c.unwrap_s16.result (fits16 _ (subst IsWellFormed c.unwrap_s16.ensures c.kind.ensures.formed)) ∙ sym c.to_le_bytes-in-S16.ensures)) (ap is_writable c.unwrap_s16.ensures) c.put_bytes-in-S16.ensures

pub put_value-returns-in-S32 : goal.put_value-returns-in-S32
put_value-returns-in-S32 g t c =
    puts_as (ap bytes_of c.unwrap_s32.ensures ∙ (signed_bytes w32 c.unwrap_s32.result (fits32 _ (subst IsWellFormed c.unwrap_s32.ensures c.kind.ensures.formed)) ∙ sym c.to_le_bytes-in-S32.ensures)) (ap is_writable c.unwrap_s32.ensures) c.put_bytes-in-S32.ensures

pub put_value-returns-in-S64 : goal.put_value-returns-in-S64
put_value-returns-in-S64 g t c =
    puts_as (ap bytes_of c.unwrap_s64.ensures ∙ (signed_bytes w64 c.unwrap_s64.result (fits64 _ (subst IsWellFormed c.unwrap_s64.ensures c.kind.ensures.formed)) ∙ sym c.to_le_bytes-in-S64.ensures)) (ap is_writable c.unwrap_s64.ensures) c.put_bytes-in-S64.ensures

pub put_value-returns-in-Char : goal.put_value-returns-in-Char
put_value-returns-in-Char g t c =
    puts_as (ap bytes_of c.unwrap_char.ensures ∙ (ap (to_le_bytes w32) (sym c.from-in-Char.ensures) ∙ sym c.to_le_bytes-in-Char.ensures)) (ap is_writable c.unwrap_char.ensures) c.put_bytes-in-Char.ensures

pub put_value-returns-in-String : goal.put_value-returns-in-String
put_value-returns-in-String g t c =
    puts_as (ap bytes_of c.unwrap_string.ensures) (ap is_writable c.unwrap_string.ensures) c.put_text.ensures

pub put_value-returns-in-Enum : goal.put_value-returns-in-Enum
put_value-returns-in-Enum g t c =
    puts_as (ap bytes_of c.unwrap_enum.ensures) (ap is_writable c.unwrap_enum.ensures) c.put_text-in-Enum.ensures

pub put_value-unwrap_bool-requires : goal.put_value-unwrap_bool-requires
put_value-unwrap_bool-requires g t c = sym c.kind.ensures.kind ∙ c.in-Bool.is

pub put_value-unwrap_s8-requires : goal.put_value-unwrap_s8-requires
put_value-unwrap_s8-requires g t c = sym c.kind.ensures.kind ∙ c.in-S8.is

pub put_value-unwrap_s16-requires : goal.put_value-unwrap_s16-requires
put_value-unwrap_s16-requires g t c = sym c.kind.ensures.kind ∙ c.in-S16.is

pub put_value-unwrap_s32-requires : goal.put_value-unwrap_s32-requires
put_value-unwrap_s32-requires g t c = sym c.kind.ensures.kind ∙ c.in-S32.is

pub put_value-unwrap_s64-requires : goal.put_value-unwrap_s64-requires
put_value-unwrap_s64-requires g t c = sym c.kind.ensures.kind ∙ c.in-S64.is

pub put_value-unwrap_u8-requires : goal.put_value-unwrap_u8-requires
put_value-unwrap_u8-requires g t c = sym c.kind.ensures.kind ∙ c.in-U8.is

pub put_value-unwrap_u16-requires : goal.put_value-unwrap_u16-requires
put_value-unwrap_u16-requires g t c = sym c.kind.ensures.kind ∙ c.in-U16.is

pub put_value-unwrap_u32-requires : goal.put_value-unwrap_u32-requires
put_value-unwrap_u32-requires g t c = sym c.kind.ensures.kind ∙ c.in-U32.is

pub put_value-unwrap_u64-requires : goal.put_value-unwrap_u64-requires
put_value-unwrap_u64-requires g t c = sym c.kind.ensures.kind ∙ c.in-U64.is

pub put_value-unwrap_char-requires : goal.put_value-unwrap_char-requires
put_value-unwrap_char-requires g t c = sym c.kind.ensures.kind ∙ c.in-Char.is

pub put_value-unwrap_string-requires : goal.put_value-unwrap_string-requires
put_value-unwrap_string-requires g t c = sym c.kind.ensures.kind ∙ c.in-String.is

pub put_value-unwrap_enum-requires : goal.put_value-unwrap_enum-requires
put_value-unwrap_enum-requires g t c = sym c.kind.ensures.kind ∙ c.in-Enum.is

pub put_value-returns-in-F32 : goal.put_value-returns-in-F32
put_value-returns-in-F32 g t c = record { ok = tt; err = (refl, without_tape _ _ c.kind.ensures.kind c.in-F32.is); kept = kept_same _ }

pub put_tuple-unwrap_tuple-requires : goal.put_tuple-unwrap_tuple-requires
put_tuple-unwrap_tuple-requires g t c = c.requires

pub put_record-unwrap_record-requires : goal.put_record-unwrap_record-requires
put_record-unwrap_record-requires g t c = c.requires

pub put_variant-unwrap_variant-requires : goal.put_variant-unwrap_variant-requires
put_variant-unwrap_variant-requires g t c = c.requires

pub put_option-unwrap_option-requires : goal.put_option-unwrap_option-requires
put_option-unwrap_option-requires g t c = c.requires

pub put_result-unwrap_result-requires : goal.put_result-unwrap_result-requires
put_result-unwrap_result-requires g t c = c.requires

pub put_map-unwrap_map-requires : goal.put_map-unwrap_map-requires
put_map-unwrap_map-requires g t c = c.requires

pub put_items-loop-item-init : goal.put_items-loop-item-init
put_items-loop-item-init g t c = record { put = refl; has = refl; kept = kept_same _ }

pub put_row-put_items-requires : goal.put_row-put_items-requires
put_row-put_items-requires g t c κs within = (omega arith, within)

pub put_list-returns-in_err-items : goal.put_list-returns-in_err-items
put_list-returns-in_err-items g t c =
    let p = err_from_is_err_and c.from_residual.result c.from_residual.ensures.1 in
    rw (p.1, p.2) (memory_stop _)

pub put_fixed-returns-in_err-items : goal.put_fixed-returns-in_err-items
put_fixed-returns-in_err-items g t c =
    let p = err_from_is_err_and c.from_residual.result c.from_residual.ensures.1 in
    rw (p.1, p.2) (memory_stop _)

pub put_tuple-returns-in_err-items : goal.put_tuple-returns-in_err-items
put_tuple-returns-in_err-items g t c =
    let p = err_from_is_err_and c.from_residual.result c.from_residual.ensures.1 in
    rw (p.1, p.2) (memory_stop _)

pub put_record-returns-in_err-fields : goal.put_record-returns-in_err-fields
put_record-returns-in_err-fields g t c =
    let p = err_from_is_err_and c.from_residual.result c.from_residual.ensures.1 in
    rw (p.1, p.2) (memory_stop _)

pub put_map-returns-in_err-entries : goal.put_map-returns-in_err-entries
put_map-returns-in_err-entries g t c =
    let p = err_from_is_err_and c.from_residual.result c.from_residual.ensures.1 in
    rw (p.1, p.2) (memory_stop _)
