use Rattle.std.proofs.Common.{ℕ, ◌<◌, ◌^◌, List, [], ◌∷◌, ◌++◌, ◌&&◌, Bool, length, map, Option, refl, sym, ap, ◌∙◌, Bor, arith}
use Rattle.std.specs.List.{flat_map, list_all}
use Rattle.std.proofs.lemmas.List.{length-map}
use Rattle.std.proofs.lemmas.Result.{err_from_is_err_and}
use Rattle.wave_wasm.specs.Borrowed.{denoted, texts}
use Rattle.wave_wasm.specs.Types as type
use Rattle.wave_wasm.specs.Types.{TypeTree, MaybeType, maybe_type, depth, depth_of_maybe, every_maybe}
use Rattle.wave_wasm.proofs.CanonicalText.Sequences.{part_depth}
use Rattle.wave_wasm.proofs.Displays.TypeParts.{record_is, tuple_is, variant_is, field_depth, case_depth}
use Rattle.wave_tape.specs.Tape.{count_bytes}
use Rattle.wave_tape.specs.TypeTape.{type_bytes, payload_type_bytes, is_told, has_type_tape}
use Rattle.wave_tape.proofs.Puts.{bytes_stop, bytes_stop_in, puts_stop, memory_stop, kept_same, kept_later, puts_as, puts_last, headed_start, put_next, put_all, has_next, has_none, has_all, both_put, and_left}
use Rattle.wave_tape.proofs.TypeParts.{list_type, list_some, fixed_type, fixed_some, length_some, option_type, option_some, result_type, result_some, map_type, map_some}
use Rattle.wave_tape.proofs.TypeTapes.{tuple_tape, record_tape, variant_tape, enum_tape, flags_tape, simple_tape, f32_tape, f64_tape, without_type_tape, short_told, key_told, one_field, has_field, one_case, has_case}
use Rattle.wave_tape.proofs.encode_type.+put.Goals as goal

-- ---- one part

pub put_list-unreachable-requires : goal.put_list-unreachable-requires
put_list-unreachable-requires g t c = list_some (g.T.WasmType.tree c.args.ty.now) c.requires c.in_default.ensures

pub put_list-returns-in_err-put_bytes : goal.put_list-returns-in_err-put_bytes
put_list-returns-in_err-put_bytes g t c =
    let p = err_from_is_err_and c.from_residual.result c.from_residual.ensures.1 in
    rw (p.1, p.2) (bytes_stop c.in_err-put_bytes.ensures)

pub put_list-put_type-requires : goal.put_list-put_type-requires
put_list-put_type-requires g t c κs within =
    let d = ap depth (list_type (g.T.WasmType.tree c.args.ty.now) (g.T.WasmType.tree c.in-Some.element.now) c.requires c.in-Some.ensures) in
    (omega (arith, d), within)

pub put_list-returns : goal.put_list-returns
put_list-returns g t c =
    let is = list_type (g.T.WasmType.tree c.args.ty.now) (g.T.WasmType.tree c.in-Some.element.now) c.requires c.in-Some.ensures in
    puts_last (12 ∷ []) c.in_ok-put_bytes.ensures.ok.0 (ap type_bytes is) (ap has_type_tape is) c.put_type.ensures

pub put_option-unreachable-requires : goal.put_option-unreachable-requires
put_option-unreachable-requires g t c = option_some (g.T.WasmType.tree c.args.ty.now) c.requires c.in_default.ensures

pub put_option-returns-in_err-put_bytes : goal.put_option-returns-in_err-put_bytes
put_option-returns-in_err-put_bytes g t c =
    let p = err_from_is_err_and c.from_residual.result c.from_residual.ensures.1 in
    rw (p.1, p.2) (bytes_stop c.in_err-put_bytes.ensures)

pub put_option-put_type-requires : goal.put_option-put_type-requires
put_option-put_type-requires g t c κs within =
    let d = ap depth (option_type (g.T.WasmType.tree c.args.ty.now) (g.T.WasmType.tree c.in-Some.payload.now) c.requires c.in-Some.ensures) in
    (omega (arith, d), within)

pub put_option-returns : goal.put_option-returns
put_option-returns g t c =
    let is = option_type (g.T.WasmType.tree c.args.ty.now) (g.T.WasmType.tree c.in-Some.payload.now) c.requires c.in-Some.ensures in
    puts_last (17 ∷ []) c.in_ok-put_bytes.ensures.ok.0 (ap type_bytes is) (ap has_type_tape is) c.put_type.ensures

pub put_fixed-unreachable-requires : goal.put_fixed-unreachable-requires
put_fixed-unreachable-requires g t c = fixed_some (g.T.WasmType.tree c.args.ty.now) c.requires c.in_default.ensures

pub put_fixed-unreachable-requires-in_default-list_length : goal.put_fixed-unreachable-requires-in_default-list_length
put_fixed-unreachable-requires-in_default-list_length g t c = length_some (g.T.WasmType.tree c.args.ty.now) c.requires c.in_default-list_length.ensures

pub put_fixed-returns-in_err-put_head : goal.put_fixed-returns-in_err-put_head
put_fixed-returns-in_err-put_head g t c =
    let p = err_from_is_err_and c.from_residual.result c.from_residual.ensures.1 in
    rw (p.1, p.2) (bytes_stop c.in_err-put_head.ensures)

pub put_fixed-put_type-requires : goal.put_fixed-put_type-requires
put_fixed-put_type-requires g t c κs within =
    let d = ap depth (fixed_type (g.T.WasmType.tree c.args.ty.now) (g.T.WasmType.tree c.in-Some.element.now) c.in-Some-list_length.length c.requires c.in-Some.ensures c.in-Some-list_length.ensures) in
    (omega (arith, d), within)

pub put_fixed-returns : goal.put_fixed-returns
put_fixed-returns g t c =
    let is = fixed_type (g.T.WasmType.tree c.args.ty.now) (g.T.WasmType.tree c.in-Some.element.now) c.in-Some-list_length.length c.requires c.in-Some.ensures c.in-Some-list_length.ensures in
    let short : c.in-Some-list_length.length < 2 ^ 32 = omega arith in
    puts_last (21 ∷ count_bytes c.in-Some-list_length.length) c.in_ok-put_head.ensures.ok.0 (ap type_bytes is) (ap has_type_tape is ∙ short_told c.in-Some-list_length.length (g.T.WasmType.tree c.in-Some.element.now) short) c.put_type.ensures

-- ---- two parts

pub put_result-unreachable-requires : goal.put_result-unreachable-requires
put_result-unreachable-requires g t c = result_some (g.T.WasmType.tree c.args.ty.now) c.requires c.in_default.ensures

pub put_result-returns-in_err-put_bytes : goal.put_result-returns-in_err-put_bytes
put_result-returns-in_err-put_bytes g t c =
    let p = err_from_is_err_and c.from_residual.result c.from_residual.ensures.1 in
    rw (p.1, p.2) (bytes_stop c.in_err-put_bytes.ensures)

pub put_result-put_payload-requires : goal.put_result-put_payload-requires
put_result-put_payload-requires g t c κs within =
    let d = ap depth (result_type (g.T.WasmType.tree c.args.ty.now) (denoted g.T.WasmType.tree c.in-Some.ok) (denoted g.T.WasmType.tree c.in-Some.err) c.requires c.in-Some.ensures) in
    (omega (arith, d), within)

pub put_result-put_payload-requires-2 : goal.put_result-put_payload-requires-2
put_result-put_payload-requires-2 g t c κs within =
    let d = ap depth (result_type (g.T.WasmType.tree c.args.ty.now) (denoted g.T.WasmType.tree c.in-Some.ok) (denoted g.T.WasmType.tree c.in-Some.err) c.requires c.in-Some.ensures) in
    (omega (arith, d), within)

pub put_result-returns-in_err-put_payload : goal.put_result-returns-in_err-put_payload
put_result-returns-in_err-put_payload g t c =
    let p = err_from_is_err_and c.from_residual-in_err-put_payload.result c.from_residual-in_err-put_payload.ensures.1 in
    rw (p.1, p.2) (puts_stop _ (λ none. ap has_type_tape (result_type (g.T.WasmType.tree c.args.ty.now) (denoted g.T.WasmType.tree c.in-Some.ok) (denoted g.T.WasmType.tree c.in-Some.err) c.requires c.in-Some.ensures) ∙ and_left _ none) c.in_ok-put_bytes.ensures.kept c.in_err-put_payload.ensures)

pub put_result-returns : goal.put_result-returns
put_result-returns g t c =
    let is = result_type (g.T.WasmType.tree c.args.ty.now) (denoted g.T.WasmType.tree c.in-Some.ok) (denoted g.T.WasmType.tree c.in-Some.err) c.requires c.in-Some.ensures in
    let first = payload_type_bytes (maybe_type (denoted g.T.WasmType.tree c.in-Some.ok)) in
    let last = every_maybe is_told (maybe_type (denoted g.T.WasmType.tree c.in-Some.err)) in
    puts_last (18 ∷ first) (both_put _ (18 ∷ []) first c.in_ok-put_bytes.ensures.ok.0 c.in_ok-put_payload.ensures.ok.0) (ap type_bytes is) (ap has_type_tape is ∙ ap (λ (b : Bool). b && last) c.in_ok-put_payload.ensures.ok.1) c.put_payload-2.ensures

pub put_map-unreachable-requires : goal.put_map-unreachable-requires
put_map-unreachable-requires g t c = map_some (g.T.WasmType.tree c.args.ty.now) c.requires c.in_default.ensures

pub put_map-returns-in_err-put_bytes : goal.put_map-returns-in_err-put_bytes
put_map-returns-in_err-put_bytes g t c =
    let p = err_from_is_err_and c.from_residual.result c.from_residual.ensures.1 in
    rw (p.1, p.2) (bytes_stop c.in_err-put_bytes.ensures)

pub put_map-put_type-requires : goal.put_map-put_type-requires
put_map-put_type-requires g t c κs within =
    let is = map_type (g.T.WasmType.tree c.args.ty.now) (g.T.WasmType.tree c.in-Some.key.now) (g.T.WasmType.tree c.in-Some.val.now) c.requires c.in-Some.ensures in
    let d = ap depth is.is in
    let k = ap depth is.key_is in
    (omega (arith, d, k), within)

pub put_map-put_type-requires-2 : goal.put_map-put_type-requires-2
put_map-put_type-requires-2 g t c κs within =
    let is = map_type (g.T.WasmType.tree c.args.ty.now) (g.T.WasmType.tree c.in-Some.key.now) (g.T.WasmType.tree c.in-Some.val.now) c.requires c.in-Some.ensures in
    let d = ap depth is.is in
    let k = ap depth is.key_is in
    (omega (arith, d, k), within)

pub put_map-returns-in_err-put_type : goal.put_map-returns-in_err-put_type
put_map-returns-in_err-put_type g t c =
    let p = err_from_is_err_and c.from_residual-in_err-put_type.result c.from_residual-in_err-put_type.ensures.1 in
    rw (p.1, p.2) (puts_stop _ (key_told _ _ _ (map_type (g.T.WasmType.tree c.args.ty.now) (g.T.WasmType.tree c.in-Some.key.now) (g.T.WasmType.tree c.in-Some.val.now) c.requires c.in-Some.ensures)) c.in_ok-put_bytes.ensures.kept c.in_err-put_type.ensures)

pub put_map-returns : goal.put_map-returns
put_map-returns g t c =
    let is = map_type (g.T.WasmType.tree c.args.ty.now) (g.T.WasmType.tree c.in-Some.key.now) (g.T.WasmType.tree c.in-Some.val.now) c.requires c.in-Some.ensures in
    let key = type_bytes (g.T.WasmType.tree c.in-Some.key.now) in
    let val = type_bytes (g.T.WasmType.tree c.in-Some.val.now) in
    puts_last (20 ∷ key) (both_put _ (20 ∷ []) key c.in_ok-put_bytes.ensures.ok.0 c.in_ok-put_type.ensures.ok.0) (ap type_bytes is.is ∙ ap (λ (z : List ℕ). 20 ∷ (z ++ val)) (sym (ap type_bytes is.key_is))) (ap has_type_tape is.is) c.put_type-2.ensures

-- ---- parts in turn

pub put_tuple-returns-in_err-items : goal.put_tuple-returns-in_err-items
put_tuple-returns-in_err-items g t c =
    let p = err_from_is_err_and c.from_residual.result c.from_residual.ensures.1 in
    rw (p.1, p.2) (memory_stop _)

pub put_tuple-returns-in_err-put_head : goal.put_tuple-returns-in_err-put_head
put_tuple-returns-in_err-put_head g t c =
    let p = err_from_is_err_and c.from_residual-in_err-put_head.result c.from_residual-in_err-put_head.ensures.1 in
    rw (p.1, p.2) (bytes_stop c.in_err-put_head.ensures)

pub put_tuple-loop-item-init : goal.put_tuple-loop-item-init
put_tuple-loop-item-init g t c =
    let f : Bor g.row.T.Denot → TypeTree = λ x. g.T.WasmType.tree x.now in
    let items = c.deref-item-items.result.now in
    let s = tuple_tape _ (map f items) c.requires (ap (map f) c.deref-item-items.ensures.value ∙ c.in_ok-items.ensures) in
    let count = c.len.ensures ∙ (c.in_ok-items.items.ok.0 ∙ (ap length (sym c.deref-item-items.ensures.value) ∙ sym (length-map items f))) in
    record {
      put = headed_start 13 c.len.result (length (map f items)) (flat_map type_bytes (map f items)) c.args.out.now.items c.put_head.new.out.items _ count c.in_ok-put_head.ensures.ok.0 s.bytes_are;
      has = sym s.has_is;
      kept = c.in_ok-put_head.ensures.kept;
    }

pub put_tuple-put_type-requires : goal.put_tuple-put_type-requires
put_tuple-put_type-requires g t c κs within =
    let f : Bor g.row.T.Denot → TypeTree = λ x. g.T.WasmType.tree x.now in
    let s = tuple_is _ _ c.requires c.in_ok-items.ensures in
    let d = s.depth_is in
    let h = part_depth depth f c.deref-item-items.result.now _ c.loop-item.item-index c.item-item.result c.deref-item-items.ensures.value c.loop-item-test.true c.item-item.is in
    (omega (arith, h, d), within)

pub put_tuple-returns-in_err-put_type : goal.put_tuple-returns-in_err-put_type
put_tuple-returns-in_err-put_type g t c =
    let f : Bor g.row.T.Denot → TypeTree = λ x. g.T.WasmType.tree x.now in
    let k : List (Bor g.row.T.Denot) → Bool = λ l. list_all has_type_tape (map f l) in
    let p = err_from_is_err_and c.from_residual-in_err-put_type.result c.from_residual-in_err-put_type.ensures.1 in
    rw (p.1, p.2) (puts_stop _ (has_none k c.deref-item-items.result.now c.loop-item.item-index c.item-item.result (has_type_tape (f c.item-item.result)) _ c.loop-item-test.true c.item-item.is refl c.loop-item.invariant.has) c.loop-item.invariant.kept c.in_err-put_type.ensures)

pub put_tuple-loop-item-preserved : goal.put_tuple-loop-item-preserved
put_tuple-loop-item-preserved g t c =
    let f : Bor g.row.T.Denot → TypeTree = λ x. g.T.WasmType.tree x.now in
    let h : List (Bor g.row.T.Denot) → List ℕ = λ l. flat_map type_bytes (map f l) in
    let k : List (Bor g.row.T.Denot) → Bool = λ l. list_all has_type_tape (map f l) in
    record {
      put = put_next h c.deref-item-items.result.now c.loop-item.item-index c.item-item.result (type_bytes (f c.item-item.result)) _ _ _ c.loop-item-test.true c.item-item.is refl c.in_ok-put_type.ensures.ok.0 c.loop-item.invariant.put;
      has = has_next k c.deref-item-items.result.now c.loop-item.item-index c.item-item.result (has_type_tape (f c.item-item.result)) _ c.loop-item-test.true c.item-item.is refl c.in_ok-put_type.ensures.ok.1 c.loop-item.invariant.has;
      kept = kept_later _ _ _ c.loop-item.invariant.kept c.in_ok-put_type.ensures.kept;
    }

pub put_tuple-returns : goal.put_tuple-returns
put_tuple-returns g t c =
    let f : Bor g.row.T.Denot → TypeTree = λ x. g.T.WasmType.tree x.now in
    let h : List (Bor g.row.T.Denot) → List ℕ = λ l. flat_map type_bytes (map f l) in
    let k : List (Bor g.row.T.Denot) → Bool = λ l. list_all has_type_tape (map f l) in
    record {
      ok = (put_all h c.deref-item-items.result.now c.loop-item.item-index _ _ c.loop-item-test.false refl c.loop-item.invariant.put, has_all k c.deref-item-items.result.now c.loop-item.item-index _ c.loop-item-test.false refl c.loop-item.invariant.has);
      err = tt;
      kept = c.loop-item.invariant.kept;
    }

pub put_record-returns-in_err-fields : goal.put_record-returns-in_err-fields
put_record-returns-in_err-fields g t c =
    let p = err_from_is_err_and c.from_residual.result c.from_residual.ensures.1 in
    rw (p.1, p.2) (memory_stop _)

pub put_record-returns-in_err-put_head : goal.put_record-returns-in_err-put_head
put_record-returns-in_err-put_head g t c =
    let p = err_from_is_err_and c.from_residual-in_err-put_head.result c.from_residual-in_err-put_head.ensures.1 in
    rw (p.1, p.2) (bytes_stop c.in_err-put_head.ensures)

pub put_record-loop-field-init : goal.put_record-loop-field-init
put_record-loop-field-init g t c =
    let f : Bor (List ℕ) × Bor g.row.T.Denot → List ℕ × TypeTree = λ x. (x.0.now, g.T.WasmType.tree x.1.now) in
    let items = c.deref-field-items.result.now in
    let s = record_tape _ (map f items) c.requires (ap (map f) c.deref-field-items.ensures.value ∙ c.in_ok-fields.ensures) in
    let count = c.len.ensures ∙ (c.in_ok-fields.fields.ok.0 ∙ (ap length (sym c.deref-field-items.ensures.value) ∙ sym (length-map items f))) in
    record {
      put = headed_start 14 c.len.result (length (map f items)) (flat_map one_field (map f items)) c.args.out.now.items c.put_head.new.out.items _ count c.in_ok-put_head.ensures.ok.0 s.bytes_are;
      has = sym s.has_is;
      kept = c.in_ok-put_head.ensures.kept;
    }

pub put_record-put_type-requires : goal.put_record-put_type-requires
put_record-put_type-requires g t c κs within =
    let f : Bor (List ℕ) × Bor g.row.T.Denot → List ℕ × TypeTree = λ x. (x.0.now, g.T.WasmType.tree x.1.now) in
    let s = record_is _ _ c.requires c.in_ok-fields.ensures in
    let d = s.depth_is in
    let h = part_depth field_depth f c.deref-field-items.result.now _ c.loop-field.field-index c.field-item.result c.deref-field-items.ensures.value c.loop-field-test.true c.field-item.is in
    (omega (arith, h, d), within)

pub put_record-returns-in_err-put_text : goal.put_record-returns-in_err-put_text
put_record-returns-in_err-put_text g t c =
    let p = err_from_is_err_and c.from_residual-in_err-put_text.result c.from_residual-in_err-put_text.ensures.1 in
    rw (p.1, p.2) (bytes_stop_in _ c.loop-field.invariant.kept c.in_err-put_text.ensures)

pub put_record-returns-in_err-put_type : goal.put_record-returns-in_err-put_type
put_record-returns-in_err-put_type g t c =
    let f : Bor (List ℕ) × Bor g.row.T.Denot → List ℕ × TypeTree = λ x. (x.0.now, g.T.WasmType.tree x.1.now) in
    let k : List (Bor (List ℕ) × Bor g.row.T.Denot) → Bool = λ l. list_all has_field (map f l) in
    let p = err_from_is_err_and c.from_residual-in_err-put_type.result c.from_residual-in_err-put_type.ensures.1 in
    rw (p.1, p.2) (puts_stop _ (has_none k c.deref-field-items.result.now c.loop-field.field-index c.field-item.result (has_field (f c.field-item.result)) _ c.loop-field-test.true c.field-item.is refl c.loop-field.invariant.has) (kept_later _ _ _ c.loop-field.invariant.kept c.in_ok-put_text.ensures.kept) c.in_err-put_type.ensures)

pub put_record-loop-field-preserved : goal.put_record-loop-field-preserved
put_record-loop-field-preserved g t c =
    let f : Bor (List ℕ) × Bor g.row.T.Denot → List ℕ × TypeTree = λ x. (x.0.now, g.T.WasmType.tree x.1.now) in
    let h : List (Bor (List ℕ) × Bor g.row.T.Denot) → List ℕ = λ l. flat_map one_field (map f l) in
    let k : List (Bor (List ℕ) × Bor g.row.T.Denot) → Bool = λ l. list_all has_field (map f l) in
    record {
      put = put_next h c.deref-field-items.result.now c.loop-field.field-index c.field-item.result (one_field (f c.field-item.result)) _ _ _ c.loop-field-test.true c.field-item.is refl (both_put _ _ _ c.in_ok-put_text.ensures.ok.0 c.in_ok-put_type.ensures.ok.0) c.loop-field.invariant.put;
      has = has_next k c.deref-field-items.result.now c.loop-field.field-index c.field-item.result (has_field (f c.field-item.result)) _ c.loop-field-test.true c.field-item.is refl c.in_ok-put_type.ensures.ok.1 c.loop-field.invariant.has;
      kept = kept_later _ _ _ (kept_later _ _ _ c.loop-field.invariant.kept c.in_ok-put_text.ensures.kept) c.in_ok-put_type.ensures.kept;
    }

pub put_record-returns : goal.put_record-returns
put_record-returns g t c =
    let f : Bor (List ℕ) × Bor g.row.T.Denot → List ℕ × TypeTree = λ x. (x.0.now, g.T.WasmType.tree x.1.now) in
    let h : List (Bor (List ℕ) × Bor g.row.T.Denot) → List ℕ = λ l. flat_map one_field (map f l) in
    let k : List (Bor (List ℕ) × Bor g.row.T.Denot) → Bool = λ l. list_all has_field (map f l) in
    record {
      ok = (put_all h c.deref-field-items.result.now c.loop-field.field-index _ _ c.loop-field-test.false refl c.loop-field.invariant.put, has_all k c.deref-field-items.result.now c.loop-field.field-index _ c.loop-field-test.false refl c.loop-field.invariant.has);
      err = tt;
      kept = c.loop-field.invariant.kept;
    }

pub put_variant-returns-in_err-cases : goal.put_variant-returns-in_err-cases
put_variant-returns-in_err-cases g t c =
    let p = err_from_is_err_and c.from_residual.result c.from_residual.ensures.1 in
    rw (p.1, p.2) (memory_stop _)

pub put_variant-returns-in_err-put_head : goal.put_variant-returns-in_err-put_head
put_variant-returns-in_err-put_head g t c =
    let p = err_from_is_err_and c.from_residual-in_err-put_head.result c.from_residual-in_err-put_head.ensures.1 in
    rw (p.1, p.2) (bytes_stop c.in_err-put_head.ensures)

pub put_variant-loop-case-init : goal.put_variant-loop-case-init
put_variant-loop-case-init g t c =
    let f : Bor (List ℕ) × Option (Bor g.row.T.Denot) → List ℕ × Option TypeTree = λ x. (x.0.now, denoted g.T.WasmType.tree x.1) in
    let items = c.deref-case-items.result.now in
    let s = variant_tape _ (map f items) c.requires (ap (map f) c.deref-case-items.ensures.value ∙ c.in_ok-cases.ensures) in
    let count = c.len.ensures ∙ (c.in_ok-cases.cases.ok.0 ∙ (ap length (sym c.deref-case-items.ensures.value) ∙ sym (length-map items f))) in
    record {
      put = headed_start 15 c.len.result (length (map f items)) (flat_map one_case (map f items)) c.args.out.now.items c.put_head.new.out.items _ count c.in_ok-put_head.ensures.ok.0 s.bytes_are;
      has = sym s.has_is;
      kept = c.in_ok-put_head.ensures.kept;
    }

pub put_variant-put_payload-requires : goal.put_variant-put_payload-requires
put_variant-put_payload-requires g t c κs within =
    let f : Bor (List ℕ) × Option (Bor g.row.T.Denot) → List ℕ × Option TypeTree = λ x. (x.0.now, denoted g.T.WasmType.tree x.1) in
    let s = variant_is _ _ c.requires c.in_ok-cases.ensures in
    let d = s.depth_is in
    let h = part_depth case_depth f c.deref-case-items.result.now _ c.loop-case.case-index c.case-item.result c.deref-case-items.ensures.value c.loop-case-test.true c.case-item.is in
    (omega (arith, h, d), within)

pub put_variant-returns-in_err-put_text : goal.put_variant-returns-in_err-put_text
put_variant-returns-in_err-put_text g t c =
    let p = err_from_is_err_and c.from_residual-in_err-put_text.result c.from_residual-in_err-put_text.ensures.1 in
    rw (p.1, p.2) (bytes_stop_in _ c.loop-case.invariant.kept c.in_err-put_text.ensures)

pub put_variant-returns-in_err-put_payload : goal.put_variant-returns-in_err-put_payload
put_variant-returns-in_err-put_payload g t c =
    let f : Bor (List ℕ) × Option (Bor g.row.T.Denot) → List ℕ × Option TypeTree = λ x. (x.0.now, denoted g.T.WasmType.tree x.1) in
    let k : List (Bor (List ℕ) × Option (Bor g.row.T.Denot)) → Bool = λ l. list_all has_case (map f l) in
    let p = err_from_is_err_and c.from_residual-in_err-put_payload.result c.from_residual-in_err-put_payload.ensures.1 in
    rw (p.1, p.2) (puts_stop _ (has_none k c.deref-case-items.result.now c.loop-case.case-index c.case-item.result (has_case (f c.case-item.result)) _ c.loop-case-test.true c.case-item.is refl c.loop-case.invariant.has) (kept_later _ _ _ c.loop-case.invariant.kept c.in_ok-put_text.ensures.kept) c.in_err-put_payload.ensures)

pub put_variant-loop-case-preserved : goal.put_variant-loop-case-preserved
put_variant-loop-case-preserved g t c =
    let f : Bor (List ℕ) × Option (Bor g.row.T.Denot) → List ℕ × Option TypeTree = λ x. (x.0.now, denoted g.T.WasmType.tree x.1) in
    let h : List (Bor (List ℕ) × Option (Bor g.row.T.Denot)) → List ℕ = λ l. flat_map one_case (map f l) in
    let k : List (Bor (List ℕ) × Option (Bor g.row.T.Denot)) → Bool = λ l. list_all has_case (map f l) in
    record {
      put = put_next h c.deref-case-items.result.now c.loop-case.case-index c.case-item.result (one_case (f c.case-item.result)) _ _ _ c.loop-case-test.true c.case-item.is refl (both_put _ _ _ c.in_ok-put_text.ensures.ok.0 c.in_ok-put_payload.ensures.ok.0) c.loop-case.invariant.put;
      has = has_next k c.deref-case-items.result.now c.loop-case.case-index c.case-item.result (has_case (f c.case-item.result)) _ c.loop-case-test.true c.case-item.is refl c.in_ok-put_payload.ensures.ok.1 c.loop-case.invariant.has;
      kept = kept_later _ _ _ (kept_later _ _ _ c.loop-case.invariant.kept c.in_ok-put_text.ensures.kept) c.in_ok-put_payload.ensures.kept;
    }

pub put_variant-returns : goal.put_variant-returns
put_variant-returns g t c =
    let f : Bor (List ℕ) × Option (Bor g.row.T.Denot) → List ℕ × Option TypeTree = λ x. (x.0.now, denoted g.T.WasmType.tree x.1) in
    let h : List (Bor (List ℕ) × Option (Bor g.row.T.Denot)) → List ℕ = λ l. flat_map one_case (map f l) in
    let k : List (Bor (List ℕ) × Option (Bor g.row.T.Denot)) → Bool = λ l. list_all has_case (map f l) in
    record {
      ok = (put_all h c.deref-case-items.result.now c.loop-case.case-index _ _ c.loop-case-test.false refl c.loop-case.invariant.put, has_all k c.deref-case-items.result.now c.loop-case.case-index _ c.loop-case-test.false refl c.loop-case.invariant.has);
      err = tt;
      kept = c.loop-case.invariant.kept;
    }

-- ---- payloads

pub put_payload-returns-in-None : goal.put_payload-returns-in-None
put_payload-returns-in-None g t c = puts_as (ap (λ o. payload_type_bytes (maybe_type (denoted g.T.WasmType.tree o))) c.in-None.is) (ap (λ o. every_maybe is_told (maybe_type (denoted g.T.WasmType.tree o))) c.in-None.is) c.put_bytes.ensures

pub put_payload-returns-in_err-put_bytes-in-Some : goal.put_payload-returns-in_err-put_bytes-in-Some
put_payload-returns-in_err-put_bytes-in-Some g t c =
    let p = err_from_is_err_and c.from_residual.result c.from_residual.ensures.1 in
    rw (p.1, p.2) (bytes_stop c.in_err-put_bytes-in-Some.ensures)

pub put_payload-put_type-requires : goal.put_payload-put_type-requires
put_payload-put_type-requires g t c κs within =
    let d = ap (λ o. depth_of_maybe (maybe_type (denoted g.T.WasmType.tree o))) c.in-Some.is in
    (omega (arith, d), within)

pub put_payload-returns-in_ok-put_bytes-in-Some : goal.put_payload-returns-in_ok-put_bytes-in-Some
put_payload-returns-in_ok-put_bytes-in-Some g t c = puts_last (1 ∷ []) c.in_ok-put_bytes-in-Some.ensures.ok.0 (ap (λ o. payload_type_bytes (maybe_type (denoted g.T.WasmType.tree o))) c.in-Some.is) (ap (λ o. every_maybe is_told (maybe_type (denoted g.T.WasmType.tree o))) c.in-Some.is) c.put_type.ensures

-- ---- by kind

pub put_type-returns-in-Bool : goal.put_type-returns-in-Bool
put_type-returns-in-Bool g t c =
    let s = simple_tape type.bool (g.T.WasmType.tree c.args.ty.now) (sym c.in-Bool.is ∙ c.kind.ensures) in
    puts_as s.bytes_are s.has_is c.put_bytes.ensures

pub put_type-returns-in-U8 : goal.put_type-returns-in-U8
put_type-returns-in-U8 g t c =
    let s = simple_tape (type.whole type.u8) (g.T.WasmType.tree c.args.ty.now) (sym c.in-U8.is ∙ c.kind.ensures) in
    puts_as s.bytes_are s.has_is c.put_bytes-in-U8.ensures

pub put_type-returns-in-U16 : goal.put_type-returns-in-U16
put_type-returns-in-U16 g t c =
    let s = simple_tape (type.whole type.u16) (g.T.WasmType.tree c.args.ty.now) (sym c.in-U16.is ∙ c.kind.ensures) in
    puts_as s.bytes_are s.has_is c.put_bytes-in-U16.ensures

pub put_type-returns-in-U32 : goal.put_type-returns-in-U32
put_type-returns-in-U32 g t c =
    let s = simple_tape (type.whole type.u32) (g.T.WasmType.tree c.args.ty.now) (sym c.in-U32.is ∙ c.kind.ensures) in
    puts_as s.bytes_are s.has_is c.put_bytes-in-U32.ensures

pub put_type-returns-in-U64 : goal.put_type-returns-in-U64
put_type-returns-in-U64 g t c =
    let s = simple_tape (type.whole type.u64) (g.T.WasmType.tree c.args.ty.now) (sym c.in-U64.is ∙ c.kind.ensures) in
    puts_as s.bytes_are s.has_is c.put_bytes-in-U64.ensures

pub put_type-returns-in-S8 : goal.put_type-returns-in-S8
put_type-returns-in-S8 g t c =
    let s = simple_tape (type.whole type.s8) (g.T.WasmType.tree c.args.ty.now) (sym c.in-S8.is ∙ c.kind.ensures) in
    puts_as s.bytes_are s.has_is c.put_bytes-in-S8.ensures

pub put_type-returns-in-S16 : goal.put_type-returns-in-S16
put_type-returns-in-S16 g t c =
    let s = simple_tape (type.whole type.s16) (g.T.WasmType.tree c.args.ty.now) (sym c.in-S16.is ∙ c.kind.ensures) in
    puts_as s.bytes_are s.has_is c.put_bytes-in-S16.ensures

pub put_type-returns-in-S32 : goal.put_type-returns-in-S32
put_type-returns-in-S32 g t c =
    let s = simple_tape (type.whole type.s32) (g.T.WasmType.tree c.args.ty.now) (sym c.in-S32.is ∙ c.kind.ensures) in
    puts_as s.bytes_are s.has_is c.put_bytes-in-S32.ensures

pub put_type-returns-in-S64 : goal.put_type-returns-in-S64
put_type-returns-in-S64 g t c =
    let s = simple_tape (type.whole type.s64) (g.T.WasmType.tree c.args.ty.now) (sym c.in-S64.is ∙ c.kind.ensures) in
    puts_as s.bytes_are s.has_is c.put_bytes-in-S64.ensures

pub put_type-returns-in-Char : goal.put_type-returns-in-Char
put_type-returns-in-Char g t c =
    let s = simple_tape type.char (g.T.WasmType.tree c.args.ty.now) (sym c.in-Char.is ∙ c.kind.ensures) in
    puts_as s.bytes_are s.has_is c.put_bytes-in-Char.ensures

pub put_type-returns-in-String : goal.put_type-returns-in-String
put_type-returns-in-String g t c =
    let s = simple_tape type.string (g.T.WasmType.tree c.args.ty.now) (sym c.in-String.is ∙ c.kind.ensures) in
    puts_as s.bytes_are s.has_is c.put_bytes-in-String.ensures

pub put_type-returns-in-List : goal.put_type-returns-in-List
put_type-returns-in-List g t c = c.put_list.ensures

pub put_type-put_list-requires : goal.put_type-put_list-requires
put_type-put_list-requires g t c κs within = (omega arith, (within, sym c.kind.ensures ∙ c.in-List.is))

pub put_type-returns-in-FixedLengthList : goal.put_type-returns-in-FixedLengthList
put_type-returns-in-FixedLengthList g t c = c.put_fixed.ensures

pub put_type-put_fixed-requires : goal.put_type-put_fixed-requires
put_type-put_fixed-requires g t c κs within = (omega arith, (within, sym c.kind.ensures ∙ c.in-FixedLengthList.is))

pub put_type-returns-in-Tuple : goal.put_type-returns-in-Tuple
put_type-returns-in-Tuple g t c = c.put_tuple.ensures

pub put_type-put_tuple-requires : goal.put_type-put_tuple-requires
put_type-put_tuple-requires g t c κs within = (omega arith, (within, sym c.kind.ensures ∙ c.in-Tuple.is))

pub put_type-returns-in-Record : goal.put_type-returns-in-Record
put_type-returns-in-Record g t c = c.put_record.ensures

pub put_type-put_record-requires : goal.put_type-put_record-requires
put_type-put_record-requires g t c κs within = (omega arith, (within, sym c.kind.ensures ∙ c.in-Record.is))

pub put_type-returns-in-Variant : goal.put_type-returns-in-Variant
put_type-returns-in-Variant g t c = c.put_variant.ensures

pub put_type-put_variant-requires : goal.put_type-put_variant-requires
put_type-put_variant-requires g t c κs within = (omega arith, (within, sym c.kind.ensures ∙ c.in-Variant.is))

pub put_type-returns-in-Option : goal.put_type-returns-in-Option
put_type-returns-in-Option g t c = c.put_option.ensures

pub put_type-put_option-requires : goal.put_type-put_option-requires
put_type-put_option-requires g t c κs within = (omega arith, (within, sym c.kind.ensures ∙ c.in-Option.is))

pub put_type-returns-in-Result : goal.put_type-returns-in-Result
put_type-returns-in-Result g t c = c.put_result.ensures

pub put_type-put_result-requires : goal.put_type-put_result-requires
put_type-put_result-requires g t c κs within = (omega arith, (within, sym c.kind.ensures ∙ c.in-Result.is))

pub put_type-returns-in-Map : goal.put_type-returns-in-Map
put_type-returns-in-Map g t c = c.put_map.ensures

pub put_type-put_map-requires : goal.put_type-put_map-requires
put_type-put_map-requires g t c κs within = (omega arith, (within, sym c.kind.ensures ∙ c.in-Map.is))

pub put_type-returns-in-F32 : goal.put_type-returns-in-F32
put_type-returns-in-F32 g t c =
    let s = f32_tape (g.T.WasmType.tree c.args.ty.now) (sym c.kind.ensures ∙ c.in-F32.is) in
    puts_as s.bytes_are s.has_is c.put_bytes-in-F32.ensures

pub put_type-returns-in-F64 : goal.put_type-returns-in-F64
put_type-returns-in-F64 g t c =
    let s = f64_tape (g.T.WasmType.tree c.args.ty.now) (sym c.kind.ensures ∙ c.in-F64.is) in
    puts_as s.bytes_are s.has_is c.put_bytes-in-F64.ensures

pub put_type-returns-in-Unsupported : goal.put_type-returns-in-Unsupported
put_type-returns-in-Unsupported g t c =
    record { ok = tt; err = (refl, without_type_tape (g.T.WasmType.tree c.args.ty.now) (sym c.kind.ensures ∙ c.in-Unsupported.is)); kept = kept_same _ }

pub put_type-returns-in_ok-enum_cases-in-Enum : goal.put_type-returns-in_ok-enum_cases-in-Enum
put_type-returns-in_ok-enum_cases-in-Enum g t c =
    let s = enum_tape (g.T.WasmType.tree c.args.ty.now) (texts c.deref.result.now) (sym c.kind.ensures ∙ c.in-Enum.is) (ap texts c.deref.ensures.value ∙ c.in_ok-enum_cases-in-Enum.ensures) in
    puts_as s.bytes_are s.has_is c.put_named.ensures

pub put_type-returns-in_ok-flags_names-in-Flags : goal.put_type-returns-in_ok-flags_names-in-Flags
put_type-returns-in_ok-flags_names-in-Flags g t c =
    let s = flags_tape (g.T.WasmType.tree c.args.ty.now) (texts c.deref-in-Flags.result.now) (sym c.kind.ensures ∙ c.in-Flags.is) (ap texts c.deref-in-Flags.ensures.value ∙ c.in_ok-flags_names-in-Flags.ensures) in
    puts_as s.bytes_are s.has_is c.put_named-in-Flags.ensures
