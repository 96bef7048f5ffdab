use Rattle.std.proofs.Common.{◌≡◌, ◌≤◌, ◌-◌, ◌+◌, ℕ, suc, List, Bor, Ok, Err, length, map, drop, refl, sym, ap, subst, ◌∙◌, arith}
use Rattle.std.specs.List.{find}
use Rattle.std.specs.Option.{option_map}
use Rattle.std.proofs.lemmas.List.{map_push, length-map, nil_from_length}
use Rattle.std.proofs.lemmas.Result.{err_from_is_err_and}
use Rattle.wave_wasm.specs.ConstructorContracts.{entry_trees, field_trees}
use Rattle.wave_wasm.specs.Lists.{AllOf}
use Rattle.wave_wasm.specs.Types.{TypeTree, HasDistinctNames, depth, depth_of_maybe, maybe_type, variant_parts}
use Rattle.wave_wasm.specs.Values.{Value}
use Rattle.wave_wasm.specs.Borrowed.{denoted, denoted_all, denoted_fields, denoted_case}
use Rattle.wave_wasm.specs.declared.wasm.WasmTypeKind.TheVariants as kinds
use Rattle.wave_wasm.proofs.CanonicalText.Sequences.{part_depth, depths}
use Rattle.wave_wasm.proofs.TypesOfValues.TypeOfKind.{formed_as}
use Rattle.wave_tape.specs.Names.{HasTextNames}
use Rattle.wave_tape.specs.Reading.{value_at, times, pair_at}
use Rattle.wave_tape.specs.Private.Readers.{IsRead, AreRead, each_at, each_field_at}
use Rattle.wave_tape.proofs.TypeParts.{unreadable_at, simple_of_kind, list_type, list_some, fixed_type, fixed_some, length_some, tuple_type, record_type, option_type, option_some, result_type, result_some, map_type, map_some}
use Rattle.wave_tape.proofs.Puts.{zero_of, some_of}
use Rattle.wave_tape.proofs.Readings.{fails_of, read_as, stops_at}
use Rattle.wave_tape.proofs.Loops.{with_front, Completes, CompletesFields, first_front, less_none, fields_push, entries_push, second_stop, pair_read, goes_on, stops_here, is_done, times_step, times_stop, times_end, all_push, each_step, each_stop, each_end, all_shown, completes_none, completes_more, completes_all, fields_none, fields_more, fields_all, field_step, field_stop, fields_end}
use Rattle.wave_tape.proofs.Builds.{list_counted, list_stopped, list_typed, list_read, none_fixed_stopped, none_fixed_read, fixed_stopped, fixed_typed, fixed_read, none_tuple_stopped, none_tuple_read, tuple_stopped, tuple_typed, tuple_read}
use Rattle.wave_tape.proofs.Cases.{has_name, payload_some, payload_none, payload_err, found_case, name_stopped, case_no_text, case_unknown, case_stopped, case_typed, case_read, option_stopped, none_read, payload_stopped, option_typed, some_read, result_stopped, err_stopped, ok_stopped, err_typed, ok_typed, err_read, ok_read, map_counted, map_stopped, map_typed, map_read}
use Rattle.wave_tape.proofs.Records.{none_record_stopped, none_record_read, fields_stopped, record_typed, record_read}
use Rattle.wave_tape.proofs.Depths.{field_depth, types_depth, fields_depth, case_depth}
use Rattle.wave_tape.proofs.decode.+read.Goals as goal

-- ---- lists

pub read_list-returns-in_default : goal.read_list-returns-in_default
read_list-returns-in_default g t c = λ distinct named. absurd (list_some (g.V.Type.WasmType.tree c.args.ty.now) c.requires c.in_default.ensures)

pub read_list-returns-in_err-count : goal.read_list-returns-in_err-count
read_list-returns-in_err-count g t c =
    let p = err_from_is_err_and c.from_residual.result c.from_residual.ensures.1 in
    rw (p.1, p.2) (list_counted g.V.WasmValue.tree g.V.WasmValue.is_of g.V.WasmValue.is_full g.met.V.WasmValue.full_parts (g.V.Type.WasmType.tree c.args.ty.now) (g.V.Type.WasmType.tree c.in-Some.element.now) c.args.bytes.now c.in_err-count.field-0.0 (list_type (g.V.Type.WasmType.tree c.args.ty.now) (g.V.Type.WasmType.tree c.in-Some.element.now) c.requires c.in-Some.ensures) c.in_err-count.ensures)

pub read_list-returns-in_err-vals : goal.read_list-returns-in_err-vals
read_list-returns-in_err-vals g t c =
    let p = err_from_is_err_and c.from_residual-in_err-vals.result c.from_residual-in_err-vals.ensures.1 in
    rw (p.1, p.2) (list_stopped g.V.WasmValue.tree g.V.WasmValue.is_of g.V.WasmValue.is_full g.met.V.WasmValue.full_parts (g.V.Type.WasmType.tree c.args.ty.now) (g.V.Type.WasmType.tree c.in-Some.element.now) c.args.bytes.now c.in_ok-count.count c.in_ok-count.rest.now c.in_err-vals.field-0.0 (list_type (g.V.Type.WasmType.tree c.args.ty.now) (g.V.Type.WasmType.tree c.in-Some.element.now) c.requires c.in-Some.ensures) c.in_ok-count.ensures c.in_err-vals.ensures)

pub read_list-read_items-requires : goal.read_list-read_items-requires
read_list-read_items-requires g t c κs within =
    let d = ap depth (list_type (g.V.Type.WasmType.tree c.args.ty.now) (g.V.Type.WasmType.tree c.in-Some.element.now) c.requires c.in-Some.ensures) in
    (omega (arith, d), within)

pub read_list-make_list_unchecked-requires : goal.read_list-make_list_unchecked-requires
read_list-make_list_unchecked-requires g t c =
    list_typed g.V.WasmValue.tree g.V.WasmValue.is_of g.V.WasmValue.is_full g.met.V.WasmValue.full_parts (g.V.Type.WasmType.tree c.args.ty.now) (g.V.Type.WasmType.tree c.in-Some.element.now) c.in_ok-count.count c.in_ok-count.rest.now (c.in_ok-vals.vals, c.in_ok-vals.rest) (list_type (g.V.Type.WasmType.tree c.args.ty.now) (g.V.Type.WasmType.tree c.in-Some.element.now) c.requires c.in-Some.ensures) c.in_ok-vals.ensures

pub read_list-returns : goal.read_list-returns
read_list-returns g t c =
    list_read g.V.WasmValue.tree g.V.WasmValue.is_of g.V.WasmValue.is_full g.met.V.WasmValue.full_parts (g.V.Type.WasmType.tree c.args.ty.now) (g.V.Type.WasmType.tree c.in-Some.element.now) c.args.bytes.now c.in_ok-count.count c.in_ok-count.rest.now (c.in_ok-vals.vals, c.in_ok-vals.rest) c.make_list_unchecked.result c.built.result (list_type (g.V.Type.WasmType.tree c.args.ty.now) (g.V.Type.WasmType.tree c.in-Some.element.now) c.requires c.in-Some.ensures) c.in_ok-count.ensures c.in_ok-vals.ensures c.built.ensures c.make_list_unchecked.ensures.built c.make_list_unchecked.ensures.full

-- ---- lists of a fixed length

pub read_fixed-returns-in_default : goal.read_fixed-returns-in_default
read_fixed-returns-in_default g t c = λ distinct named. absurd (fixed_some (g.V.Type.WasmType.tree c.args.ty.now) c.requires c.in_default.ensures)

pub read_fixed-returns-in_default-list_length : goal.read_fixed-returns-in_default-list_length
read_fixed-returns-in_default-list_length g t c = λ distinct named. absurd (length_some (g.V.Type.WasmType.tree c.args.ty.now) c.requires c.in_default-list_length.ensures)

pub read_fixed-returns-in_err-rest : goal.read_fixed-returns-in_err-rest
read_fixed-returns-in_err-rest g t c =
    let p = err_from_is_err_and c.from_residual.result c.from_residual.ensures.1 in
    rw (p.1, p.2) (none_fixed_stopped g.V.WasmValue.tree g.V.WasmValue.is_of g.V.WasmValue.is_full g.met.V.WasmValue.full_parts (g.V.Type.WasmType.tree c.args.ty.now) (g.V.Type.WasmType.tree c.in-Some.element.now) c.in-Some-list_length.length c.args.bytes.now c.in_err-rest.field-0.0 (fixed_type (g.V.Type.WasmType.tree c.args.ty.now) (g.V.Type.WasmType.tree c.in-Some.element.now) c.in-Some-list_length.length c.requires c.in-Some.ensures c.in-Some-list_length.ensures) c.if-length-eq0.true c.in_err-rest.ensures)

pub read_fixed-returns-then-length-eq0 : goal.read_fixed-returns-then-length-eq0
read_fixed-returns-then-length-eq0 g t c =
    none_fixed_read g.V.WasmValue.tree g.V.WasmValue.is_of g.V.WasmValue.is_full g.met.V.WasmValue.full_parts (g.V.Type.WasmType.tree c.args.ty.now) (g.V.Type.WasmType.tree c.in-Some.element.now) c.in-Some-list_length.length c.args.bytes.now c.in_ok-rest.rest.now c.new.result.items c.make_list.result c.built.result (fixed_type (g.V.Type.WasmType.tree c.args.ty.now) (g.V.Type.WasmType.tree c.in-Some.element.now) c.in-Some-list_length.length c.requires c.in-Some.ensures c.in-Some-list_length.ensures) c.if-length-eq0.true c.in_ok-rest.ensures c.new.ensures.items c.built.ensures c.make_list.ensures.built c.make_list.ensures.full

pub read_fixed-returns-in_err-vals : goal.read_fixed-returns-in_err-vals
read_fixed-returns-in_err-vals g t c =
    let p = err_from_is_err_and c.from_residual-in_err-vals.result c.from_residual-in_err-vals.ensures.1 in
    rw (p.1, p.2) (fixed_stopped g.V.WasmValue.tree g.V.WasmValue.is_of g.V.WasmValue.is_full g.met.V.WasmValue.full_parts (g.V.Type.WasmType.tree c.args.ty.now) (g.V.Type.WasmType.tree c.in-Some.element.now) c.in-Some-list_length.length c.args.bytes.now c.in_err-vals.field-0.0 (fixed_type (g.V.Type.WasmType.tree c.args.ty.now) (g.V.Type.WasmType.tree c.in-Some.element.now) c.in-Some-list_length.length c.requires c.in-Some.ensures c.in-Some-list_length.ensures) (omega arith) (subst (λ (k : ℕ). AreRead g.V.WasmValue.tree g.V.WasmValue.is_of g.V.WasmValue.is_full (g.V.Type.WasmType.tree c.in-Some.element.now) k c.args.bytes.now (Err c.in_err-vals.field-0.0)) c.from.ensures c.in_err-vals.ensures))

pub read_fixed-read_items-requires : goal.read_fixed-read_items-requires
read_fixed-read_items-requires g t c κs within =
    let d = ap depth (fixed_type (g.V.Type.WasmType.tree c.args.ty.now) (g.V.Type.WasmType.tree c.in-Some.element.now) c.in-Some-list_length.length c.requires c.in-Some.ensures c.in-Some-list_length.ensures) in
    (omega (arith, d), within)

pub read_fixed-make_list_unchecked-requires : goal.read_fixed-make_list_unchecked-requires
read_fixed-make_list_unchecked-requires g t c =
    fixed_typed g.V.WasmValue.tree g.V.WasmValue.is_of g.V.WasmValue.is_full g.met.V.WasmValue.full_parts (g.V.Type.WasmType.tree c.args.ty.now) (g.V.Type.WasmType.tree c.in-Some.element.now) c.in-Some-list_length.length c.args.bytes.now (c.in_ok-vals.vals, c.in_ok-vals.rest) (fixed_type (g.V.Type.WasmType.tree c.args.ty.now) (g.V.Type.WasmType.tree c.in-Some.element.now) c.in-Some-list_length.length c.requires c.in-Some.ensures c.in-Some-list_length.ensures) (subst (λ (k : ℕ). AreRead g.V.WasmValue.tree g.V.WasmValue.is_of g.V.WasmValue.is_full (g.V.Type.WasmType.tree c.in-Some.element.now) k c.args.bytes.now (Ok (c.in_ok-vals.vals, c.in_ok-vals.rest))) c.from.ensures c.in_ok-vals.ensures)

pub read_fixed-returns : goal.read_fixed-returns
read_fixed-returns g t c =
    fixed_read g.V.WasmValue.tree g.V.WasmValue.is_of g.V.WasmValue.is_full g.met.V.WasmValue.full_parts (g.V.Type.WasmType.tree c.args.ty.now) (g.V.Type.WasmType.tree c.in-Some.element.now) c.in-Some-list_length.length c.args.bytes.now (c.in_ok-vals.vals, c.in_ok-vals.rest) c.make_list_unchecked.result c.built-2.result (fixed_type (g.V.Type.WasmType.tree c.args.ty.now) (g.V.Type.WasmType.tree c.in-Some.element.now) c.in-Some-list_length.length c.requires c.in-Some.ensures c.in-Some-list_length.ensures) (omega arith) (subst (λ (k : ℕ). AreRead g.V.WasmValue.tree g.V.WasmValue.is_of g.V.WasmValue.is_full (g.V.Type.WasmType.tree c.in-Some.element.now) k c.args.bytes.now (Ok (c.in_ok-vals.vals, c.in_ok-vals.rest))) c.from.ensures c.in_ok-vals.ensures) c.built-2.ensures c.make_list_unchecked.ensures.built c.make_list_unchecked.ensures.full

-- ---- so many values

pub read_items-loop-init : goal.read_items-loop-init
read_items-loop-init g t c = λ distinct. (first_front g.V.WasmValue.tree c.new-vals.result.items _ _ c.new-vals.ensures.items (ap (λ (n : ℕ). times (value_at (g.V.Type.WasmType.tree c.args.ty.now)) n c.args.bytes.now) (less_none c.args.count)), subst (AllOf (λ (v : g.row.V.Denot). g.V.WasmValue.is_of v (g.V.Type.WasmType.tree c.args.ty.now))) (sym c.new-vals.ensures.items) tt)

pub read_items-returns-in_err-val : goal.read_items-returns-in_err-val
read_items-returns-in_err-val g t c =
    let p = err_from_is_err_and c.from_residual.result c.from_residual.ensures.1 in
    let T = g.V.Type.WasmType.tree c.args.ty.now in
    rw (p.1, p.2) (λ distinct named.
    fails_of (g.V.WasmValue.is_full T) (g.V.WasmValue.is_full T) c.in_err-val.field-0.0 (value_at T c.loop.rest.now) (times (value_at T) c.args.count c.args.bytes.now) (λ full. full)
    (λ x e. stops_here (map g.V.WasmValue.tree c.loop.vals.items) _ _ x (times_stop (value_at T) c.args.count c.loop.counter c.loop.rest.now x c.loop-test.true e) (c.loop.invariant distinct).0) (c.in_err-val.ensures distinct named))

pub read_items-loop-preserved : goal.read_items-loop-preserved
read_items-loop-preserved g t c = λ distinct.
    let T = g.V.Type.WasmType.tree c.args.ty.now in
    let here = c.in_ok-val.ensures distinct in
    let so_far = c.loop.invariant distinct in
    let e = map_push g.V.WasmValue.tree c.loop.vals.items c.in_ok-val.val in
    let pushed = c.in_ok-push.ensures.items in (
      subst (λ (l : List Value). with_front l (times (value_at T) (c.args.count - (c.loop.counter + 1)) c.in_ok-val.behind.now) ≡ times (value_at T) c.args.count c.args.bytes.now) (sym (ap (map g.V.WasmValue.tree) pushed ∙ e))
          (goes_on (map g.V.WasmValue.tree c.loop.vals.items) (g.V.WasmValue.tree c.in_ok-val.val) _ _ _ (times_step (value_at T) c.args.count c.loop.counter c.loop.rest.now (g.V.WasmValue.tree c.in_ok-val.val) c.in_ok-val.behind.now c.loop-test.true here.0) so_far.0),
      subst (AllOf (λ (v : g.row.V.Denot). g.V.WasmValue.is_of v T)) (sym pushed) (all_push (λ (v : g.row.V.Denot). g.V.WasmValue.is_of v T) c.loop.vals.items c.in_ok-val.val so_far.1 here.1),
    )

pub read_items-returns : goal.read_items-returns
read_items-returns g t c = λ distinct.
    let T = g.V.Type.WasmType.tree c.args.ty.now in
    let so_far = c.loop.invariant distinct in
    (is_done (map g.V.WasmValue.tree c.loop.vals.items) c.loop.rest.now _ _ (times_end (value_at T) c.args.count c.loop.counter c.loop.rest.now c.loop-test.false) so_far.0, so_far.1)

pub read_items-read_value-requires : goal.read_items-read_value-requires
read_items-read_value-requires g t c κs within = (omega arith, within)

-- ---- tuples

pub read_tuple-returns-in_err-rest : goal.read_tuple-returns-in_err-rest
read_tuple-returns-in_err-rest g t c =
    let p = err_from_is_err_and c.from_residual-in_err-rest.result c.from_residual-in_err-rest.ensures.1 in
    rw (p.1, p.2) (none_tuple_stopped g.V.WasmValue.tree g.V.WasmValue.is_of g.V.WasmValue.is_full g.met.V.WasmValue.full_parts (g.V.Type.WasmType.tree c.args.ty.now) (denoted_all g.V.Type.WasmType.tree c.in_ok-types.types.items) c.args.bytes.now c.in_err-rest.field-0.0 (tuple_type (g.V.Type.WasmType.tree c.args.ty.now) (denoted_all g.V.Type.WasmType.tree c.in_ok-types.types.items) c.requires c.in_ok-types.ensures) (ap (denoted_all g.V.Type.WasmType.tree) (nil_from_length c.in_ok-types.types.items (sym c.in_ok-types.types.ok.0 ∙ zero_of _ (sym c.is_empty.ensures ∙ c.if-is_empty.true)))) c.in_err-rest.ensures)

pub read_tuple-returns-then-is_empty : goal.read_tuple-returns-then-is_empty
read_tuple-returns-then-is_empty g t c =
    let none = ap (denoted_all g.V.Type.WasmType.tree) (nil_from_length c.in_ok-types.types.items (sym c.in_ok-types.types.ok.0 ∙ zero_of _ (sym c.is_empty.ensures ∙ c.if-is_empty.true))) in
    none_tuple_read g.V.WasmValue.tree g.V.WasmValue.is_of g.V.WasmValue.is_full g.met.V.WasmValue.full_parts (g.V.Type.WasmType.tree c.args.ty.now) (denoted_all g.V.Type.WasmType.tree c.in_ok-types.types.items) c.args.bytes.now c.in_ok-rest.rest.now c.new.result.items c.make_tuple.result c.built.result (tuple_type (g.V.Type.WasmType.tree c.args.ty.now) (denoted_all g.V.Type.WasmType.tree c.in_ok-types.types.items) c.requires c.in_ok-types.ensures) none c.in_ok-rest.ensures c.new.ensures.items c.built.ensures c.make_tuple.ensures.built c.make_tuple.ensures.full

pub read_tuple-returns-in_err-vals : goal.read_tuple-returns-in_err-vals
read_tuple-returns-in_err-vals g t c =
    let one = some_of _ (sym c.is_empty.ensures ∙ c.if-is_empty.false) in
    let some : 1 ≤ length (denoted_all g.V.Type.WasmType.tree c.deref.result.now) = omega (arith, one, length-map c.deref.result.now (λ (x : Bor g.row.V-Type.Denot). g.V.Type.WasmType.tree x.now), ap length c.deref.ensures.value, c.in_ok-types.types.ok.0) in
    let p = err_from_is_err_and c.from_residual-in_err-vals.result c.from_residual-in_err-vals.ensures.1 in
    rw (p.1, p.2) (tuple_stopped g.V.WasmValue.tree g.V.WasmValue.is_of g.V.WasmValue.is_full g.met.V.WasmValue.full_parts (g.V.Type.WasmType.tree c.args.ty.now) (denoted_all g.V.Type.WasmType.tree c.deref.result.now) c.args.bytes.now c.in_err-vals.field-0.0 (tuple_type (g.V.Type.WasmType.tree c.args.ty.now) (denoted_all g.V.Type.WasmType.tree c.deref.result.now) c.requires (ap (denoted_all g.V.Type.WasmType.tree) c.deref.ensures.value ∙ c.in_ok-types.ensures)) some c.in_err-vals.ensures)

pub read_tuple-read_each-requires : goal.read_tuple-read_each-requires
read_tuple-read_each-requires g t c κs within =
    let is = tuple_type (g.V.Type.WasmType.tree c.args.ty.now) (denoted_all g.V.Type.WasmType.tree c.deref.result.now) c.requires (ap (denoted_all g.V.Type.WasmType.tree) c.deref.ensures.value ∙ c.in_ok-types.ensures) in
    let d = ap depth is.is ∙ ap suc (types_depth is.types ∙ ap (depths depth) (sym is.parts_are)) in
    (omega (arith, d), within)

pub read_tuple-make_tuple_unchecked-requires : goal.read_tuple-make_tuple_unchecked-requires
read_tuple-make_tuple_unchecked-requires g t c =
    tuple_typed g.V.WasmValue.tree g.V.WasmValue.is_of g.V.WasmValue.is_full g.met.V.WasmValue.full_parts (g.V.Type.WasmType.tree c.args.ty.now) (denoted_all g.V.Type.WasmType.tree c.deref.result.now) c.args.bytes.now (c.in_ok-vals.vals, c.in_ok-vals.rest) (tuple_type (g.V.Type.WasmType.tree c.args.ty.now) (denoted_all g.V.Type.WasmType.tree c.deref.result.now) c.requires (ap (denoted_all g.V.Type.WasmType.tree) c.deref.ensures.value ∙ c.in_ok-types.ensures)) c.in_ok-vals.ensures

pub read_tuple-returns : goal.read_tuple-returns
read_tuple-returns g t c =
    let one = some_of _ (sym c.is_empty.ensures ∙ c.if-is_empty.false) in
    let some : 1 ≤ length (denoted_all g.V.Type.WasmType.tree c.deref.result.now) = omega (arith, one, length-map c.deref.result.now (λ (x : Bor g.row.V-Type.Denot). g.V.Type.WasmType.tree x.now), ap length c.deref.ensures.value, c.in_ok-types.types.ok.0) in
    tuple_read g.V.WasmValue.tree g.V.WasmValue.is_of g.V.WasmValue.is_full g.met.V.WasmValue.full_parts (g.V.Type.WasmType.tree c.args.ty.now) (denoted_all g.V.Type.WasmType.tree c.deref.result.now) c.args.bytes.now (c.in_ok-vals.vals, c.in_ok-vals.rest) c.make_tuple_unchecked.result c.built-2.result (tuple_type (g.V.Type.WasmType.tree c.args.ty.now) (denoted_all g.V.Type.WasmType.tree c.deref.result.now) c.requires (ap (denoted_all g.V.Type.WasmType.tree) c.deref.ensures.value ∙ c.in_ok-types.ensures)) some c.in_ok-vals.ensures c.built-2.ensures c.make_tuple_unchecked.ensures.built c.make_tuple_unchecked.ensures.full

pub read_each-loop-ty-init : goal.read_each-loop-ty-init
read_each-loop-ty-init g t c = λ distinct.
    let empty = c.new-vals.ensures.items in (
      first_front g.V.WasmValue.tree c.new-vals.result.items _ _ empty refl,
      subst (Completes g.V.WasmValue.is_of (λ (x : Bor g.row.V-Type.Denot). g.V.Type.WasmType.tree x.now) c.args.types.now c.args.types.now) (sym empty) (completes_none g.V.WasmValue.is_of (λ (x : Bor g.row.V-Type.Denot). g.V.Type.WasmType.tree x.now) c.args.types.now),
    )

pub read_each-read_value-requires : goal.read_each-read_value-requires
read_each-read_value-requires g t c κs within =
    let f : Bor g.row.V-Type.Denot → TypeTree = λ x. g.V.Type.WasmType.tree x.now in
    let h = part_depth depth f c.args.types.now c.args.types.now c.loop-ty.ty-index c.ty-item.result refl c.loop-ty-test.true c.ty-item.is in
    (omega (arith, h), within)

pub read_each-returns-in_err-val : goal.read_each-returns-in_err-val
read_each-returns-in_err-val g t c =
    let p = err_from_is_err_and c.from_residual.result c.from_residual.ensures.1 in
    let f : Bor g.row.V-Type.Denot → TypeTree = λ x. g.V.Type.WasmType.tree x.now in
    let x = c.ty-item.result in
    let i = c.loop-ty.ty-index in
    let xs = c.args.types.now in
    rw (p.1, p.2) (λ distinct named.
    fails_of (g.V.WasmValue.is_full (f x)) (AllOf g.V.WasmValue.is_full (map f xs)) c.in_err-val.field-0.0 (value_at (f x) c.loop-ty.rest.now) (each_at (map f xs) c.args.bytes.now) (λ full. all_shown g.V.WasmValue.is_full f xs i x c.loop-ty-test.true c.ty-item.is full)
    (λ y e. stops_here (map g.V.WasmValue.tree c.loop-ty.vals.items) _ _ y (each_stop f xs i x c.loop-ty-test.true c.ty-item.is c.loop-ty.rest.now y e) (c.loop-ty.invariant distinct).0)
    (c.in_err-val.ensures (all_shown HasDistinctNames f xs i x c.loop-ty-test.true c.ty-item.is distinct) (all_shown HasTextNames f xs i x c.loop-ty-test.true c.ty-item.is named)))

pub read_each-loop-ty-preserved : goal.read_each-loop-ty-preserved
read_each-loop-ty-preserved g t c = λ distinct.
    let f : Bor g.row.V-Type.Denot → TypeTree = λ x. g.V.Type.WasmType.tree x.now in
    let x = c.ty-item.result in
    let i = c.loop-ty.ty-index in
    let xs = c.args.types.now in
    let here = c.in_ok-val.ensures (all_shown HasDistinctNames f xs i x c.loop-ty-test.true c.ty-item.is distinct) in
    let so_far = c.loop-ty.invariant distinct in
    let e = map_push g.V.WasmValue.tree c.loop-ty.vals.items c.in_ok-val.val in
    let pushed = c.in_ok-push.ensures.items in (
      subst (λ (l : List Value). with_front l (each_at (map f (drop (i + 1) xs)) c.in_ok-val.behind.now) ≡ each_at (map f xs) c.args.bytes.now) (sym (ap (map g.V.WasmValue.tree) pushed ∙ e))
          (goes_on (map g.V.WasmValue.tree c.loop-ty.vals.items) (g.V.WasmValue.tree c.in_ok-val.val) _ _ _ (each_step f xs i x c.loop-ty-test.true c.ty-item.is c.loop-ty.rest.now (g.V.WasmValue.tree c.in_ok-val.val) c.in_ok-val.behind.now here.0) so_far.0),
      subst (Completes g.V.WasmValue.is_of f xs (drop (i + 1) xs)) (sym pushed) (completes_more g.V.WasmValue.is_of f xs i x c.loop-ty.vals.items c.in_ok-val.val c.loop-ty-test.true c.ty-item.is here.1 so_far.1),
    )

pub read_each-returns : goal.read_each-returns
read_each-returns g t c = λ distinct.
    let f : Bor g.row.V-Type.Denot → TypeTree = λ x. g.V.Type.WasmType.tree x.now in
    let so_far = c.loop-ty.invariant distinct in (
      is_done (map g.V.WasmValue.tree c.loop-ty.vals.items) c.loop-ty.rest.now _ _ (each_end f c.args.types.now c.loop-ty.ty-index c.loop-ty.rest.now c.loop-ty-test.false) so_far.0,
      completes_all g.V.WasmValue.is_of f c.args.types.now c.loop-ty.ty-index c.loop-ty.vals.items c.loop-ty-test.false so_far.1,
    )

-- ---- records

pub read_record-returns-in_err-rest : goal.read_record-returns-in_err-rest
read_record-returns-in_err-rest g t c =
    let p = err_from_is_err_and c.from_residual-in_err-rest.result c.from_residual-in_err-rest.ensures.1 in
    rw (p.1, p.2) (none_record_stopped g.V.WasmValue.tree g.V.WasmValue.is_of g.V.WasmValue.is_full g.met.V.WasmValue.full_parts (g.V.Type.WasmType.tree c.args.ty.now) (denoted_fields g.V.Type.WasmType.tree c.in_ok-fields.fields.items) c.args.bytes.now c.in_err-rest.field-0.0 (record_type (g.V.Type.WasmType.tree c.args.ty.now) (denoted_fields g.V.Type.WasmType.tree c.in_ok-fields.fields.items) c.requires c.in_ok-fields.ensures) (ap (denoted_fields g.V.Type.WasmType.tree) (nil_from_length c.in_ok-fields.fields.items (sym c.in_ok-fields.fields.ok.0 ∙ zero_of _ (sym c.is_empty.ensures ∙ c.if-is_empty.true)))) c.in_err-rest.ensures)

pub read_record-returns-then-is_empty : goal.read_record-returns-then-is_empty
read_record-returns-then-is_empty g t c =
    let none = ap (denoted_fields g.V.Type.WasmType.tree) (nil_from_length c.in_ok-fields.fields.items (sym c.in_ok-fields.fields.ok.0 ∙ zero_of _ (sym c.is_empty.ensures ∙ c.if-is_empty.true))) in
    none_record_read g.V.WasmValue.tree g.V.WasmValue.is_of g.V.WasmValue.is_full g.met.V.WasmValue.full_parts (g.V.Type.WasmType.tree c.args.ty.now) (denoted_fields g.V.Type.WasmType.tree c.in_ok-fields.fields.items) c.args.bytes.now c.in_ok-rest.rest.now c.new.result.items c.make_record.result c.built.result (record_type (g.V.Type.WasmType.tree c.args.ty.now) (denoted_fields g.V.Type.WasmType.tree c.in_ok-fields.fields.items) c.requires c.in_ok-fields.ensures) none c.in_ok-rest.ensures c.new.ensures.items c.built.ensures c.make_record.ensures.built c.make_record.ensures.full

pub read_record-returns-in_err-vals : goal.read_record-returns-in_err-vals
read_record-returns-in_err-vals g t c =
    let f : Bor (List ℕ) × Bor g.row.V-Type.Denot → List ℕ × TypeTree = λ x. (x.0.now, g.V.Type.WasmType.tree x.1.now) in
    let one = some_of _ (sym c.is_empty.ensures ∙ c.if-is_empty.false) in
    let some : 1 ≤ length (denoted_fields g.V.Type.WasmType.tree c.deref.result.now) = omega (arith, one, length-map c.deref.result.now f, ap length c.deref.ensures.value, c.in_ok-fields.fields.ok.0) in
    let p = err_from_is_err_and c.from_residual-in_err-vals.result c.from_residual-in_err-vals.ensures.1 in
    rw (p.1, p.2) (fields_stopped g.V.WasmValue.tree g.V.WasmValue.is_of g.V.WasmValue.is_full g.met.V.WasmValue.full_parts (g.V.Type.WasmType.tree c.args.ty.now) (denoted_fields g.V.Type.WasmType.tree c.deref.result.now) c.args.bytes.now c.in_err-vals.field-0.0 (record_type (g.V.Type.WasmType.tree c.args.ty.now) (denoted_fields g.V.Type.WasmType.tree c.deref.result.now) c.requires (ap (denoted_fields g.V.Type.WasmType.tree) c.deref.ensures.value ∙ c.in_ok-fields.ensures)) some c.in_err-vals.ensures)

pub read_record-read_fields-requires : goal.read_record-read_fields-requires
read_record-read_fields-requires g t c κs within =
    let is = record_type (g.V.Type.WasmType.tree c.args.ty.now) (denoted_fields g.V.Type.WasmType.tree c.deref.result.now) c.requires (ap (denoted_fields g.V.Type.WasmType.tree) c.deref.ensures.value ∙ c.in_ok-fields.ensures) in
    let d = ap depth is.is ∙ ap suc (fields_depth is.fields ∙ ap (depths field_depth) (sym is.parts_are)) in
    (omega (arith, d), within)

pub read_record-make_record_unchecked-requires : goal.read_record-make_record_unchecked-requires
read_record-make_record_unchecked-requires g t c =
    record_typed g.V.WasmValue.tree g.V.WasmValue.is_of g.V.WasmValue.is_full g.met.V.WasmValue.full_parts (g.V.Type.WasmType.tree c.args.ty.now) (denoted_fields g.V.Type.WasmType.tree c.deref.result.now) c.args.bytes.now (c.in_ok-vals.vals, c.in_ok-vals.rest) (record_type (g.V.Type.WasmType.tree c.args.ty.now) (denoted_fields g.V.Type.WasmType.tree c.deref.result.now) c.requires (ap (denoted_fields g.V.Type.WasmType.tree) c.deref.ensures.value ∙ c.in_ok-fields.ensures)) c.in_ok-vals.ensures

pub read_record-returns : goal.read_record-returns
read_record-returns g t c =
    let f : Bor (List ℕ) × Bor g.row.V-Type.Denot → List ℕ × TypeTree = λ x. (x.0.now, g.V.Type.WasmType.tree x.1.now) in
    let one = some_of _ (sym c.is_empty.ensures ∙ c.if-is_empty.false) in
    let some : 1 ≤ length (denoted_fields g.V.Type.WasmType.tree c.deref.result.now) = omega (arith, one, length-map c.deref.result.now f, ap length c.deref.ensures.value, c.in_ok-fields.fields.ok.0) in
    record_read g.V.WasmValue.tree g.V.WasmValue.is_of g.V.WasmValue.is_full g.met.V.WasmValue.full_parts (g.V.Type.WasmType.tree c.args.ty.now) (denoted_fields g.V.Type.WasmType.tree c.deref.result.now) c.args.bytes.now (c.in_ok-vals.vals, c.in_ok-vals.rest) c.make_record_unchecked.result c.built-2.result (record_type (g.V.Type.WasmType.tree c.args.ty.now) (denoted_fields g.V.Type.WasmType.tree c.deref.result.now) c.requires (ap (denoted_fields g.V.Type.WasmType.tree) c.deref.ensures.value ∙ c.in_ok-fields.ensures)) some c.in_ok-vals.ensures c.built-2.ensures c.make_record_unchecked.ensures.built c.make_record_unchecked.ensures.full

pub read_fields-loop-field-init : goal.read_fields-loop-field-init
read_fields-loop-field-init g t c = λ distinct.
    let f : Bor (List ℕ) × Bor g.row.V-Type.Denot → List ℕ × TypeTree = λ x. (x.0.now, g.V.Type.WasmType.tree x.1.now) in
    let empty = c.new-vals.ensures.items in (
      first_front (λ (h : Bor (List ℕ) × g.row.V.Denot). (h.0.now, g.V.WasmValue.tree h.1)) c.new-vals.result.items _ _ empty refl,
      subst (CompletesFields g.V.WasmValue.is_of f c.args.fields.now c.args.fields.now) (sym empty) (fields_none g.V.WasmValue.is_of f c.args.fields.now),
    )

pub read_fields-read_value-requires : goal.read_fields-read_value-requires
read_fields-read_value-requires g t c κs within =
    let f : Bor (List ℕ) × Bor g.row.V-Type.Denot → List ℕ × TypeTree = λ x. (x.0.now, g.V.Type.WasmType.tree x.1.now) in
    let x = c.field-item.result in
    let i = c.loop-field.field-index in
    let xs = c.args.fields.now in
    let h = part_depth field_depth f xs xs i x refl c.loop-field-test.true c.field-item.is in
    (omega (arith, h), within)

pub read_fields-returns-in_err-val : goal.read_fields-returns-in_err-val
read_fields-returns-in_err-val g t c =
    let p = err_from_is_err_and c.from_residual.result c.from_residual.ensures.1 in
    let f : Bor (List ℕ) × Bor g.row.V-Type.Denot → List ℕ × TypeTree = λ x. (x.0.now, g.V.Type.WasmType.tree x.1.now) in
    let x = c.field-item.result in
    let i = c.loop-field.field-index in
    let xs = c.args.fields.now in
    rw (p.1, p.2) (λ distinct named.
    fails_of (g.V.WasmValue.is_full (f x).1) (AllOf (λ (y : List ℕ × TypeTree). g.V.WasmValue.is_full y.1) (map f xs)) c.in_err-val.field-0.0 (value_at (f x).1 c.loop-field.rest.now) (each_field_at (map f xs) c.args.bytes.now) (λ full. all_shown (λ (y : List ℕ × TypeTree). g.V.WasmValue.is_full y.1) f xs i x c.loop-field-test.true c.field-item.is full)
    (λ y e. stops_here (field_trees g.V.WasmValue.tree c.loop-field.vals.items) _ _ y (field_stop f xs i x c.loop-field-test.true c.field-item.is c.loop-field.rest.now y e) (c.loop-field.invariant distinct).0)
    (c.in_err-val.ensures (all_shown (λ (y : List ℕ × TypeTree). HasDistinctNames y.1) f xs i x c.loop-field-test.true c.field-item.is distinct) (all_shown (λ (y : List ℕ × TypeTree). HasTextNames y.1) f xs i x c.loop-field-test.true c.field-item.is named)))

pub read_fields-loop-field-preserved : goal.read_fields-loop-field-preserved
read_fields-loop-field-preserved g t c = λ distinct.
    let f : Bor (List ℕ) × Bor g.row.V-Type.Denot → List ℕ × TypeTree = λ x. (x.0.now, g.V.Type.WasmType.tree x.1.now) in
    let x = c.field-item.result in
    let i = c.loop-field.field-index in
    let xs = c.args.fields.now in
    let here = c.in_ok-val.ensures (all_shown (λ (y : List ℕ × TypeTree). HasDistinctNames y.1) f xs i x c.loop-field-test.true c.field-item.is distinct) in
    let so_far = c.loop-field.invariant distinct in
    let one : Bor (List ℕ) × g.row.V.Denot = (x.0, c.in_ok-val.val) in
    let e = fields_push g.V.WasmValue.tree c.loop-field.vals.items one in
    let pushed = c.in_ok-push.ensures.items in (
      subst (λ (l : List (List ℕ × Value)). with_front l (each_field_at (map f (drop (i + 1) xs)) c.in_ok-val.behind.now) ≡ each_field_at (map f xs) c.args.bytes.now) (sym (ap (field_trees g.V.WasmValue.tree) pushed ∙ e))
          (goes_on (field_trees g.V.WasmValue.tree c.loop-field.vals.items) (x.0.now, g.V.WasmValue.tree c.in_ok-val.val) _ _ _ (field_step f xs i x c.loop-field-test.true c.field-item.is c.loop-field.rest.now (g.V.WasmValue.tree c.in_ok-val.val) c.in_ok-val.behind.now here.0) so_far.0),
      subst (CompletesFields g.V.WasmValue.is_of f xs (drop (i + 1) xs)) (sym pushed) (fields_more g.V.WasmValue.is_of f xs i x c.loop-field.vals.items one c.loop-field-test.true c.field-item.is refl here.1 so_far.1),
    )

pub read_fields-returns : goal.read_fields-returns
read_fields-returns g t c = λ distinct.
    let f : Bor (List ℕ) × Bor g.row.V-Type.Denot → List ℕ × TypeTree = λ x. (x.0.now, g.V.Type.WasmType.tree x.1.now) in
    let so_far = c.loop-field.invariant distinct in (
      is_done (field_trees g.V.WasmValue.tree c.loop-field.vals.items) c.loop-field.rest.now _ _ (fields_end f c.args.fields.now c.loop-field.field-index c.loop-field.rest.now c.loop-field-test.false) so_far.0,
      fields_all g.V.WasmValue.is_of f c.args.fields.now c.loop-field.field-index c.loop-field.vals.items c.loop-field-test.false so_far.1,
    )

-- ---- variants

pub read_variant-returns-in_err-name : goal.read_variant-returns-in_err-name
read_variant-returns-in_err-name g t c =
    let p = err_from_is_err_and c.from_residual.result c.from_residual.ensures.1 in
    let is = formed_as kinds.Variant (g.V.Type.WasmType.tree c.args.ty.now) (sym c.requires) in
    rw (p.1, p.2) (name_stopped g.V.WasmValue.tree g.V.WasmValue.is_of g.V.WasmValue.is_full g.met.V.WasmValue.full_parts (g.V.Type.WasmType.tree c.args.ty.now) is.0 c.args.bytes.now c.in_err-name.field-0.0 is.1 c.in_err-name.ensures)

pub read_variant-returns-in_default : goal.read_variant-returns-in_default
read_variant-returns-in_default g t c =
    let is = formed_as kinds.Variant (g.V.Type.WasmType.tree c.args.ty.now) (sym c.requires) in
    case_no_text g.V.WasmValue.tree g.V.WasmValue.is_of g.V.WasmValue.is_full g.met.V.WasmValue.full_parts (g.V.Type.WasmType.tree c.args.ty.now) is.0 c.args.bytes.now c.in_ok-name.name.now c.in_ok-name.rest.now is.1 c.in_ok-name.ensures c.in_default.ensures.cases.0

pub read_variant-returns-in_err-expected : goal.read_variant-returns-in_err-expected
read_variant-returns-in_err-expected g t c =
    let p = err_from_is_err_and c.from_residual-in_err-expected.result c.from_residual-in_err-expected.ensures.1 in
    rw (p.1, p.2) (λ distinct named. tt)

pub read_variant-returns-in_default-2 : goal.read_variant-returns-in_default-2
read_variant-returns-in_default-2 g t c =
    let is = formed_as kinds.Variant (g.V.Type.WasmType.tree c.args.ty.now) (sym c.requires) in
    let name = c.in-Ok.name.now in
    let reads = c.in_ok-name.ensures ∙ ap (λ (n : List ℕ). read_as n c.in_ok-name.rest.now) (sym c.in-Ok.ensures.cases.0) in
    case_unknown g.V.WasmValue.tree g.V.WasmValue.is_of g.V.WasmValue.is_full g.met.V.WasmValue.full_parts (g.V.Type.WasmType.tree c.args.ty.now) is.0 c.args.bytes.now name c.in_ok-name.rest.now is.1 reads (ap (option_map (denoted_case g.V.Type.WasmType.tree)) (sym c.in_default-2.is) ∙ (c.in_ok-expected.ensures ∙ ap (λ (U : TypeTree). find (has_name name) (variant_parts U)) is.1))

pub read_variant-returns-in_err-payload : goal.read_variant-returns-in_err-payload
read_variant-returns-in_err-payload g t c =
    let p = err_from_is_err_and c.from_residual-in_err-payload.result c.from_residual-in_err-payload.ensures.1 in
    let is = formed_as kinds.Variant (g.V.Type.WasmType.tree c.args.ty.now) (sym c.requires) in
    let name = c.in-Ok.name.now in
    let reads = c.in_ok-name.ensures ∙ ap (λ (n : List ℕ). read_as n c.in_ok-name.rest.now) (sym c.in-Ok.ensures.cases.0) in
    let found = found_case g.V.WasmValue.is_full is.0 name (denoted_case g.V.Type.WasmType.tree (c.in-Some.field-0-0, c.in-Some.expected)) (ap (option_map (denoted_case g.V.Type.WasmType.tree)) (sym c.in-Some.is) ∙ (c.in_ok-expected.ensures ∙ ap (λ (U : TypeTree). find (has_name name) (variant_parts U)) is.1)) in
    let E = denoted g.V.Type.WasmType.tree c.in-Some.expected in
    rw (p.1, p.2) (case_stopped g.V.WasmValue.tree g.V.WasmValue.is_of g.V.WasmValue.is_full g.met.V.WasmValue.full_parts (g.V.Type.WasmType.tree c.args.ty.now) is.0 c.args.bytes.now name c.in_ok-name.rest.now E c.in_err-payload.field-0.0 is.1 reads found c.in_err-payload.ensures)

pub read_variant-read_payload-requires : goal.read_variant-read_payload-requires
read_variant-read_payload-requires g t c κs within =
    let is = formed_as kinds.Variant (g.V.Type.WasmType.tree c.args.ty.now) (sym c.requires) in
    let name = c.in-Ok.name.now in
    let h = case_depth is.0 name (denoted_case g.V.Type.WasmType.tree (c.in-Some.field-0-0, c.in-Some.expected)) (ap (option_map (denoted_case g.V.Type.WasmType.tree)) (sym c.in-Some.is) ∙ (c.in_ok-expected.ensures ∙ ap (λ (U : TypeTree). find (has_name name) (variant_parts U)) is.1)) in
    let d = ap depth is.1 in
    (omega (arith, h, d), within)

pub read_variant-make_variant_unchecked-requires : goal.read_variant-make_variant_unchecked-requires
read_variant-make_variant_unchecked-requires g t c =
    let is = formed_as kinds.Variant (g.V.Type.WasmType.tree c.args.ty.now) (sym c.requires) in
    let name = c.in-Ok.name.now in
    let reads = c.in_ok-name.ensures ∙ ap (λ (n : List ℕ). read_as n c.in_ok-name.rest.now) (sym c.in-Ok.ensures.cases.0) in
    let found = found_case g.V.WasmValue.is_full is.0 name (denoted_case g.V.Type.WasmType.tree (c.in-Some.field-0-0, c.in-Some.expected)) (ap (option_map (denoted_case g.V.Type.WasmType.tree)) (sym c.in-Some.is) ∙ (c.in_ok-expected.ensures ∙ ap (λ (U : TypeTree). find (has_name name) (variant_parts U)) is.1)) in
    let E = denoted g.V.Type.WasmType.tree c.in-Some.expected in
    case_typed g.V.WasmValue.tree g.V.WasmValue.is_of g.V.WasmValue.is_full g.met.V.WasmValue.full_parts (g.V.Type.WasmType.tree c.args.ty.now) is.0 name c.in_ok-name.rest.now E (c.in_ok-payload.payload, c.in_ok-payload.rest) is.1 found c.in_ok-payload.ensures

pub read_variant-returns : goal.read_variant-returns
read_variant-returns g t c =
    let is = formed_as kinds.Variant (g.V.Type.WasmType.tree c.args.ty.now) (sym c.requires) in
    let name = c.in-Ok.name.now in
    let reads = c.in_ok-name.ensures ∙ ap (λ (n : List ℕ). read_as n c.in_ok-name.rest.now) (sym c.in-Ok.ensures.cases.0) in
    let found = found_case g.V.WasmValue.is_full is.0 name (denoted_case g.V.Type.WasmType.tree (c.in-Some.field-0-0, c.in-Some.expected)) (ap (option_map (denoted_case g.V.Type.WasmType.tree)) (sym c.in-Some.is) ∙ (c.in_ok-expected.ensures ∙ ap (λ (U : TypeTree). find (has_name name) (variant_parts U)) is.1)) in
    let E = denoted g.V.Type.WasmType.tree c.in-Some.expected in
    case_read g.V.WasmValue.tree g.V.WasmValue.is_of g.V.WasmValue.is_full g.met.V.WasmValue.full_parts (g.V.Type.WasmType.tree c.args.ty.now) is.0 c.args.bytes.now name c.in_ok-name.rest.now E (c.in_ok-payload.payload, c.in_ok-payload.rest) c.make_variant_unchecked.result c.built.result is.1 reads found c.in_ok-payload.ensures c.built.ensures c.make_variant_unchecked.ensures.built c.make_variant_unchecked.ensures.full

-- ---- payloads, options, results

pub read_payload-returns-in_err-val-in-Some : goal.read_payload-returns-in_err-val-in-Some
read_payload-returns-in_err-val-in-Some g t c =
    let p = err_from_is_err_and c.from_residual.result c.from_residual.ensures.1 in
    rw (p.1, p.2) (payload_err g.V.WasmValue.tree g.V.WasmValue.is_of g.V.WasmValue.is_full g.met.V.WasmValue.full_parts (denoted g.V.Type.WasmType.tree c.args.expected) (g.V.Type.WasmType.tree c.in-Some.ty.now) c.args.bytes.now c.in_err-val-in-Some.field-0.0 (ap (denoted g.V.Type.WasmType.tree) c.in-Some.is) c.in_err-val-in-Some.ensures)

pub read_option-returns-in_default : goal.read_option-returns-in_default
read_option-returns-in_default g t c = λ distinct named. absurd (option_some (g.V.Type.WasmType.tree c.args.ty.now) c.requires c.in_default.ensures)

pub read_option-returns-in_err-some : goal.read_option-returns-in_err-some
read_option-returns-in_err-some g t c =
    let p = err_from_is_err_and c.from_residual.result c.from_residual.ensures.1 in
    rw (p.1, p.2) (option_stopped g.V.WasmValue.tree g.V.WasmValue.is_of g.V.WasmValue.is_full g.met.V.WasmValue.full_parts (g.V.Type.WasmType.tree c.args.ty.now) (g.V.Type.WasmType.tree c.in-Some.expected.now) c.args.bytes.now c.in_err-some.field-0.0 (option_type (g.V.Type.WasmType.tree c.args.ty.now) (g.V.Type.WasmType.tree c.in-Some.expected.now) c.requires c.in-Some.ensures) c.in_err-some.ensures)

pub read_option-returns-then-not-some : goal.read_option-returns-then-not-some
read_option-returns-then-not-some g t c =
    none_read g.V.WasmValue.tree g.V.WasmValue.is_of g.V.WasmValue.is_full g.met.V.WasmValue.full_parts (g.V.Type.WasmType.tree c.args.ty.now) (g.V.Type.WasmType.tree c.in-Some.expected.now) c.args.bytes.now c.in_ok-some.rest.now c.in_ok-some.some c.make_option.result c.built.result (option_type (g.V.Type.WasmType.tree c.args.ty.now) (g.V.Type.WasmType.tree c.in-Some.expected.now) c.requires c.in-Some.ensures) c.in_ok-some.ensures c.if-not-some.true c.built.ensures c.make_option.ensures.built c.make_option.ensures.full

pub read_option-read_value-requires : goal.read_option-read_value-requires
read_option-read_value-requires g t c κs within =
    let d = ap depth (option_type (g.V.Type.WasmType.tree c.args.ty.now) (g.V.Type.WasmType.tree c.in-Some.expected.now) c.requires c.in-Some.ensures) in
    (omega (arith, d), within)

pub read_option-returns-in_err-val : goal.read_option-returns-in_err-val
read_option-returns-in_err-val g t c =
    let p = err_from_is_err_and c.from_residual-in_err-val.result c.from_residual-in_err-val.ensures.1 in
    rw (p.1, p.2) (payload_stopped g.V.WasmValue.tree g.V.WasmValue.is_of g.V.WasmValue.is_full g.met.V.WasmValue.full_parts (g.V.Type.WasmType.tree c.args.ty.now) (g.V.Type.WasmType.tree c.in-Some.expected.now) c.args.bytes.now c.in_ok-some.rest.now c.in_ok-some.some c.in_err-val.field-0.0 (option_type (g.V.Type.WasmType.tree c.args.ty.now) (g.V.Type.WasmType.tree c.in-Some.expected.now) c.requires c.in-Some.ensures) c.in_ok-some.ensures c.if-not-some.false c.in_err-val.ensures)

pub read_option-make_option_unchecked-requires : goal.read_option-make_option_unchecked-requires
read_option-make_option_unchecked-requires g t c =
    option_typed g.V.WasmValue.tree g.V.WasmValue.is_of g.V.WasmValue.is_full g.met.V.WasmValue.full_parts (g.V.Type.WasmType.tree c.args.ty.now) (g.V.Type.WasmType.tree c.in-Some.expected.now) c.in_ok-some.rest.now (c.in_ok-val.val, c.in_ok-val.rest) (option_type (g.V.Type.WasmType.tree c.args.ty.now) (g.V.Type.WasmType.tree c.in-Some.expected.now) c.requires c.in-Some.ensures) c.in_ok-val.ensures

pub read_option-returns : goal.read_option-returns
read_option-returns g t c =
    some_read g.V.WasmValue.tree g.V.WasmValue.is_of g.V.WasmValue.is_full g.met.V.WasmValue.full_parts (g.V.Type.WasmType.tree c.args.ty.now) (g.V.Type.WasmType.tree c.in-Some.expected.now) c.args.bytes.now c.in_ok-some.rest.now c.in_ok-some.some (c.in_ok-val.val, c.in_ok-val.rest) c.make_option_unchecked.result c.built-2.result (option_type (g.V.Type.WasmType.tree c.args.ty.now) (g.V.Type.WasmType.tree c.in-Some.expected.now) c.requires c.in-Some.ensures) c.in_ok-some.ensures c.if-not-some.false c.in_ok-val.ensures c.built-2.ensures c.make_option_unchecked.ensures.built c.make_option_unchecked.ensures.full

pub read_result-returns-in_default : goal.read_result-returns-in_default
read_result-returns-in_default g t c = λ distinct named. absurd (result_some (g.V.Type.WasmType.tree c.args.ty.now) c.requires c.in_default.ensures)

pub read_result-returns-in_err-is_err : goal.read_result-returns-in_err-is_err
read_result-returns-in_err-is_err g t c =
    let p = err_from_is_err_and c.from_residual.result c.from_residual.ensures.1 in
    rw (p.1, p.2) (result_stopped g.V.WasmValue.tree g.V.WasmValue.is_of g.V.WasmValue.is_full g.met.V.WasmValue.full_parts (g.V.Type.WasmType.tree c.args.ty.now) (denoted g.V.Type.WasmType.tree c.in-Some.ok) (denoted g.V.Type.WasmType.tree c.in-Some.err) c.args.bytes.now c.in_err-is_err.field-0.0 (result_type (g.V.Type.WasmType.tree c.args.ty.now) (denoted g.V.Type.WasmType.tree c.in-Some.ok) (denoted g.V.Type.WasmType.tree c.in-Some.err) c.requires c.in-Some.ensures) c.in_err-is_err.ensures)

pub read_result-returns-in_err-payload : goal.read_result-returns-in_err-payload
read_result-returns-in_err-payload g t c =
    let p = err_from_is_err_and c.from_residual-in_err-payload.result c.from_residual-in_err-payload.ensures.1 in
    rw (p.1, p.2) (err_stopped g.V.WasmValue.tree g.V.WasmValue.is_of g.V.WasmValue.is_full g.met.V.WasmValue.full_parts (g.V.Type.WasmType.tree c.args.ty.now) (denoted g.V.Type.WasmType.tree c.in-Some.ok) (denoted g.V.Type.WasmType.tree c.in-Some.err) c.args.bytes.now c.in_ok-is_err.rest.now c.in_ok-is_err.is_err c.in_err-payload.field-0.0 (result_type (g.V.Type.WasmType.tree c.args.ty.now) (denoted g.V.Type.WasmType.tree c.in-Some.ok) (denoted g.V.Type.WasmType.tree c.in-Some.err) c.requires c.in-Some.ensures) c.in_ok-is_err.ensures c.if-is_err.true c.in_err-payload.ensures)

pub read_result-read_payload-requires : goal.read_result-read_payload-requires
read_result-read_payload-requires g t c κs within =
    let d = ap depth (result_type (g.V.Type.WasmType.tree c.args.ty.now) (denoted g.V.Type.WasmType.tree c.in-Some.ok) (denoted g.V.Type.WasmType.tree c.in-Some.err) c.requires c.in-Some.ensures) in
    (omega (arith, d), within)

pub read_result-read_payload-requires-2 : goal.read_result-read_payload-requires-2
read_result-read_payload-requires-2 g t c κs within =
    let d = ap depth (result_type (g.V.Type.WasmType.tree c.args.ty.now) (denoted g.V.Type.WasmType.tree c.in-Some.ok) (denoted g.V.Type.WasmType.tree c.in-Some.err) c.requires c.in-Some.ensures) in
    (omega (arith, d), within)

pub read_result-make_result_unchecked-requires : goal.read_result-make_result_unchecked-requires
read_result-make_result_unchecked-requires g t c =
    err_typed g.V.WasmValue.tree g.V.WasmValue.is_of g.V.WasmValue.is_full g.met.V.WasmValue.full_parts (g.V.Type.WasmType.tree c.args.ty.now) (denoted g.V.Type.WasmType.tree c.in-Some.ok) (denoted g.V.Type.WasmType.tree c.in-Some.err) c.in_ok-is_err.rest.now (c.in_ok-payload.payload, c.in_ok-payload.rest) (result_type (g.V.Type.WasmType.tree c.args.ty.now) (denoted g.V.Type.WasmType.tree c.in-Some.ok) (denoted g.V.Type.WasmType.tree c.in-Some.err) c.requires c.in-Some.ensures) c.in_ok-payload.ensures

pub read_result-returns-then-is_err : goal.read_result-returns-then-is_err
read_result-returns-then-is_err g t c =
    err_read g.V.WasmValue.tree g.V.WasmValue.is_of g.V.WasmValue.is_full g.met.V.WasmValue.full_parts (g.V.Type.WasmType.tree c.args.ty.now) (denoted g.V.Type.WasmType.tree c.in-Some.ok) (denoted g.V.Type.WasmType.tree c.in-Some.err) c.args.bytes.now c.in_ok-is_err.rest.now c.in_ok-is_err.is_err (c.in_ok-payload.payload, c.in_ok-payload.rest) c.make_result_unchecked.result c.built.result (result_type (g.V.Type.WasmType.tree c.args.ty.now) (denoted g.V.Type.WasmType.tree c.in-Some.ok) (denoted g.V.Type.WasmType.tree c.in-Some.err) c.requires c.in-Some.ensures) c.in_ok-is_err.ensures c.if-is_err.true c.in_ok-payload.ensures c.built.ensures c.make_result_unchecked.ensures.built c.make_result_unchecked.ensures.full

pub read_result-returns-in_err-payload-2 : goal.read_result-returns-in_err-payload-2
read_result-returns-in_err-payload-2 g t c =
    let p = err_from_is_err_and c.from_residual-in_err-payload-2.result c.from_residual-in_err-payload-2.ensures.1 in
    rw (p.1, p.2) (ok_stopped g.V.WasmValue.tree g.V.WasmValue.is_of g.V.WasmValue.is_full g.met.V.WasmValue.full_parts (g.V.Type.WasmType.tree c.args.ty.now) (denoted g.V.Type.WasmType.tree c.in-Some.ok) (denoted g.V.Type.WasmType.tree c.in-Some.err) c.args.bytes.now c.in_ok-is_err.rest.now c.in_ok-is_err.is_err c.in_err-payload-2.field-0.0 (result_type (g.V.Type.WasmType.tree c.args.ty.now) (denoted g.V.Type.WasmType.tree c.in-Some.ok) (denoted g.V.Type.WasmType.tree c.in-Some.err) c.requires c.in-Some.ensures) c.in_ok-is_err.ensures c.if-is_err.false c.in_err-payload-2.ensures)

pub read_result-make_result_unchecked-requires-2 : goal.read_result-make_result_unchecked-requires-2
read_result-make_result_unchecked-requires-2 g t c =
    ok_typed g.V.WasmValue.tree g.V.WasmValue.is_of g.V.WasmValue.is_full g.met.V.WasmValue.full_parts (g.V.Type.WasmType.tree c.args.ty.now) (denoted g.V.Type.WasmType.tree c.in-Some.ok) (denoted g.V.Type.WasmType.tree c.in-Some.err) c.in_ok-is_err.rest.now (c.in_ok-payload-2.payload, c.in_ok-payload-2.rest) (result_type (g.V.Type.WasmType.tree c.args.ty.now) (denoted g.V.Type.WasmType.tree c.in-Some.ok) (denoted g.V.Type.WasmType.tree c.in-Some.err) c.requires c.in-Some.ensures) c.in_ok-payload-2.ensures

pub read_result-returns : goal.read_result-returns
read_result-returns g t c =
    ok_read g.V.WasmValue.tree g.V.WasmValue.is_of g.V.WasmValue.is_full g.met.V.WasmValue.full_parts (g.V.Type.WasmType.tree c.args.ty.now) (denoted g.V.Type.WasmType.tree c.in-Some.ok) (denoted g.V.Type.WasmType.tree c.in-Some.err) c.args.bytes.now c.in_ok-is_err.rest.now c.in_ok-is_err.is_err (c.in_ok-payload-2.payload, c.in_ok-payload-2.rest) c.make_result_unchecked-2.result c.built-2.result (result_type (g.V.Type.WasmType.tree c.args.ty.now) (denoted g.V.Type.WasmType.tree c.in-Some.ok) (denoted g.V.Type.WasmType.tree c.in-Some.err) c.requires c.in-Some.ensures) c.in_ok-is_err.ensures c.if-is_err.false c.in_ok-payload-2.ensures c.built-2.ensures c.make_result_unchecked-2.ensures.built c.make_result_unchecked-2.ensures.full

-- ---- maps

pub read_map-returns-in_default : goal.read_map-returns-in_default
read_map-returns-in_default g t c = λ distinct named. absurd (map_some (g.V.Type.WasmType.tree c.args.ty.now) c.requires c.in_default.ensures)

pub read_map-returns-in_err-count : goal.read_map-returns-in_err-count
read_map-returns-in_err-count g t c =
    let p = err_from_is_err_and c.from_residual.result c.from_residual.ensures.1 in
    rw (p.1, p.2) (map_counted g.V.WasmValue.tree g.V.WasmValue.is_of g.V.WasmValue.is_full g.met.V.WasmValue.full_parts (g.V.Type.WasmType.tree c.args.ty.now) (g.V.Type.WasmType.tree c.in-Some.key.now) (g.V.Type.WasmType.tree c.in-Some.val.now) c.args.bytes.now c.in_err-count.field-0.0 (map_type (g.V.Type.WasmType.tree c.args.ty.now) (g.V.Type.WasmType.tree c.in-Some.key.now) (g.V.Type.WasmType.tree c.in-Some.val.now) c.requires c.in-Some.ensures) c.in_err-count.ensures)

pub read_map-returns-in_err-entries : goal.read_map-returns-in_err-entries
read_map-returns-in_err-entries g t c =
    let p = err_from_is_err_and c.from_residual-in_err-entries.result c.from_residual-in_err-entries.ensures.1 in
    rw (p.1, p.2) (map_stopped g.V.WasmValue.tree g.V.WasmValue.is_of g.V.WasmValue.is_full g.met.V.WasmValue.full_parts (g.V.Type.WasmType.tree c.args.ty.now) (g.V.Type.WasmType.tree c.in-Some.key.now) (g.V.Type.WasmType.tree c.in-Some.val.now) c.args.bytes.now c.in_ok-count.count c.in_ok-count.rest.now c.in_err-entries.field-0.0 (map_type (g.V.Type.WasmType.tree c.args.ty.now) (g.V.Type.WasmType.tree c.in-Some.key.now) (g.V.Type.WasmType.tree c.in-Some.val.now) c.requires c.in-Some.ensures) c.in_ok-count.ensures c.in_err-entries.ensures)

pub read_map-read_entries-requires : goal.read_map-read_entries-requires
read_map-read_entries-requires g t c κs within =
    let is = map_type (g.V.Type.WasmType.tree c.args.ty.now) (g.V.Type.WasmType.tree c.in-Some.key.now) (g.V.Type.WasmType.tree c.in-Some.val.now) c.requires c.in-Some.ensures in
    let d = ap depth is.is in
    let k = ap depth is.key_is in
    (omega (arith, d, k), within)

pub read_map-make_map_unchecked-requires : goal.read_map-make_map_unchecked-requires
read_map-make_map_unchecked-requires g t c =
    map_typed g.V.WasmValue.tree g.V.WasmValue.is_of g.V.WasmValue.is_full g.met.V.WasmValue.full_parts (g.V.Type.WasmType.tree c.args.ty.now) (g.V.Type.WasmType.tree c.in-Some.key.now) (g.V.Type.WasmType.tree c.in-Some.val.now) c.in_ok-count.count c.in_ok-count.rest.now (c.in_ok-entries.entries, c.in_ok-entries.rest) (map_type (g.V.Type.WasmType.tree c.args.ty.now) (g.V.Type.WasmType.tree c.in-Some.key.now) (g.V.Type.WasmType.tree c.in-Some.val.now) c.requires c.in-Some.ensures) c.in_ok-entries.ensures

pub read_map-returns : goal.read_map-returns
read_map-returns g t c =
    map_read g.V.WasmValue.tree g.V.WasmValue.is_of g.V.WasmValue.is_full g.met.V.WasmValue.full_parts (g.V.Type.WasmType.tree c.args.ty.now) (g.V.Type.WasmType.tree c.in-Some.key.now) (g.V.Type.WasmType.tree c.in-Some.val.now) c.args.bytes.now c.in_ok-count.count c.in_ok-count.rest.now (c.in_ok-entries.entries, c.in_ok-entries.rest) c.make_map_unchecked.result c.built.result (map_type (g.V.Type.WasmType.tree c.args.ty.now) (g.V.Type.WasmType.tree c.in-Some.key.now) (g.V.Type.WasmType.tree c.in-Some.val.now) c.requires c.in-Some.ensures) c.in_ok-count.ensures c.in_ok-entries.ensures c.built.ensures c.make_map_unchecked.ensures.built c.make_map_unchecked.ensures.full

pub read_entries-loop-init : goal.read_entries-loop-init
read_entries-loop-init g t c = λ distinct other.
    (first_front (λ (h : g.row.V.Denot × g.row.V.Denot). (g.V.WasmValue.tree h.0, g.V.WasmValue.tree h.1)) c.new-entries.result.items _ _ c.new-entries.ensures.items (ap (λ (n : ℕ). times (pair_at (value_at (g.V.Type.WasmType.tree c.args.key_ty.now)) (value_at (g.V.Type.WasmType.tree c.args.val_ty.now))) n c.args.bytes.now) (less_none c.args.count)), subst (AllOf (λ (e : g.row.V.Denot × g.row.V.Denot). g.V.WasmValue.is_of e.0 (g.V.Type.WasmType.tree c.args.key_ty.now) × g.V.WasmValue.is_of e.1 (g.V.Type.WasmType.tree c.args.val_ty.now))) (sym c.new-entries.ensures.items) tt)

pub read_entries-read_value-requires : goal.read_entries-read_value-requires
read_entries-read_value-requires g t c κs within = (omega arith, within)

pub read_entries-read_value-requires-in-loop : goal.read_entries-read_value-requires-in-loop
read_entries-read_value-requires-in-loop g t c κs within = (omega arith, within)

pub read_entries-returns-in_err-key : goal.read_entries-returns-in_err-key
read_entries-returns-in_err-key g t c =
    let p = err_from_is_err_and c.from_residual.result c.from_residual.ensures.1 in
    rw (p.1, p.2) (λ distinct other named text.
    fails_of (g.V.WasmValue.is_full (g.V.Type.WasmType.tree c.args.key_ty.now)) (g.V.WasmValue.is_full (g.V.Type.WasmType.tree c.args.key_ty.now) × g.V.WasmValue.is_full (g.V.Type.WasmType.tree c.args.val_ty.now)) c.in_err-key.field-0.0 (value_at (g.V.Type.WasmType.tree c.args.key_ty.now) c.loop.rest.now) (times (pair_at (value_at (g.V.Type.WasmType.tree c.args.key_ty.now)) (value_at (g.V.Type.WasmType.tree c.args.val_ty.now))) c.args.count c.args.bytes.now) (λ full. full.0)
    (λ x e. stops_here (entry_trees g.V.WasmValue.tree c.loop.entries.items) _ _ x (times_stop (pair_at (value_at (g.V.Type.WasmType.tree c.args.key_ty.now)) (value_at (g.V.Type.WasmType.tree c.args.val_ty.now))) c.args.count c.loop.counter c.loop.rest.now x c.loop-test.true (stops_at (value_at (g.V.Type.WasmType.tree c.args.key_ty.now) c.loop.rest.now) _ x e)) (c.loop.invariant distinct other).0) (c.in_err-key.ensures distinct named))

pub read_entries-returns-in_err-val : goal.read_entries-returns-in_err-val
read_entries-returns-in_err-val g t c =
    let p = err_from_is_err_and c.from_residual-in_err-val.result c.from_residual-in_err-val.ensures.1 in
    rw (p.1, p.2) (λ distinct other named text.
    fails_of (g.V.WasmValue.is_full (g.V.Type.WasmType.tree c.args.val_ty.now)) (g.V.WasmValue.is_full (g.V.Type.WasmType.tree c.args.key_ty.now) × g.V.WasmValue.is_full (g.V.Type.WasmType.tree c.args.val_ty.now)) c.in_err-val.field-0.0 (value_at (g.V.Type.WasmType.tree c.args.val_ty.now) c.in_ok-key.behind.now) (times (pair_at (value_at (g.V.Type.WasmType.tree c.args.key_ty.now)) (value_at (g.V.Type.WasmType.tree c.args.val_ty.now))) c.args.count c.args.bytes.now) (λ full. full.1)
    (λ x e. stops_here (entry_trees g.V.WasmValue.tree c.loop.entries.items) _ _ x (times_stop (pair_at (value_at (g.V.Type.WasmType.tree c.args.key_ty.now)) (value_at (g.V.Type.WasmType.tree c.args.val_ty.now))) c.args.count c.loop.counter c.loop.rest.now x c.loop-test.true (second_stop (g.V.Type.WasmType.tree c.args.key_ty.now) (g.V.Type.WasmType.tree c.args.val_ty.now) c.loop.rest.now _ _ x (c.in_ok-key.ensures distinct).0 e)) (c.loop.invariant distinct other).0) (c.in_err-val.ensures other text))

pub read_entries-loop-preserved : goal.read_entries-loop-preserved
read_entries-loop-preserved g t c = λ distinct other.
    let key = c.in_ok-key.ensures distinct in
    let val = c.in_ok-val.ensures other in
    let so_far = c.loop.invariant distinct other in
    let one : g.row.V.Denot × g.row.V.Denot = (c.in_ok-key.key, c.in_ok-val.val) in
    let e = entries_push g.V.WasmValue.tree c.loop.entries.items one in
    let pushed = c.in_ok-push.ensures.items in (
      subst (λ (l : List (Value × Value)). with_front l (times (pair_at (value_at (g.V.Type.WasmType.tree c.args.key_ty.now)) (value_at (g.V.Type.WasmType.tree c.args.val_ty.now))) (c.args.count - (c.loop.counter + 1)) c.in_ok-val.behind.now) ≡ times (pair_at (value_at (g.V.Type.WasmType.tree c.args.key_ty.now)) (value_at (g.V.Type.WasmType.tree c.args.val_ty.now))) c.args.count c.args.bytes.now) (sym (ap (entry_trees g.V.WasmValue.tree) pushed ∙ e))
          (goes_on (entry_trees g.V.WasmValue.tree c.loop.entries.items) (g.V.WasmValue.tree c.in_ok-key.key, g.V.WasmValue.tree c.in_ok-val.val) _ _ _ (times_step (pair_at (value_at (g.V.Type.WasmType.tree c.args.key_ty.now)) (value_at (g.V.Type.WasmType.tree c.args.val_ty.now))) c.args.count c.loop.counter c.loop.rest.now _ c.in_ok-val.behind.now c.loop-test.true (pair_read (g.V.Type.WasmType.tree c.args.key_ty.now) (g.V.Type.WasmType.tree c.args.val_ty.now) c.loop.rest.now _ _ _ _ key.0 val.0)) so_far.0),
      subst (AllOf (λ (p : g.row.V.Denot × g.row.V.Denot). g.V.WasmValue.is_of p.0 (g.V.Type.WasmType.tree c.args.key_ty.now) × g.V.WasmValue.is_of p.1 (g.V.Type.WasmType.tree c.args.val_ty.now))) (sym pushed) (all_push (λ (p : g.row.V.Denot × g.row.V.Denot). g.V.WasmValue.is_of p.0 (g.V.Type.WasmType.tree c.args.key_ty.now) × g.V.WasmValue.is_of p.1 (g.V.Type.WasmType.tree c.args.val_ty.now)) c.loop.entries.items one so_far.1 (key.1, val.1)),
    )

pub read_entries-returns : goal.read_entries-returns
read_entries-returns g t c = λ distinct other.
    let so_far = c.loop.invariant distinct other in
    (is_done (entry_trees g.V.WasmValue.tree c.loop.entries.items) c.loop.rest.now _ _ (times_end (pair_at (value_at (g.V.Type.WasmType.tree c.args.key_ty.now)) (value_at (g.V.Type.WasmType.tree c.args.val_ty.now))) c.args.count c.loop.counter c.loop.rest.now c.loop-test.false) so_far.0, so_far.1)

-- ---- by kind

pub read_value-returns-in-List : goal.read_value-returns-in-List
read_value-returns-in-List g t c = c.read_list.ensures

pub read_value-read_list-requires : goal.read_value-read_list-requires
read_value-read_list-requires g t c κs within = (omega arith, (within.0, (within.1, sym c.kind-kind.ensures ∙ c.in-List.is)))

pub read_value-returns-in-FixedLengthList : goal.read_value-returns-in-FixedLengthList
read_value-returns-in-FixedLengthList g t c = c.read_fixed.ensures

pub read_value-read_fixed-requires : goal.read_value-read_fixed-requires
read_value-read_fixed-requires g t c κs within = (omega arith, (within.0, (within.1, sym c.kind-kind.ensures ∙ c.in-FixedLengthList.is)))

pub read_value-returns-in-Tuple : goal.read_value-returns-in-Tuple
read_value-returns-in-Tuple g t c = c.read_tuple.ensures

pub read_value-read_tuple-requires : goal.read_value-read_tuple-requires
read_value-read_tuple-requires g t c κs within = (omega arith, (within.0, (within.1, sym c.kind-kind.ensures ∙ c.in-Tuple.is)))

pub read_value-returns-in-Record : goal.read_value-returns-in-Record
read_value-returns-in-Record g t c = c.read_record.ensures

pub read_value-read_record-requires : goal.read_value-read_record-requires
read_value-read_record-requires g t c κs within = (omega arith, (within.0, (within.1, sym c.kind-kind.ensures ∙ c.in-Record.is)))

pub read_value-returns-in-Variant : goal.read_value-returns-in-Variant
read_value-returns-in-Variant g t c = c.read_variant.ensures

pub read_value-read_variant-requires : goal.read_value-read_variant-requires
read_value-read_variant-requires g t c κs within = (omega arith, (within.0, (within.1, sym c.kind-kind.ensures ∙ c.in-Variant.is)))

pub read_value-returns-in-Option : goal.read_value-returns-in-Option
read_value-returns-in-Option g t c = c.read_option.ensures

pub read_value-read_option-requires : goal.read_value-read_option-requires
read_value-read_option-requires g t c κs within = (omega arith, (within.0, (within.1, sym c.kind-kind.ensures ∙ c.in-Option.is)))

pub read_value-returns-in-Result : goal.read_value-returns-in-Result
read_value-returns-in-Result g t c = c.read_result.ensures

pub read_value-read_result-requires : goal.read_value-read_result-requires
read_value-read_result-requires g t c κs within = (omega arith, (within.0, (within.1, sym c.kind-kind.ensures ∙ c.in-Result.is)))

pub read_value-returns-in-Map : goal.read_value-returns-in-Map
read_value-returns-in-Map g t c = c.read_map.ensures

pub read_value-read_map-requires : goal.read_value-read_map-requires
read_value-read_map-requires g t c κs within = (omega arith, (within.0, (within.1, sym c.kind-kind.ensures ∙ c.in-Map.is)))

pub read_value-returns-in-Enum : goal.read_value-returns-in-Enum
read_value-returns-in-Enum g t c = c.read_enum.ensures

pub read_value-read_enum-requires : goal.read_value-read_enum-requires
read_value-read_enum-requires g t c = sym c.kind-kind.ensures ∙ c.in-Enum.is

pub read_value-returns-in-Flags : goal.read_value-returns-in-Flags
read_value-returns-in-Flags g t c = c.read_flags.ensures

pub read_value-read_flags-requires : goal.read_value-read_flags-requires
read_value-read_flags-requires g t c = sym c.kind-kind.ensures ∙ c.in-Flags.is

pub read_value-returns-in-F32 : goal.read_value-returns-in-F32
read_value-returns-in-F32 g t c = λ distinct named. unreadable_at (g.V.Type.WasmType.tree c.args.ty.now) c.args.bytes.now c.kind-kind.result c.kind-kind.ensures c.in-F32.is

pub read_value-returns-in-Bool : goal.read_value-returns-in-Bool
read_value-returns-in-Bool g t c =
    let is = simple_of_kind (g.V.Type.WasmType.tree c.args.ty.now) c.kind-kind.result c.kind-kind.ensures c.in-Bool.is in
    subst (λ (U : TypeTree). IsRead g.V.WasmValue.tree g.V.WasmValue.is_of g.V.WasmValue.is_full U c.args.bytes.now c.read_leaf.result) (sym is.1) (c.read_leaf.ensures is.0 is.2)

pub read_tuple-returns-in_err-types : goal.read_tuple-returns-in_err-types
read_tuple-returns-in_err-types g t c =
    let p = err_from_is_err_and c.from_residual.result c.from_residual.ensures.1 in
    rw (p.1, p.2) (λ distinct named. tt)

pub read_record-returns-in_err-fields : goal.read_record-returns-in_err-fields
read_record-returns-in_err-fields g t c =
    let p = err_from_is_err_and c.from_residual.result c.from_residual.ensures.1 in
    rw (p.1, p.2) (λ distinct named. tt)

pub read_items-returns-in_err-push : goal.read_items-returns-in_err-push
read_items-returns-in_err-push g t c =
    let p = err_from_is_err_and c.from_residual-in_err-push.result c.from_residual-in_err-push.ensures.1 in
    rw (p.1, p.2) (λ distinct named. tt)

pub read_each-returns-in_err-push : goal.read_each-returns-in_err-push
read_each-returns-in_err-push g t c =
    let p = err_from_is_err_and c.from_residual-in_err-push.result c.from_residual-in_err-push.ensures.1 in
    rw (p.1, p.2) (λ distinct named. tt)

pub read_fields-returns-in_err-push : goal.read_fields-returns-in_err-push
read_fields-returns-in_err-push g t c =
    let p = err_from_is_err_and c.from_residual-in_err-push.result c.from_residual-in_err-push.ensures.1 in
    rw (p.1, p.2) (λ distinct named. tt)

pub read_entries-returns-in_err-push : goal.read_entries-returns-in_err-push
read_entries-returns-in_err-push g t c =
    let p = err_from_is_err_and c.from_residual-in_err-push.result c.from_residual-in_err-push.ensures.1 in
    rw (p.1, p.2) (λ distinct other named text. tt)

pub read_payload-read_value-requires : goal.read_payload-read_value-requires
read_payload-read_value-requires g t c κs within =
    let d = ap (λ o. depth_of_maybe (maybe_type (denoted g.V.Type.WasmType.tree o))) c.in-Some.is in
    (omega (arith, d), within)

pub read_payload-returns-in_ok-val-in-Some : goal.read_payload-returns-in_ok-val-in-Some
read_payload-returns-in_ok-val-in-Some g t c =
    payload_some g.V.WasmValue.tree g.V.WasmValue.is_of g.V.WasmValue.is_full g.met.V.WasmValue.full_parts (denoted g.V.Type.WasmType.tree c.args.expected) (g.V.Type.WasmType.tree c.in-Some.ty.now) c.args.bytes.now (c.in_ok-val-in-Some.val, c.in_ok-val-in-Some.rest) (ap (denoted g.V.Type.WasmType.tree) c.in-Some.is) c.in_ok-val-in-Some.ensures

pub read_payload-returns-in-None : goal.read_payload-returns-in-None
read_payload-returns-in-None g t c =
    payload_none g.V.WasmValue.tree g.V.WasmValue.is_of g.V.WasmValue.is_full g.met.V.WasmValue.full_parts (denoted g.V.Type.WasmType.tree c.args.expected) c.args.bytes (ap (denoted g.V.Type.WasmType.tree) c.in-None.is)
