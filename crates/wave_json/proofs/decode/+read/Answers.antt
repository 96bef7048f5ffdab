use Rattle.std.proofs.Common.{◌≡◌, ◌<◌, ◌+◌, ◌++◌, ◌∷◌, [], ℕ, suc, List, Bor, Option, Some, Ok, Err, Global, length, map, drop, get_or, refl, sym, ap, subst, ◌∙◌, arith}
use Rattle.std.specs.List.{find}
use Rattle.std.specs.Option.{option_map}
use Rattle.std.proofs.lemmas.List.{map_push, length-map}
use Rattle.std.proofs.lemmas.Option.{get_or_from_slice_get}
use Rattle.std.proofs.lemmas.Result.{err_from_is_err_and, IfErr-weaker}
use Rattle.json.specs.Json.{Json}
use Rattle.json.specs.Value.{value_view, items_view, members_view}
use Rattle.json.specs.declared.value.Value as declared
use Rattle.wave_wasm.specs.ConstructorContracts.{IsMemory, MakesLeaf, FullLeaf, entry_trees, field_trees}
use Rattle.wave_wasm.specs.Lists.{AllOf}
use Rattle.wave_wasm.specs.Types as type
use Rattle.wave_wasm.specs.Types.{TypeTree, HasDistinctNames, depth, depth_of_maybe, maybe_type, variant_parts, field_names}
use Rattle.wave_wasm.specs.Text.{text}
use Rattle.wave_wasm.specs.Values as value
use Rattle.wave_wasm.specs.Values.{Value}
use Rattle.wave_wasm.specs.Borrowed.{denoted, denoted_all, denoted_fields, denoted_case}
use Rattle.wave_wasm.specs.declared.wasm.WasmTypeKind.TheVariants as type_kinds
use Rattle.wave_wasm.proofs.CanonicalText.Sequences.{part_depth, depths, item_again}
use Rattle.wave_wasm.proofs.TypesOfValues.TypeOfKind.{formed_as}
use Rattle.wave_json.specs.declared.error.JsonErrorKind.TheVariants as kinds
use Rattle.wave_json.specs.Reading.{Reading, ◌>>=◌, under, item_step, member_step, distinct_members, known_members, field_at, left_out, entries_at, members_at, each_at, leaf_at, pair_at, value_at}
use Rattle.wave_json.specs.Private.Readers.{Fails, HasLength, IsRead, IsReadAs, FieldsAreRead, with_leaf, each_type_at, each_field_at, keyed}
use Rattle.wave_json.proofs.Stops.{here_fails, fails_of, under_fails}
use Rattle.wave_json.proofs.TypeParts.{is_kind, is_other_kind, simple_left, list_type, tuple_type, record_type, result_type, map_type}
use Rattle.wave_json.proofs.Depths.{field_depth, types_depth, fields_depth, case_depth}
use Rattle.wave_json.proofs.Loops.{with_front, Completes, CompletesFields, goes_on, stops_here, is_done, first_front, all_push, all_shown, completes_none, completes_more, completes_all, fields_none, fields_more, fields_all, fields_push, entries_push, types_step, types_stop, types_end, one_field, field_step, field_stop, fields_end, member_next, member_stop, members_end, pair_next, pair_stop, pairs_end, get_same}
use Rattle.wave_json.proofs.Builds.{list_short, list_stopped, list_typed, list_read, tuple_short, tuple_stopped, tuple_typed, tuple_read}
use Rattle.wave_json.proofs.Records.{list_names, field_texts, AreMembers, record_repeated, record_unknown, fields_stopped, record_typed, record_read}
use Rattle.wave_json.proofs.Cases.{none_read, has_name, found_case, case_unknown, case_stopped, case_typed, case_read, ok_stopped, ok_read, err_stopped, err_read}
use Rattle.wave_json.proofs.Entries.{built_ok, unless_repeated, object_entries, no_entries, pairs_entries, distinct_ok, distinct_fault, behind_pairs, pair_other, key_stops, value_stops, pair_read, built_fails, string_entries, other_entries, map_stopped, map_typed, map_read}
use Rattle.wave_json.proofs.decode.+read.Goals as goal

abbrev these : List (Value × Value) → Reading (List (Value × Value))
these es = Ok es

pub read_list-returns-in_err-vals : goal.read_list-returns-in_err-vals
read_list-returns-in_err-vals g t c =
    let p = err_from_is_err_and c.from_residual.result c.from_residual.ensures.1 in
    rw (p.1, p.2) (list_stopped g.V.WasmValue.tree g.V.WasmValue.is_of g.V.WasmValue.is_full g.met.V.WasmValue.full_parts (g.V.Type.WasmType.tree c.args.ty.now) (g.V.Type.WasmType.tree c.in-Some.element.now) (value_view c.args.json.now) c.in-Some-items_of.items.now c.in_err-vals.field-0.0 (list_type (g.V.Type.WasmType.tree c.args.ty.now) (g.V.Type.WasmType.tree c.in-Some.element.now) c.requires c.in-Some.ensures) c.in-Some-items_of.ensures (subst (λ (o : Option ℕ). HasLength o (length c.in-Some-items_of.items.now)) c.list_length.ensures c.if-not-has_length.ensures) c.in_err-vals.ensures)

pub read_list-make_list_unchecked-requires : goal.read_list-make_list_unchecked-requires
read_list-make_list_unchecked-requires g t c =
    list_typed g.V.WasmValue.tree g.V.WasmValue.is_of g.V.WasmValue.is_full g.met.V.WasmValue.full_parts (g.V.Type.WasmType.tree c.args.ty.now) (g.V.Type.WasmType.tree c.in-Some.element.now) c.in-Some-items_of.items.now c.in_ok-vals.vals (list_type (g.V.Type.WasmType.tree c.args.ty.now) (g.V.Type.WasmType.tree c.in-Some.element.now) c.requires c.in-Some.ensures) (subst (λ (o : Option ℕ). HasLength o (length c.in-Some-items_of.items.now)) c.list_length.ensures c.if-not-has_length.ensures) c.in_ok-vals.ensures

pub read_list-returns : goal.read_list-returns
read_list-returns g t c =
    list_read g.V.WasmValue.tree g.V.WasmValue.is_of g.V.WasmValue.is_full g.met.V.WasmValue.full_parts (g.V.Type.WasmType.tree c.args.ty.now) (g.V.Type.WasmType.tree c.in-Some.element.now) (value_view c.args.json.now) c.in-Some-items_of.items.now c.in_ok-vals.vals c.make_list_unchecked.result c.built.result (list_type (g.V.Type.WasmType.tree c.args.ty.now) (g.V.Type.WasmType.tree c.in-Some.element.now) c.requires c.in-Some.ensures) c.in-Some-items_of.ensures (subst (λ (o : Option ℕ). HasLength o (length c.in-Some-items_of.items.now)) c.list_length.ensures c.if-not-has_length.ensures) c.in_ok-vals.ensures c.built.ensures c.make_list_unchecked.ensures.built c.make_list_unchecked.ensures.full

pub read_list-returns-then-not-has_length : goal.read_list-returns-then-not-has_length
read_list-returns-then-not-has_length g t c =
    λ distinct. here_fails (g.V.WasmValue.is_full (g.V.Type.WasmType.tree c.args.ty.now)) kinds.Length c.here-then-not-has_length.result _ c.here-then-not-has_length.ensures (list_short (g.V.Type.WasmType.tree c.args.ty.now) (g.V.Type.WasmType.tree c.in-Some.element.now) (value_view c.args.json.now) c.in-Some-items_of.items.now (list_type (g.V.Type.WasmType.tree c.args.ty.now) (g.V.Type.WasmType.tree c.in-Some.element.now) c.requires c.in-Some.ensures) c.in-Some-items_of.ensures (λ long. c.if-not-has_length.ensures (subst (λ (o : Option ℕ). HasLength o (length c.in-Some-items_of.items.now)) (sym c.list_length.ensures) long)))

pub read_tuple-returns-then-items-len : goal.read_tuple-returns-then-items-len
read_tuple-returns-then-items-len g t c =
    λ distinct.
    let shown = length-map c.in_ok-types.types.items (λ (x : Bor g.row.V-Type.Denot). g.V.Type.WasmType.tree x.now) in
    here_fails (g.V.WasmValue.is_full (g.V.Type.WasmType.tree c.args.ty.now)) kinds.Length c.here-then-items-len.result _ c.here-then-items-len.ensures (tuple_short (g.V.Type.WasmType.tree c.args.ty.now) (denoted_all g.V.Type.WasmType.tree c.in_ok-types.types.items) (value_view c.args.json.now) c.in-Some.items.now (tuple_type (g.V.Type.WasmType.tree c.args.ty.now) (denoted_all g.V.Type.WasmType.tree c.in_ok-types.types.items) c.requires c.in_ok-types.ensures) c.in-Some.ensures (λ same. c.if-items-len.true (omega (arith, same, shown, c.len.ensures, c.in_ok-types.types.ok.0))))

pub read_tuple-read_each-requires : goal.read_tuple-read_each-requires
read_tuple-read_each-requires g t c κs within =
    let is = (tuple_type (g.V.Type.WasmType.tree c.args.ty.now) (denoted_all g.V.Type.WasmType.tree c.deref.result.now) c.requires (ap (denoted_all g.V.Type.WasmType.tree) c.deref.ensures.value ∙ c.in_ok-types.ensures)) in
    let d = ap depth is.is ∙ ap suc (types_depth is.types ∙ ap (depths depth) (sym is.parts_are)) in
    (omega (arith, d), (within.0, (within.1, omega (arith, c.deref.ensures.len, c.if-items-len.false, c.len.ensures))))

pub read_tuple-returns-in_err-vals : goal.read_tuple-returns-in_err-vals
read_tuple-returns-in_err-vals g t c =
    let p = err_from_is_err_and c.from_residual-in_err-vals.result c.from_residual-in_err-vals.ensures.1 in
    rw (p.1, p.2) (tuple_stopped g.V.WasmValue.tree g.V.WasmValue.is_of g.V.WasmValue.is_full g.met.V.WasmValue.full_parts (g.V.Type.WasmType.tree c.args.ty.now) (denoted_all g.V.Type.WasmType.tree c.deref.result.now) (value_view c.args.json.now) c.in-Some.items.now c.in_err-vals.field-0.0 (tuple_type (g.V.Type.WasmType.tree c.args.ty.now) (denoted_all g.V.Type.WasmType.tree c.deref.result.now) c.requires (ap (denoted_all g.V.Type.WasmType.tree) c.deref.ensures.value ∙ c.in_ok-types.ensures)) c.in-Some.ensures (c.if-items-len.false ∙ (c.len.ensures ∙ (sym c.deref.ensures.len ∙ sym (length-map c.deref.result.now (λ (x : Bor g.row.V-Type.Denot). g.V.Type.WasmType.tree x.now))))) c.in_err-vals.ensures)

pub read_tuple-make_tuple_unchecked-requires : goal.read_tuple-make_tuple_unchecked-requires
read_tuple-make_tuple_unchecked-requires g t c =
    tuple_typed g.V.WasmValue.tree g.V.WasmValue.is_of g.V.WasmValue.is_full g.met.V.WasmValue.full_parts (g.V.Type.WasmType.tree c.args.ty.now) (denoted_all g.V.Type.WasmType.tree c.deref.result.now) c.in-Some.items.now c.in_ok-vals.vals (tuple_type (g.V.Type.WasmType.tree c.args.ty.now) (denoted_all g.V.Type.WasmType.tree c.deref.result.now) c.requires (ap (denoted_all g.V.Type.WasmType.tree) c.deref.ensures.value ∙ c.in_ok-types.ensures)) c.in_ok-vals.ensures

pub read_tuple-returns : goal.read_tuple-returns
read_tuple-returns g t c =
    tuple_read g.V.WasmValue.tree g.V.WasmValue.is_of g.V.WasmValue.is_full g.met.V.WasmValue.full_parts (g.V.Type.WasmType.tree c.args.ty.now) (denoted_all g.V.Type.WasmType.tree c.deref.result.now) (value_view c.args.json.now) c.in-Some.items.now c.in_ok-vals.vals c.make_tuple_unchecked.result c.built.result (tuple_type (g.V.Type.WasmType.tree c.args.ty.now) (denoted_all g.V.Type.WasmType.tree c.deref.result.now) c.requires (ap (denoted_all g.V.Type.WasmType.tree) c.deref.ensures.value ∙ c.in_ok-types.ensures)) c.in-Some.ensures (c.if-items-len.false ∙ (c.len.ensures ∙ (sym c.deref.ensures.len ∙ sym (length-map c.deref.result.now (λ (x : Bor g.row.V-Type.Denot). g.V.Type.WasmType.tree x.now))))) c.in_ok-vals.ensures c.built.ensures c.make_tuple_unchecked.ensures.built c.make_tuple_unchecked.ensures.full

pub read_each-loop-i-init : goal.read_each-loop-i-init
read_each-loop-i-init g t c =
    λ distinct.
    let empty = c.new-vals.ensures.items in (
      first_front g.V.WasmValue.tree c.new-vals.result.items _ _ empty refl,
      subst (Completes g.V.WasmValue.is_of (λ (x : Bor g.row.V-Type.Denot). g.V.Type.WasmType.tree x.now) c.args.types.now c.args.types.now) (sym empty) (completes_none g.V.WasmValue.is_of (λ (x : Bor g.row.V-Type.Denot). g.V.Type.WasmType.tree x.now) c.args.types.now),
    )

pub read_each-read_part-requires : goal.read_each-read_part-requires
read_each-read_part-requires g t c κs within =
    let f : Bor g.row.V-Type.Denot → TypeTree = λ x. g.V.Type.WasmType.tree x.now in
    let h = part_depth depth f c.args.types.now c.args.types.now c.loop-i.i c.index-types-i.result refl c.loop-i-test.true c.index-types-i.is in
    (omega (arith, h), within)

pub read_each-returns-in_err-read_part : goal.read_each-returns-in_err-read_part
read_each-returns-in_err-read_part g t c =
    let p = err_from_is_err_and c.from_residual.result c.from_residual.ensures.1 in
    let f : Bor g.row.V-Type.Denot → TypeTree = λ x. g.V.Type.WasmType.tree x.now in
    let xs = c.args.types.now in
    let js = c.args.items.now in
    let i = c.loop-i.i in
    let x = c.index-types-i.result in
    let j = c.index-items-i.result in
    let also : i < length js = omega (arith, c.requires, c.loop-i-test.true) in
    let is = c.index-types-i.is in
    let there = c.index-items-i.is in
    rw (p.1, p.2) (λ distinct.
    fails_of (g.V.WasmValue.is_full (f x)) (AllOf g.V.WasmValue.is_full (map f xs)) c.in_err-read_part.field-0.0 (under (item_step i) (value_at (f x) (value_view j))) (each_type_at (map f xs) 0 (map value_view js)) (λ full. all_shown g.V.WasmValue.is_full f xs i x c.loop-i-test.true is full)
    (λ y e. stops_here (map g.V.WasmValue.tree c.loop-i.vals.items) _ _ y (types_stop f xs js i x j c.loop-i-test.true is also there y e) (c.loop-i.invariant distinct).0)
    (c.in_err-read_part.ensures (all_shown HasDistinctNames f xs i x c.loop-i-test.true is distinct)))

pub read_each-loop-i-preserved : goal.read_each-loop-i-preserved
read_each-loop-i-preserved g t c =
    λ distinct.
    let f : Bor g.row.V-Type.Denot → TypeTree = λ x. g.V.Type.WasmType.tree x.now in
    let xs = c.args.types.now in
    let js = c.args.items.now in
    let i = c.loop-i.i in
    let x = c.index-types-i.result in
    let j = c.index-items-i.result in
    let also : i < length js = omega (arith, c.requires, c.loop-i-test.true) in
    let is = c.index-types-i.is in
    let there = c.index-items-i.is in
    let v = c.in_ok-read_part.field-0 in
    let here = c.in_ok-read_part.ensures (all_shown HasDistinctNames f xs i x c.loop-i-test.true is distinct) in
    let so_far = c.loop-i.invariant distinct in
    let e = map_push g.V.WasmValue.tree c.loop-i.vals.items v in
    let pushed = c.in_ok-push.ensures.items in (
      subst (λ (l : List Value). with_front l (each_type_at (map f (drop (i + 1) xs)) (i + 1) (map value_view (drop (i + 1) js))) ≡ each_type_at (map f xs) 0 (map value_view js)) (sym (ap (map g.V.WasmValue.tree) pushed ∙ e))
          (goes_on (map g.V.WasmValue.tree c.loop-i.vals.items) (g.V.WasmValue.tree v) _ _ _ (types_step f xs js i x j c.loop-i-test.true is also there (g.V.WasmValue.tree v) here.0) so_far.0),
      subst (Completes g.V.WasmValue.is_of f xs (drop (i + 1) xs)) (sym pushed) (completes_more g.V.WasmValue.is_of f xs i x c.loop-i.vals.items v c.loop-i-test.true is here.1 so_far.1),
    )

pub read_each-returns : goal.read_each-returns
read_each-returns g t c =
    λ distinct.
    let f : Bor g.row.V-Type.Denot → TypeTree = λ x. g.V.Type.WasmType.tree x.now in
    let so_far = c.loop-i.invariant distinct in (
      is_done (map g.V.WasmValue.tree c.loop-i.vals.items) _ _ (types_end f c.args.types.now (map value_view (drop c.loop-i.i c.args.items.now)) c.loop-i.i c.loop-i-test.false) so_far.0,
      completes_all g.V.WasmValue.is_of f c.args.types.now c.loop-i.i c.loop-i.vals.items c.loop-i-test.false so_far.1,
    )

pub read_record-returns-in_err-check_distinct : goal.read_record-returns-in_err-check_distinct
read_record-returns-in_err-check_distinct g t c =
    let p = err_from_is_err_and c.from_residual-in_err-check_distinct.result c.from_residual-in_err-check_distinct.ensures.1 in
    let is = record_type (g.V.Type.WasmType.tree c.args.ty.now) (denoted_fields g.V.Type.WasmType.tree c.in_ok-fields.fields.items) c.requires c.in_ok-fields.ensures in
    rw (p.1, p.2) (λ distinct. fails_of (Unit {0}) (g.V.WasmValue.is_full (g.V.Type.WasmType.tree c.args.ty.now)) c.in_err-check_distinct.field-0.0 (distinct_members (members_view c.in-Some.members.now)) (value_at (g.V.Type.WasmType.tree c.args.ty.now) (value_view c.args.json.now)) (λ full. tt) (λ x e. record_repeated (g.V.Type.WasmType.tree c.args.ty.now) is.fields (value_view c.args.json.now) (members_view c.in-Some.members.now) x is.is c.in-Some.ensures e) c.in_err-check_distinct.ensures)

pub read_record-returns-in_err-check_known : goal.read_record-returns-in_err-check_known
read_record-returns-in_err-check_known g t c =
    let p = err_from_is_err_and c.from_residual-in_err-check_known.result c.from_residual-in_err-check_known.ensures.1 in
    let is = record_type (g.V.Type.WasmType.tree c.args.ty.now) (denoted_fields g.V.Type.WasmType.tree c.in_ok-fields.fields.items) c.requires c.in_ok-fields.ensures in
    let same : map (λ x. x.0.now) c.deref.result.now ≡ field_names is.fields = ap (map {A = Bor (List ℕ) × Bor g.row.V-Type.Denot} (λ x. x.0.now)) c.deref.ensures.value ∙ (field_texts g.V.Type.WasmType.tree c.in_ok-fields.fields.items ∙ (ap (map {A = List ℕ × TypeTree} (λ f. f.0)) is.parts_are ∙ list_names is.fields)) in
    rw (p.1, p.2) (λ distinct. fails_of (Unit {0}) (g.V.WasmValue.is_full (g.V.Type.WasmType.tree c.args.ty.now)) c.in_err-check_known.field-0.0 (known_members (field_names is.fields) (members_view c.in-Some.members.now)) (value_at (g.V.Type.WasmType.tree c.args.ty.now) (value_view c.args.json.now)) (λ full. tt) (λ x e. record_unknown (g.V.Type.WasmType.tree c.args.ty.now) is.fields (value_view c.args.json.now) (members_view c.in-Some.members.now) x is.is c.in-Some.ensures c.in_ok-check_distinct.ensures e)
    (subst (λ (l : List (List ℕ)). Fails (Unit {0}) c.in_err-check_known.field-0.0 (known_members l (members_view c.in-Some.members.now))) same c.in_err-check_known.ensures))

pub read_record-read_fields-requires : goal.read_record-read_fields-requires
read_record-read_fields-requires g t c κs within =
    let is = record_type (g.V.Type.WasmType.tree c.args.ty.now) (denoted_fields g.V.Type.WasmType.tree c.in_ok-fields.fields.items) c.requires c.in_ok-fields.ensures in
    let d = ap depth is.is ∙ ap suc (fields_depth is.fields ∙ ap (depths field_depth) (sym (ap (denoted_fields g.V.Type.WasmType.tree) c.deref-2.ensures.value ∙ is.parts_are))) in
    (omega (arith, d), within)

pub read_record-returns-in_err-vals : goal.read_record-returns-in_err-vals
read_record-returns-in_err-vals g t c =
    let p = err_from_is_err_and c.from_residual-in_err-vals.result c.from_residual-in_err-vals.ensures.1 in
    let is = record_type (g.V.Type.WasmType.tree c.args.ty.now) (denoted_fields g.V.Type.WasmType.tree c.in_ok-fields.fields.items) c.requires c.in_ok-fields.ensures in
    let same : map (λ x. x.0.now) c.deref.result.now ≡ field_names is.fields = ap (map {A = Bor (List ℕ) × Bor g.row.V-Type.Denot} (λ x. x.0.now)) c.deref.ensures.value ∙ (field_texts g.V.Type.WasmType.tree c.in_ok-fields.fields.items ∙ (ap (map {A = List ℕ × TypeTree} (λ f. f.0)) is.parts_are ∙ list_names is.fields)) in
    let are : AreMembers (g.V.Type.WasmType.tree c.args.ty.now) is.fields (value_view c.args.json.now) (members_view c.in-Some.members.now) = record {
      is = is.is;
      held = c.in-Some.ensures;
      distinct = c.in_ok-check_distinct.ensures;
      known = subst (λ (l : List (List ℕ)). known_members l (members_view c.in-Some.members.now) ≡ Ok (members_view c.in-Some.members.now)) same c.in_ok-check_known.ensures;
    } in
    let fields_are = ap (denoted_fields g.V.Type.WasmType.tree) c.deref-2.ensures.value ∙ is.parts_are in
    rw (p.1, p.2) (fields_stopped g.V.WasmValue.tree g.V.WasmValue.is_of g.V.WasmValue.is_full g.met.V.WasmValue.full_parts (g.V.Type.WasmType.tree c.args.ty.now) is.fields (value_view c.args.json.now) (members_view c.in-Some.members.now) c.in_err-vals.field-0.0 are (subst (λ (l : List (List ℕ × TypeTree)). FieldsAreRead g.V.WasmValue.tree g.V.WasmValue.is_of g.V.WasmValue.is_full l (members_view c.in-Some.members.now) (Err c.in_err-vals.field-0.0)) fields_are c.in_err-vals.ensures))

pub read_record-make_record_unchecked-requires : goal.read_record-make_record_unchecked-requires
read_record-make_record_unchecked-requires g t c =
    let is = record_type (g.V.Type.WasmType.tree c.args.ty.now) (denoted_fields g.V.Type.WasmType.tree c.in_ok-fields.fields.items) c.requires c.in_ok-fields.ensures in
    let fields_are = ap (denoted_fields g.V.Type.WasmType.tree) c.deref-2.ensures.value ∙ is.parts_are in
    record_typed g.V.WasmValue.tree g.V.WasmValue.is_of g.V.WasmValue.is_full g.met.V.WasmValue.full_parts (g.V.Type.WasmType.tree c.args.ty.now) is.fields (members_view c.in-Some.members.now) c.in_ok-vals.vals is.is (subst (λ (l : List (List ℕ × TypeTree)). FieldsAreRead g.V.WasmValue.tree g.V.WasmValue.is_of g.V.WasmValue.is_full l (members_view c.in-Some.members.now) (Ok c.in_ok-vals.vals)) fields_are c.in_ok-vals.ensures)

pub read_record-returns : goal.read_record-returns
read_record-returns g t c =
    let is = record_type (g.V.Type.WasmType.tree c.args.ty.now) (denoted_fields g.V.Type.WasmType.tree c.in_ok-fields.fields.items) c.requires c.in_ok-fields.ensures in
    let same : map (λ x. x.0.now) c.deref.result.now ≡ field_names is.fields = ap (map {A = Bor (List ℕ) × Bor g.row.V-Type.Denot} (λ x. x.0.now)) c.deref.ensures.value ∙ (field_texts g.V.Type.WasmType.tree c.in_ok-fields.fields.items ∙ (ap (map {A = List ℕ × TypeTree} (λ f. f.0)) is.parts_are ∙ list_names is.fields)) in
    let are : AreMembers (g.V.Type.WasmType.tree c.args.ty.now) is.fields (value_view c.args.json.now) (members_view c.in-Some.members.now) = record {
      is = is.is;
      held = c.in-Some.ensures;
      distinct = c.in_ok-check_distinct.ensures;
      known = subst (λ (l : List (List ℕ)). known_members l (members_view c.in-Some.members.now) ≡ Ok (members_view c.in-Some.members.now)) same c.in_ok-check_known.ensures;
    } in
    let fields_are = ap (denoted_fields g.V.Type.WasmType.tree) c.deref-2.ensures.value ∙ is.parts_are in
    record_read g.V.WasmValue.tree g.V.WasmValue.is_of g.V.WasmValue.is_full g.met.V.WasmValue.full_parts (g.V.Type.WasmType.tree c.args.ty.now) is.fields (value_view c.args.json.now) (members_view c.in-Some.members.now) c.in_ok-vals.vals c.make_record_unchecked.result c.built.result are (subst (λ (l : List (List ℕ × TypeTree)). FieldsAreRead g.V.WasmValue.tree g.V.WasmValue.is_of g.V.WasmValue.is_full l (members_view c.in-Some.members.now) (Ok c.in_ok-vals.vals)) fields_are c.in_ok-vals.ensures) c.built.ensures c.make_record_unchecked.ensures.built c.make_record_unchecked.ensures.full

pub read_fields-loop-field-init : goal.read_fields-loop-field-init
read_fields-loop-field-init g t c =
    λ distinct.
    let f : Bor (List ℕ) × Bor g.row.V-Type.Denot → List ℕ × TypeTree = λ x. (x.0.now, g.V.Type.WasmType.tree x.1.now) in
    let empty = c.new-vals.ensures.items in (
      first_front (λ (h : Bor (List ℕ) × g.row.V.Denot). (h.0.now, g.V.WasmValue.tree h.1)) c.new-vals.result.items _ _ empty refl,
      subst (CompletesFields g.V.WasmValue.is_of f c.args.fields.now c.args.fields.now) (sym empty) (fields_none g.V.WasmValue.is_of f c.args.fields.now),
    )

pub read_fields-read_field-requires : goal.read_fields-read_field-requires
read_fields-read_field-requires g t c κs within =
    let f : Bor (List ℕ) × Bor g.row.V-Type.Denot → List ℕ × TypeTree = λ x. (x.0.now, g.V.Type.WasmType.tree x.1.now) in
    let h = part_depth field_depth f c.args.fields.now c.args.fields.now c.loop-field.field-index c.field-item.result refl c.loop-field-test.true c.field-item.is in
    (omega (arith, h), within)

pub read_fields-returns-in_err-read_field : goal.read_fields-returns-in_err-read_field
read_fields-returns-in_err-read_field g t c =
    let p = err_from_is_err_and c.from_residual.result c.from_residual.ensures.1 in
    let f : Bor (List ℕ) × Bor g.row.V-Type.Denot → List ℕ × TypeTree = λ x. (x.0.now, g.V.Type.WasmType.tree x.1.now) in
    let xs = c.args.fields.now in
    let ms = members_view c.args.members.now in
    let i = c.loop-field.field-index in
    let x = c.field-item.result in
    rw (p.1, p.2) (λ distinct.
    fails_of (g.V.WasmValue.is_full (f x).1) (AllOf (λ (y : List ℕ × TypeTree). g.V.WasmValue.is_full y.1) (map f xs)) c.in_err-read_field.field-0.0 (one_field (f x) ms) (each_field_at (map f xs) ms) (λ full. all_shown (λ (y : List ℕ × TypeTree). g.V.WasmValue.is_full y.1) f xs i x c.loop-field-test.true c.field-item.is full)
    (λ y e. stops_here (field_trees g.V.WasmValue.tree c.loop-field.vals.items) _ _ y (field_stop f xs i x ms c.loop-field-test.true c.field-item.is y e) (c.loop-field.invariant distinct).0)
    (c.in_err-read_field.ensures (all_shown (λ (y : List ℕ × TypeTree). HasDistinctNames y.1) f xs i x c.loop-field-test.true c.field-item.is distinct)))

pub read_fields-loop-field-preserved : goal.read_fields-loop-field-preserved
read_fields-loop-field-preserved g t c =
    λ distinct.
    let f : Bor (List ℕ) × Bor g.row.V-Type.Denot → List ℕ × TypeTree = λ x. (x.0.now, g.V.Type.WasmType.tree x.1.now) in
    let xs = c.args.fields.now in
    let ms = members_view c.args.members.now in
    let i = c.loop-field.field-index in
    let x = c.field-item.result in
    let v = c.in_ok-read_field.field-0 in
    let here = c.in_ok-read_field.ensures (all_shown (λ (y : List ℕ × TypeTree). HasDistinctNames y.1) f xs i x c.loop-field-test.true c.field-item.is distinct) in
    let so_far = c.loop-field.invariant distinct in
    let one : Bor (List ℕ) × g.row.V.Denot = (x.0, v) in
    let e = fields_push g.V.WasmValue.tree c.loop-field.vals.items one in
    let pushed = c.in_ok-push.ensures.items in (
      subst (λ (l : List (List ℕ × Value)). with_front l (each_field_at (map f (drop (i + 1) xs)) ms) ≡ each_field_at (map f xs) ms) (sym (ap (field_trees g.V.WasmValue.tree) pushed ∙ e))
          (goes_on (field_trees g.V.WasmValue.tree c.loop-field.vals.items) (x.0.now, g.V.WasmValue.tree v) _ _ _ (field_step f xs i x ms c.loop-field-test.true c.field-item.is (g.V.WasmValue.tree v) here.0) so_far.0),
      subst (CompletesFields g.V.WasmValue.is_of f xs (drop (i + 1) xs)) (sym pushed) (fields_more g.V.WasmValue.is_of f xs i x c.loop-field.vals.items one c.loop-field-test.true c.field-item.is refl here.1 so_far.1),
    )

pub read_fields-returns : goal.read_fields-returns
read_fields-returns g t c =
    λ distinct.
    let f : Bor (List ℕ) × Bor g.row.V-Type.Denot → List ℕ × TypeTree = λ x. (x.0.now, g.V.Type.WasmType.tree x.1.now) in
    let so_far = c.loop-field.invariant distinct in (
      is_done (field_trees g.V.WasmValue.tree c.loop-field.vals.items) _ _ (fields_end f c.args.fields.now c.loop-field.field-index (members_view c.args.members.now) c.loop-field-test.false) so_far.0,
      fields_all g.V.WasmValue.is_of f c.args.fields.now c.loop-field.field-index c.loop-field.vals.items c.loop-field-test.false so_far.1,
    )

pub read_field-returns-in-Some : goal.read_field-returns-in-Some
read_field-returns-in-Some g t c =
    let there = c.in-Some.ensures in
    let same : get_or c.args.members.now c.in-Some.place c.index-members-place.result ≡ there.0 = get_or_from_slice_get c.args.members.now c.in-Some.place there.0 c.index-members-place.result there.1 in
    subst (λ (o : Option Json). IsReadAs g.V.WasmValue.tree g.V.WasmValue.is_of g.V.WasmValue.is_full (g.V.Type.WasmType.tree c.args.ty.now) (field_at (value_at (g.V.Type.WasmType.tree c.args.ty.now)) (left_out (g.V.Type.WasmType.tree c.args.ty.now) c.args.name.now) c.args.name.now o) c.read_part.result) (ap (λ (m : Bor (List ℕ) × declared.Value Global). Some (value_view m.1)) same ∙ sym there.2) c.read_part.ensures

pub read_field-returns-in-None : goal.read_field-returns-in-None
read_field-returns-in-None g t c =
    let is = formed_as type_kinds.Option (g.V.Type.WasmType.tree c.args.ty.now) (sym (is_kind c.kind.result type_kinds.Option c.eq.ensures c.if-eq.true) ∙ c.kind.ensures) in
    subst (λ (o : Option Json). IsReadAs g.V.WasmValue.tree g.V.WasmValue.is_of g.V.WasmValue.is_full (g.V.Type.WasmType.tree c.args.ty.now) (field_at (value_at (g.V.Type.WasmType.tree c.args.ty.now)) (left_out (g.V.Type.WasmType.tree c.args.ty.now) c.args.name.now) c.args.name.now o) c.built.result) (sym c.in-None.ensures) (none_read g.V.WasmValue.tree g.V.WasmValue.is_of g.V.WasmValue.is_full g.met.V.WasmValue.full_parts (g.V.Type.WasmType.tree c.args.ty.now) is.0 c.args.name.now c.make_option.result c.built.result is.1 c.built.ensures c.make_option.ensures.built c.make_option.ensures.full)

pub read_variant-returns-in_default-2 : goal.read_variant-returns-in_default-2
read_variant-returns-in_default-2 g t c =
    let is = formed_as type_kinds.Variant (g.V.Type.WasmType.tree c.args.ty.now) (sym c.requires) in
    λ distinct.
    here_fails (g.V.WasmValue.is_full (g.V.Type.WasmType.tree c.args.ty.now)) kinds.Unknown c.here-in_default-2.result _ c.here-in_default-2.ensures (case_unknown (g.V.Type.WasmType.tree c.args.ty.now) is.0 (value_view c.args.json.now) c.in-Some.name.now (option_map (λ (v : Bor (declared.Value Global)). value_view v.now) c.in-Some.payload) is.1 c.in-Some.ensures (ap (option_map (denoted_case g.V.Type.WasmType.tree)) (sym c.in_default-2.is) ∙ (c.in_ok-expected.ensures ∙ ap (λ (U : TypeTree). find (has_name c.in-Some.name.now) (variant_parts U)) is.1)))

pub read_variant-read_payload-requires : goal.read_variant-read_payload-requires
read_variant-read_payload-requires g t c κs within =
    let is = formed_as type_kinds.Variant (g.V.Type.WasmType.tree c.args.ty.now) (sym c.requires) in
    let h = case_depth is.0 c.in-Some.name.now (denoted_case g.V.Type.WasmType.tree (c.in-Some-2.field-0-0, c.in-Some-2.expected)) (ap (option_map (denoted_case g.V.Type.WasmType.tree)) (sym c.in-Some-2.is) ∙ (c.in_ok-expected.ensures ∙ ap (λ (U : TypeTree). find (has_name c.in-Some.name.now) (variant_parts U)) is.1)) in
    let d = ap depth is.1 in
    (omega (arith, h, d), within)

pub read_variant-returns-in_err-val : goal.read_variant-returns-in_err-val
read_variant-returns-in_err-val g t c =
    let p = err_from_is_err_and c.from_residual-in_err-val.result c.from_residual-in_err-val.ensures.1 in
    let is = formed_as type_kinds.Variant (g.V.Type.WasmType.tree c.args.ty.now) (sym c.requires) in
    let found = found_case g.V.WasmValue.is_full is.0 c.in-Some.name.now (denoted_case g.V.Type.WasmType.tree (c.in-Some-2.field-0-0, c.in-Some-2.expected)) (ap (option_map (denoted_case g.V.Type.WasmType.tree)) (sym c.in-Some-2.is) ∙ (c.in_ok-expected.ensures ∙ ap (λ (U : TypeTree). find (has_name c.in-Some.name.now) (variant_parts U)) is.1)) in
    let P = denoted g.V.Type.WasmType.tree c.in-Some-2.expected in
    rw (p.1, p.2) (case_stopped g.V.WasmValue.tree g.V.WasmValue.is_of g.V.WasmValue.is_full g.met.V.WasmValue.full_parts (g.V.Type.WasmType.tree c.args.ty.now) is.0 (value_view c.args.json.now) c.in-Some.name.now (option_map (λ (v : Bor (declared.Value Global)). value_view v.now) c.in-Some.payload) P c.in_err-val.field-0.0 is.1 c.in-Some.ensures found c.in_err-val.ensures)

pub read_variant-make_variant_unchecked-requires : goal.read_variant-make_variant_unchecked-requires
read_variant-make_variant_unchecked-requires g t c =
    let is = formed_as type_kinds.Variant (g.V.Type.WasmType.tree c.args.ty.now) (sym c.requires) in
    let found = found_case g.V.WasmValue.is_full is.0 c.in-Some.name.now (denoted_case g.V.Type.WasmType.tree (c.in-Some-2.field-0-0, c.in-Some-2.expected)) (ap (option_map (denoted_case g.V.Type.WasmType.tree)) (sym c.in-Some-2.is) ∙ (c.in_ok-expected.ensures ∙ ap (λ (U : TypeTree). find (has_name c.in-Some.name.now) (variant_parts U)) is.1)) in
    let P = denoted g.V.Type.WasmType.tree c.in-Some-2.expected in
    case_typed g.V.WasmValue.tree g.V.WasmValue.is_of g.V.WasmValue.is_full g.met.V.WasmValue.full_parts (g.V.Type.WasmType.tree c.args.ty.now) is.0 c.in-Some.name.now (option_map (λ (v : Bor (declared.Value Global)). value_view v.now) c.in-Some.payload) P c.in_ok-val.val is.1 found c.in_ok-val.ensures

pub read_variant-returns : goal.read_variant-returns
read_variant-returns g t c =
    let is = formed_as type_kinds.Variant (g.V.Type.WasmType.tree c.args.ty.now) (sym c.requires) in
    let found = found_case g.V.WasmValue.is_full is.0 c.in-Some.name.now (denoted_case g.V.Type.WasmType.tree (c.in-Some-2.field-0-0, c.in-Some-2.expected)) (ap (option_map (denoted_case g.V.Type.WasmType.tree)) (sym c.in-Some-2.is) ∙ (c.in_ok-expected.ensures ∙ ap (λ (U : TypeTree). find (has_name c.in-Some.name.now) (variant_parts U)) is.1)) in
    let P = denoted g.V.Type.WasmType.tree c.in-Some-2.expected in
    case_read g.V.WasmValue.tree g.V.WasmValue.is_of g.V.WasmValue.is_full g.met.V.WasmValue.full_parts (g.V.Type.WasmType.tree c.args.ty.now) is.0 (value_view c.args.json.now) c.in-Some.name.now (option_map (λ (v : Bor (declared.Value Global)). value_view v.now) c.in-Some.payload) P c.in_ok-val.val c.make_variant_unchecked.result c.built.result is.1 c.in-Some.ensures found c.in_ok-val.ensures c.built.ensures c.make_variant_unchecked.ensures.built c.make_variant_unchecked.ensures.full

pub read_result-returns-in_err-read_payload : goal.read_result-returns-in_err-read_payload
read_result-returns-in_err-read_payload g t c =
    let p = err_from_is_err_and c.from_residual.result c.from_residual.ensures.1 in
    rw (p.1, p.2) (ok_stopped g.V.WasmValue.tree g.V.WasmValue.is_of g.V.WasmValue.is_full g.met.V.WasmValue.full_parts (g.V.Type.WasmType.tree c.args.ty.now) (denoted g.V.Type.WasmType.tree c.in-Some.ok) (denoted g.V.Type.WasmType.tree c.in-Some.err) (value_view c.args.json.now) c.in-Some-case_of.name.now (option_map (λ (v : Bor (declared.Value Global)). value_view v.now) c.in-Some-case_of.payload) c.in_err-read_payload.field-0.0 (result_type (g.V.Type.WasmType.tree c.args.ty.now) (denoted g.V.Type.WasmType.tree c.in-Some.ok) (denoted g.V.Type.WasmType.tree c.in-Some.err) c.requires c.in-Some.ensures) c.in-Some-case_of.ensures (sym c.eq.ensures ∙ c.if-eq.true) c.in_err-read_payload.ensures)

pub read_result-returns-then-eq : goal.read_result-returns-then-eq
read_result-returns-then-eq g t c =
    ok_read g.V.WasmValue.tree g.V.WasmValue.is_of g.V.WasmValue.is_full g.met.V.WasmValue.full_parts (g.V.Type.WasmType.tree c.args.ty.now) (denoted g.V.Type.WasmType.tree c.in-Some.ok) (denoted g.V.Type.WasmType.tree c.in-Some.err) (value_view c.args.json.now) c.in-Some-case_of.name.now (option_map (λ (v : Bor (declared.Value Global)). value_view v.now) c.in-Some-case_of.payload) c.in_ok-read_payload.field-0 c.make_result_unchecked.result c.built.result (result_type (g.V.Type.WasmType.tree c.args.ty.now) (denoted g.V.Type.WasmType.tree c.in-Some.ok) (denoted g.V.Type.WasmType.tree c.in-Some.err) c.requires c.in-Some.ensures) c.in-Some-case_of.ensures (sym c.eq.ensures ∙ c.if-eq.true) c.in_ok-read_payload.ensures c.built.ensures c.make_result_unchecked.ensures.built c.make_result_unchecked.ensures.full

pub read_result-returns-in_err-read_payload-2 : goal.read_result-returns-in_err-read_payload-2
read_result-returns-in_err-read_payload-2 g t c =
    let p = err_from_is_err_and c.from_residual-in_err-read_payload-2.result c.from_residual-in_err-read_payload-2.ensures.1 in
    rw (p.1, p.2) (err_stopped g.V.WasmValue.tree g.V.WasmValue.is_of g.V.WasmValue.is_full g.met.V.WasmValue.full_parts (g.V.Type.WasmType.tree c.args.ty.now) (denoted g.V.Type.WasmType.tree c.in-Some.ok) (denoted g.V.Type.WasmType.tree c.in-Some.err) (value_view c.args.json.now) c.in-Some-case_of.name.now (option_map (λ (v : Bor (declared.Value Global)). value_view v.now) c.in-Some-case_of.payload) c.in_err-read_payload-2.field-0.0 (result_type (g.V.Type.WasmType.tree c.args.ty.now) (denoted g.V.Type.WasmType.tree c.in-Some.ok) (denoted g.V.Type.WasmType.tree c.in-Some.err) c.requires c.in-Some.ensures) c.in-Some-case_of.ensures (sym c.eq.ensures ∙ c.if-eq.false) (sym c.eq-2.ensures ∙ c.if-eq-2.true) c.in_err-read_payload-2.ensures)

pub read_result-returns-then-eq-2 : goal.read_result-returns-then-eq-2
read_result-returns-then-eq-2 g t c =
    err_read g.V.WasmValue.tree g.V.WasmValue.is_of g.V.WasmValue.is_full g.met.V.WasmValue.full_parts (g.V.Type.WasmType.tree c.args.ty.now) (denoted g.V.Type.WasmType.tree c.in-Some.ok) (denoted g.V.Type.WasmType.tree c.in-Some.err) (value_view c.args.json.now) c.in-Some-case_of.name.now (option_map (λ (v : Bor (declared.Value Global)). value_view v.now) c.in-Some-case_of.payload) c.in_ok-read_payload-2.field-0 c.make_result_unchecked-then-eq-2.result c.built-then-eq-2.result (result_type (g.V.Type.WasmType.tree c.args.ty.now) (denoted g.V.Type.WasmType.tree c.in-Some.ok) (denoted g.V.Type.WasmType.tree c.in-Some.err) c.requires c.in-Some.ensures) c.in-Some-case_of.ensures (sym c.eq.ensures ∙ c.if-eq.false) (sym c.eq-2.ensures ∙ c.if-eq-2.true) c.in_ok-read_payload-2.ensures c.built-then-eq-2.ensures c.make_result_unchecked-then-eq-2.ensures.built c.make_result_unchecked-then-eq-2.ensures.full

pub read_map-read_entries-requires : goal.read_map-read_entries-requires
read_map-read_entries-requires g t c κs within =
    let is = (map_type (g.V.Type.WasmType.tree c.args.ty.now) (g.V.Type.WasmType.tree c.in-Some.key.now) (g.V.Type.WasmType.tree c.in-Some.val.now) c.requires c.in-Some.ensures) in
    let d = ap depth is.is in
    let k = ap depth is.key_is in
    (omega (arith, d, k), within)

pub read_map-returns-in_err-entries : goal.read_map-returns-in_err-entries
read_map-returns-in_err-entries g t c =
    let p = err_from_is_err_and c.from_residual.result c.from_residual.ensures.1 in
    rw (p.1, p.2) (map_stopped g.V.WasmValue.tree g.V.WasmValue.is_of g.V.WasmValue.is_full g.met.V.WasmValue.full_parts (g.V.Type.WasmType.tree c.args.ty.now) (g.V.Type.WasmType.tree c.in-Some.key.now) (g.V.Type.WasmType.tree c.in-Some.val.now) (value_view c.args.json.now) c.in_err-entries.field-0.0 (map_type (g.V.Type.WasmType.tree c.args.ty.now) (g.V.Type.WasmType.tree c.in-Some.key.now) (g.V.Type.WasmType.tree c.in-Some.val.now) c.requires c.in-Some.ensures) c.in_err-entries.ensures)

pub read_map-make_map_unchecked-requires : goal.read_map-make_map_unchecked-requires
read_map-make_map_unchecked-requires g t c =
    map_typed g.V.WasmValue.tree g.V.WasmValue.is_of g.V.WasmValue.is_full g.met.V.WasmValue.full_parts (g.V.Type.WasmType.tree c.args.ty.now) (g.V.Type.WasmType.tree c.in-Some.key.now) (g.V.Type.WasmType.tree c.in-Some.val.now) (value_view c.args.json.now) c.in_ok-entries.entries (map_type (g.V.Type.WasmType.tree c.args.ty.now) (g.V.Type.WasmType.tree c.in-Some.key.now) (g.V.Type.WasmType.tree c.in-Some.val.now) c.requires c.in-Some.ensures) c.in_ok-entries.ensures

pub read_map-returns : goal.read_map-returns
read_map-returns g t c =
    map_read g.V.WasmValue.tree g.V.WasmValue.is_of g.V.WasmValue.is_full g.met.V.WasmValue.full_parts (g.V.Type.WasmType.tree c.args.ty.now) (g.V.Type.WasmType.tree c.in-Some.key.now) (g.V.Type.WasmType.tree c.in-Some.val.now) (value_view c.args.json.now) c.in_ok-entries.entries c.make_map_unchecked.result c.built.result (map_type (g.V.Type.WasmType.tree c.args.ty.now) (g.V.Type.WasmType.tree c.in-Some.key.now) (g.V.Type.WasmType.tree c.in-Some.val.now) c.requires c.in-Some.ensures) c.in_ok-entries.ensures c.built.ensures c.make_map_unchecked.ensures.built c.make_map_unchecked.ensures.full

pub read_entries-returns-then-eq : goal.read_entries-returns-then-eq
read_entries-returns-then-eq g t c =
    string_entries g.V.WasmValue.tree g.V.WasmValue.is_of g.V.WasmValue.is_full (g.V.Type.WasmType.tree c.args.key_ty.now) (g.V.Type.WasmType.tree c.args.val_ty.now) (value_view c.args.json.now) c.read_members.result (sym c.kind.ensures ∙ is_kind c.kind.result type_kinds.String c.eq.ensures c.if-eq.true) c.read_members.ensures

pub read_entries-returns : goal.read_entries-returns
read_entries-returns g t c =
    other_entries g.V.WasmValue.tree g.V.WasmValue.is_of g.V.WasmValue.is_full (g.V.Type.WasmType.tree c.args.key_ty.now) (g.V.Type.WasmType.tree c.args.val_ty.now) (value_view c.args.json.now) c.read_pairs.result (λ is. is_other_kind c.kind.result type_kinds.String c.eq.ensures c.if-eq.false (c.kind.ensures ∙ is)) c.read_pairs.ensures

pub read_members-loop-i-init : goal.read_members-loop-i-init
read_members-loop-i-init g t c =
    λ distinct.
    let empty = c.new-entries.ensures.items in (
      first_front (λ (e : g.row.V.Denot × g.row.V.Denot). (g.V.WasmValue.tree e.0, g.V.WasmValue.tree e.1)) c.new-entries.result.items _ _ empty refl,
      subst (AllOf (λ (e : g.row.V.Denot × g.row.V.Denot). g.V.WasmValue.is_of e.0 (type.simple type.string) × g.V.WasmValue.is_of e.1 (g.V.Type.WasmType.tree c.args.ty.now))) (sym empty) tt,
    )

pub read_members-returns-in_err-val : goal.read_members-returns-in_err-val
read_members-returns-in_err-val g t c =
    let p = err_from_is_err_and c.from_residual-in_err-val.result c.from_residual-in_err-val.ensures.1 in
    let ms = c.in-Some.members.now in
    let i = c.loop-i.i in
    let m = get_or ms i c.index-members-i.result in
    let same = get_same ms i c.index-members-i-in-loop-i.result c.index-members-i.result c.loop-i-test.true in
    let is = item_again ms i c.index-members-i.result c.loop-i-test.true in
    let V = (g.V.Type.WasmType.tree c.args.ty.now) in
    let S = type.simple type.string in
    let total = object_entries (value_at V) (value_view c.args.json.now) (members_view ms) c.in-Some.ensures c.in_ok-check_distinct.ensures in
    rw (p.1, p.2) (λ distinct.
    fails_of (g.V.WasmValue.is_full V) (g.V.WasmValue.is_full V × g.V.WasmValue.is_full S) c.in_err-val.field-0.0 (under (member_step m.0.now) (value_at V (value_view (get_or ms i c.index-members-i-in-loop-i.result).1))) (keyed (entries_at type.string (value_at V) (value_view c.args.json.now))) (λ full. full.0)
    (λ y e. ap keyed total ∙ stops_here (entry_trees g.V.WasmValue.tree c.loop-i.entries.items) _ _ y (member_stop (value_at V) ms i m c.loop-i-test.true is y (subst (λ (k : Bor (List ℕ) × declared.Value Global). under (member_step m.0.now) (value_at V (value_view k.1)) ≡ Err y) same e)) (c.loop-i.invariant distinct).0)
    (c.in_err-val.ensures distinct))

pub read_members-returns-in_err-key : goal.read_members-returns-in_err-key
read_members-returns-in_err-key g t c =
    let p = err_from_is_err_and c.from_residual-in_err-key.result c.from_residual-in_err-key.ensures.1 in
    rw (p.1, p.2) (λ distinct. built_fails (g.V.WasmValue.is_full (g.V.Type.WasmType.tree c.args.ty.now) × g.V.WasmValue.is_full (type.simple type.string)) c.make_string.result c.in_err-key.field-0.0 _ c.in_err-key.ensures (IfErr-weaker c.make_string.result (FullLeaf g.V.WasmValue.is_full (value.string (get_or c.in-Some.members.now c.loop-i.i c.index-members-i.result).0.now)) (λ e. g.V.WasmValue.is_full (g.V.Type.WasmType.tree c.args.ty.now) × g.V.WasmValue.is_full (type.simple type.string) → IsMemory e) (λ e f full. f full.1) c.make_string.ensures.full))

pub read_members-loop-i-preserved : goal.read_members-loop-i-preserved
read_members-loop-i-preserved g t c =
    λ distinct.
    let ms = c.in-Some.members.now in
    let i = c.loop-i.i in
    let m = get_or ms i c.index-members-i.result in
    let same = get_same ms i c.index-members-i-in-loop-i.result c.index-members-i.result c.loop-i-test.true in
    let is = item_again ms i c.index-members-i.result c.loop-i-test.true in
    let V = (g.V.Type.WasmType.tree c.args.ty.now) in
    let S = type.simple type.string in
    let total = object_entries (value_at V) (value_view c.args.json.now) (members_view ms) c.in-Some.ensures c.in_ok-check_distinct.ensures in
    let v = c.in_ok-val.val in
    let k = c.in_ok-key.key in
    let made = built_ok (MakesLeaf g.V.WasmValue.tree g.V.WasmValue.is_of (value.string m.0.now)) c.make_string.result k c.in_ok-key.ensures c.make_string.ensures.built in
    let here = c.in_ok-val.ensures distinct in
    let reads = subst (λ (w : Bor (List ℕ) × declared.Value Global). under (member_step m.0.now) (value_at V (value_view w.1)) ≡ Ok (g.V.WasmValue.tree v)) same here.0 in
    let so_far = c.loop-i.invariant distinct in
    let items = c.loop-i.entries.items in
    let e = entries_push g.V.WasmValue.tree items (k, v) ∙ ap (λ (w : Value). entry_trees g.V.WasmValue.tree items ++ (w, g.V.WasmValue.tree v) ∷ []) made.means in
    let pushed = c.in_ok-push.ensures.items in (
      subst (λ (l : List (Value × Value)). with_front l (keyed (members_at (value_at V) (members_view (drop (i + 1) ms)))) ≡ keyed (members_at (value_at V) (members_view ms))) (sym (ap (entry_trees g.V.WasmValue.tree) pushed ∙ e))
          (goes_on (entry_trees g.V.WasmValue.tree items) (value.leaf (value.string m.0.now), g.V.WasmValue.tree v) _ _ _ (member_next (value_at V) ms i m c.loop-i-test.true is (g.V.WasmValue.tree v) reads) so_far.0),
      subst (AllOf (λ (x : g.row.V.Denot × g.row.V.Denot). g.V.WasmValue.is_of x.0 S × g.V.WasmValue.is_of x.1 V)) (sym pushed) (all_push (λ (x : g.row.V.Denot × g.row.V.Denot). g.V.WasmValue.is_of x.0 S × g.V.WasmValue.is_of x.1 V) items (k, v) so_far.1 (made.is_of, here.1)),
    )

pub read_members-returns : goal.read_members-returns
read_members-returns g t c =
    λ distinct.
    let ms = c.in-Some.members.now in
    let V = (g.V.Type.WasmType.tree c.args.ty.now) in
    let total = object_entries (value_at V) (value_view c.args.json.now) (members_view ms) c.in-Some.ensures c.in_ok-check_distinct.ensures in
    let so_far = c.loop-i.invariant distinct in
    (ap keyed total ∙ is_done (entry_trees g.V.WasmValue.tree c.loop-i.entries.items) _ _ (members_end (value_at V) ms c.loop-i.i c.loop-i-test.false) so_far.0, so_far.1)

pub read_pair-returns-then-items-ne2 : goal.read_pair-returns-then-items-ne2
read_pair-returns-then-items-ne2 g t c =
    λ R is distinct. here_fails (g.V.WasmValue.is_full (g.V.Type.WasmType.tree c.args.key_ty.now) × g.V.WasmValue.is_full (g.V.Type.WasmType.tree c.args.val_ty.now)) kinds.Length c.here-then-items-ne2.result _ c.here-then-items-ne2.ensures (pair_other R (g.V.Type.WasmType.tree c.args.val_ty.now) (value_view c.args.json.now) c.in-Some.items.now c.in-Some.ensures c.if-items-ne2.true)

pub read_pair-returns-in_err-key : goal.read_pair-returns-in_err-key
read_pair-returns-in_err-key g t c =
    let p = err_from_is_err_and c.from_residual.result c.from_residual.ensures.1 in
    let js = c.in-Some.items.now in
    let two : length js ≡ 2 = c.if-items-ne2.false in
    let a = c.index-items-0.result in
    let b = get_or js 1 c.index-items-0.result in
    let first = c.index-items-0.is in
    let second = item_again js 1 c.index-items-0.result (omega (arith, two)) in
    rw (p.1, p.2) (λ R is distinct.
    fails_of (g.V.WasmValue.is_full (g.V.Type.WasmType.tree c.args.key_ty.now)) (g.V.WasmValue.is_full (g.V.Type.WasmType.tree c.args.key_ty.now) × g.V.WasmValue.is_full (g.V.Type.WasmType.tree c.args.val_ty.now)) c.in_err-key.field-0.0 (under (item_step 0) (value_at (g.V.Type.WasmType.tree c.args.key_ty.now) (value_view a))) (pair_at (leaf_at R) (value_at (g.V.Type.WasmType.tree c.args.val_ty.now)) (value_view c.args.json.now) >>= λ e. Ok (with_leaf e)) (λ full. full.0)
    (λ y e. key_stops R (g.V.Type.WasmType.tree c.args.val_ty.now) (value_view c.args.json.now) js a b c.in-Some.ensures two first second y (subst (λ (U : TypeTree). under (item_step 0) (value_at U (value_view a)) ≡ Err y) is e))
    (c.in_err-key.ensures (subst HasDistinctNames (sym is) tt)))

pub read_pair-returns-in_err-val : goal.read_pair-returns-in_err-val
read_pair-returns-in_err-val g t c =
    let p = err_from_is_err_and c.from_residual-in_err-val.result c.from_residual-in_err-val.ensures.1 in
    let js = c.in-Some.items.now in
    let two : length js ≡ 2 = c.if-items-ne2.false in
    let a = c.index-items-0.result in
    let b = c.index-items-1.result in
    let first = c.index-items-0.is in
    let second = c.index-items-1.is in
    rw (p.1, p.2) (λ R is distinct.
    let reads = subst (λ (U : TypeTree). under (item_step 0) (value_at U (value_view a)) ≡ Ok (g.V.WasmValue.tree c.in_ok-key.key)) is (c.in_ok-key.ensures (subst HasDistinctNames (sym is) tt)).0 in
    fails_of (g.V.WasmValue.is_full (g.V.Type.WasmType.tree c.args.val_ty.now)) (g.V.WasmValue.is_full (g.V.Type.WasmType.tree c.args.key_ty.now) × g.V.WasmValue.is_full (g.V.Type.WasmType.tree c.args.val_ty.now)) c.in_err-val.field-0.0 (under (item_step 1) (value_at (g.V.Type.WasmType.tree c.args.val_ty.now) (value_view b))) (pair_at (leaf_at R) (value_at (g.V.Type.WasmType.tree c.args.val_ty.now)) (value_view c.args.json.now) >>= λ e. Ok (with_leaf e)) (λ full. full.1)
    (λ y e. value_stops R (g.V.Type.WasmType.tree c.args.val_ty.now) (value_view c.args.json.now) js a b c.in-Some.ensures two first second (g.V.WasmValue.tree c.in_ok-key.key) y reads e)
    (c.in_err-val.ensures distinct))

pub read_pair-returns : goal.read_pair-returns
read_pair-returns g t c =
    λ R is distinct.
    let js = c.in-Some.items.now in
    let two : length js ≡ 2 = c.if-items-ne2.false in
    let a = c.index-items-0.result in
    let b = c.index-items-1.result in
    let first = c.index-items-0.is in
    let second = c.index-items-1.is in
    let k = c.in_ok-key.ensures (subst HasDistinctNames (sym is) tt) in
    let reads = subst (λ (U : TypeTree). under (item_step 0) (value_at U (value_view a)) ≡ Ok (g.V.WasmValue.tree c.in_ok-key.key)) is (c.in_ok-key.ensures (subst HasDistinctNames (sym is) tt)).0 in
    let v = c.in_ok-val.ensures distinct in
    (pair_read R (g.V.Type.WasmType.tree c.args.val_ty.now) (value_view c.args.json.now) js a b c.in-Some.ensures two first second (g.V.WasmValue.tree c.in_ok-key.key) (g.V.WasmValue.tree c.in_ok-val.val) reads v.0, (k.1, v.1))

pub read_pairs-returns-then-is_empty_object : goal.read_pairs-returns-then-is_empty_object
read_pairs-returns-then-is_empty_object g t c =
    λ R is other distinct. (
      no_entries R (value_at (g.V.Type.WasmType.tree c.args.val_ty.now)) (value_view c.args.json.now) other c.if-is_empty_object.ensures ∙ ap (λ (l : List (g.row.V.Denot × g.row.V.Denot)). these (entry_trees g.V.WasmValue.tree l)) (sym c.new-entries.ensures.items),
      subst (AllOf (λ (e : g.row.V.Denot × g.row.V.Denot). g.V.WasmValue.is_of e.0 (g.V.Type.WasmType.tree c.args.key_ty.now) × g.V.WasmValue.is_of e.1 (g.V.Type.WasmType.tree c.args.val_ty.now))) (sym c.new-entries.ensures.items) tt,
    )

pub read_pairs-loop-i-init : goal.read_pairs-loop-i-init
read_pairs-loop-i-init g t c =
    λ R is distinct.
    let empty = c.new-entries.ensures.items in (
      first_front (λ (e : g.row.V.Denot × g.row.V.Denot). (g.V.WasmValue.tree e.0, g.V.WasmValue.tree e.1)) c.new-entries.result.items _ _ empty refl,
      subst (AllOf (λ (e : g.row.V.Denot × g.row.V.Denot). g.V.WasmValue.is_of e.0 (g.V.Type.WasmType.tree c.args.key_ty.now) × g.V.WasmValue.is_of e.1 (g.V.Type.WasmType.tree c.args.val_ty.now))) (sym empty) tt,
    )

pub read_pairs-loop-i-preserved : goal.read_pairs-loop-i-preserved
read_pairs-loop-i-preserved g t c =
    λ R is distinct.
    let js = c.in-Some.pairs.now in
    let i = c.loop-i.i in
    let j = c.index-pairs-i.result in
    let same = c.index-pairs-i.is in
    let here = c.in-Ok.ensures R is distinct in
    let so_far = c.loop-i.invariant R is distinct in
    let items = c.loop-i.entries.items in
    let one = c.in-Ok.entry in
    let pushed = c.in_ok-push-in-Ok.ensures.items in (
      subst (λ (l : List (Value × Value)). with_front l (keyed (each_at (pair_at (leaf_at R) (value_at (g.V.Type.WasmType.tree c.args.val_ty.now))) (i + 1) (items_view (drop (i + 1) js)))) ≡ keyed (each_at (pair_at (leaf_at R) (value_at (g.V.Type.WasmType.tree c.args.val_ty.now))) 0 (items_view js))) (sym (ap (entry_trees g.V.WasmValue.tree) pushed ∙ entries_push g.V.WasmValue.tree items one))
          (goes_on (entry_trees g.V.WasmValue.tree items) (g.V.WasmValue.tree one.0, g.V.WasmValue.tree one.1) _ _ _ (pair_next (pair_at (leaf_at R) (value_at (g.V.Type.WasmType.tree c.args.val_ty.now))) js i j c.loop-i-test.true same (g.V.WasmValue.tree one.0, g.V.WasmValue.tree one.1) here.0) so_far.0),
      subst (AllOf (λ (e : g.row.V.Denot × g.row.V.Denot). g.V.WasmValue.is_of e.0 (g.V.Type.WasmType.tree c.args.key_ty.now) × g.V.WasmValue.is_of e.1 (g.V.Type.WasmType.tree c.args.val_ty.now))) (sym pushed) (all_push (λ (e : g.row.V.Denot × g.row.V.Denot). g.V.WasmValue.is_of e.0 (g.V.Type.WasmType.tree c.args.key_ty.now) × g.V.WasmValue.is_of e.1 (g.V.Type.WasmType.tree c.args.val_ty.now)) items one so_far.1 here.1),
    )

pub read_pairs-returns-in-Err : goal.read_pairs-returns-in-Err
read_pairs-returns-in-Err g t c =
    λ R is other distinct.
    let js = c.in-Some.pairs.now in
    let i = c.loop-i.i in
    let j = c.index-pairs-i.result in
    let same = c.index-pairs-i.is in
    let part = (pair_at (leaf_at R) (value_at (g.V.Type.WasmType.tree c.args.val_ty.now)) (value_view j) >>= λ e. Ok (with_leaf e)) in
    fails_of (g.V.WasmValue.is_full (g.V.Type.WasmType.tree c.args.key_ty.now) × g.V.WasmValue.is_full (g.V.Type.WasmType.tree c.args.val_ty.now)) (g.V.WasmValue.is_full (g.V.Type.WasmType.tree c.args.key_ty.now) × g.V.WasmValue.is_full (g.V.Type.WasmType.tree c.args.val_ty.now)) c.under.result (under (item_step i) part) (keyed (entries_at R (value_at (g.V.Type.WasmType.tree c.args.val_ty.now)) (value_view c.args.json.now))) (λ full. full)
    (λ y e. ap keyed (pairs_entries R (value_at (g.V.Type.WasmType.tree c.args.val_ty.now)) (value_view c.args.json.now) (items_view c.in-Some.pairs.now) other c.if-is_empty_object.ensures c.in-Some.ensures) ∙ behind_pairs (each_at (pair_at (leaf_at R) (value_at (g.V.Type.WasmType.tree c.args.val_ty.now))) 0 (items_view js)) y (stops_here (entry_trees g.V.WasmValue.tree c.loop-i.entries.items) _ _ y (pair_stop (pair_at (leaf_at R) (value_at (g.V.Type.WasmType.tree c.args.val_ty.now))) js i j c.loop-i-test.true same y e) (c.loop-i.invariant R is distinct).0))
    (under_fails (g.V.WasmValue.is_full (g.V.Type.WasmType.tree c.args.key_ty.now) × g.V.WasmValue.is_full (g.V.Type.WasmType.tree c.args.val_ty.now)) (item_step i) c.in-Err.stop c.under.result part c.under.ensures (c.in-Err.ensures R is distinct))

pub read_pairs-returns-in_err-check_keys : goal.read_pairs-returns-in_err-check_keys
read_pairs-returns-in_err-check_keys g t c =
    let p = err_from_is_err_and c.from_residual-in_err-check_keys.result c.from_residual-in_err-check_keys.ensures.1 in
    rw (p.1, p.2) (λ R is other distinct.
    let so_far = c.loop-i.invariant R is distinct in
    let items = c.loop-i.entries.items in
    let done = is_done (entry_trees g.V.WasmValue.tree items) _ _ (pairs_end (pair_at (leaf_at R) (value_at (g.V.Type.WasmType.tree c.args.val_ty.now))) c.in-Some.pairs.now c.loop-i.i c.loop-i-test.false) so_far.0 in
    let keys : List (g.row.V.Denot × g.row.V.Denot) → List (List ℕ) = λ l. map (λ (x : g.row.V.Denot × g.row.V.Denot). text (g.V.WasmValue.tree x.0)) l in
    fails_of (Unit {0}) (g.V.WasmValue.is_full (g.V.Type.WasmType.tree c.args.key_ty.now) × g.V.WasmValue.is_full (g.V.Type.WasmType.tree c.args.val_ty.now)) c.in_err-check_keys.field-0.0 (unless_repeated {B = Unit {0}} (keys c.deref.result.now) tt) (keyed (entries_at R (value_at (g.V.Type.WasmType.tree c.args.val_ty.now)) (value_view c.args.json.now))) (λ full. tt)
    (λ y e. ap keyed (pairs_entries R (value_at (g.V.Type.WasmType.tree c.args.val_ty.now)) (value_view c.args.json.now) (items_view c.in-Some.pairs.now) other c.if-is_empty_object.ensures c.in-Some.ensures) ∙ distinct_fault g.V.WasmValue.tree (each_at (pair_at (leaf_at R) (value_at (g.V.Type.WasmType.tree c.args.val_ty.now))) 0 (items_view c.in-Some.pairs.now)) items y done (subst (λ (l : List (g.row.V.Denot × g.row.V.Denot)). unless_repeated {B = Unit {0}} (keys l) tt ≡ Err y) c.deref.ensures.value e))
    c.in_err-check_keys.ensures)

pub read_pairs-returns : goal.read_pairs-returns
read_pairs-returns g t c =
    λ R is other distinct.
    let so_far = c.loop-i.invariant R is distinct in
    let items = c.loop-i.entries.items in
    let done = is_done (entry_trees g.V.WasmValue.tree items) _ _ (pairs_end (pair_at (leaf_at R) (value_at (g.V.Type.WasmType.tree c.args.val_ty.now))) c.in-Some.pairs.now c.loop-i.i c.loop-i-test.false) so_far.0 in
    let keys : List (g.row.V.Denot × g.row.V.Denot) → List (List ℕ) = λ l. map (λ (x : g.row.V.Denot × g.row.V.Denot). text (g.V.WasmValue.tree x.0)) l in
    (ap keyed (pairs_entries R (value_at (g.V.Type.WasmType.tree c.args.val_ty.now)) (value_view c.args.json.now) (items_view c.in-Some.pairs.now) other c.if-is_empty_object.ensures c.in-Some.ensures) ∙ distinct_ok g.V.WasmValue.tree (each_at (pair_at (leaf_at R) (value_at (g.V.Type.WasmType.tree c.args.val_ty.now))) 0 (items_view c.in-Some.pairs.now)) items done (subst (λ (l : List (g.row.V.Denot × g.row.V.Denot)). unless_repeated {B = Unit {0}} (keys l) tt ≡ Ok tt) c.deref.ensures.value c.in_ok-check_keys.ensures), so_far.1)

pub read_value-returns-in_default : goal.read_value-returns-in_default
read_value-returns-in_default g t c =
    let n = c.in_default in
    let is = simple_left (g.V.Type.WasmType.tree c.args.ty.now) c.kind-kind.result c.kind-kind.ensures n.not-List n.not-FixedLengthList n.not-Tuple n.not-Record n.not-Variant n.not-Enum n.not-Option n.not-Result n.not-Flags n.not-Map n.not-F32 n.not-F64 n.not-Unsupported in
    subst (λ (U : TypeTree). IsRead g.V.WasmValue.tree g.V.WasmValue.is_of g.V.WasmValue.is_full U (value_view c.args.json.now) c.read_leaf.result) (sym is.1) (c.read_leaf.ensures is.0 is.2)
