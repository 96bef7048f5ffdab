use Rattle.std.proofs.Common.{ℕ, ◌≡◌, ◌≤◌, ◌⊎◌, inl, ◌∙◌, List, [], Some, None, Bor, length, sym, ap, subst, refl, arith}
use Rattle.wave_wasm.specs.Types as type
use Rattle.wave_wasm.specs.Types.{TypeTree, kind_of, maybe_type, field_list, record_parts}
use Rattle.wave_wasm.specs.ValueErrors.{unknown_case, unsupported_type}
use Rattle.wave_wasm.specs.Borrowed.{denoted, denoted_all, denoted_fields}
use Rattle.wave_wasm.specs.declared.wasm.WasmTypeKind.TheVariants as kinds
use Rattle.wave_wasm.proofs.TypesOfValues.TypeOfKind.{formed_as}
use Rattle.wave_grammar.specs.SpannedTree.{entry_list, span_of}
use Rattle.wave_grammar.specs.TypedGrammar.{look_up}
use Rattle.wave_grammar.specs.NodeTree.{NodeTree, type_of, place_of}
use Rattle.wave_grammar.specs.TypedReading.{IsValueOf}
use Rattle.wave_grammar.specs.declared.form.NodeType.TheVariants as kind
use Rattle.wave_grammar.proofs.ChildNodes.Inside.{inside}
use Rattle.wave_grammar.proofs.ChildNodes.Entries.{AreEntriesOf, map_nodes}
use Rattle.wave_grammar.proofs.ByKind.Lists.{HasAt}
use Rattle.wave_grammar.proofs.ByKind.Tuples.{tuple_is, place_has, all_has, map_has, as_denoted}
use Rattle.wave_grammar.proofs.Fields.Entries.{record_nodes}
use Rattle.wave_leaf.proofs.LeafReading.SimpleTypes.{unreadable_is}
use Rattle.wave_faults.specs.Private.RecordFaults.{HasNames, LooksUp}
use Rattle.wave_faults.proofs.Walk.Adding.{ok_so, told_as, adds_none, adds_error, lead_start}
use Rattle.wave_faults.proofs.Walk.Forms.{list_refused, tuple_refused}
use Rattle.wave_faults.proofs.Walk.Rows.{list_counted, list_next, list_end, tuple_next, tuple_end, tuple_counted}
use Rattle.wave_faults.proofs.Walk.Cases.{variant_refused}
use Rattle.wave_faults.proofs.Walk.Payloads.{option_payload, option_none, option_refused, result_ok, ok_payload, result_err, err_payload, result_flat, result_refused}
use Rattle.wave_faults.proofs.Walk.Records.{pairs_start, entries_start, entries_end}
use Rattle.wave_faults.proofs.Walk.Types.{map_type, leaf_type, item_depth, field_depth}
use Rattle.wave_faults.proofs.Walk.TypeTests.{is_other_node}
use Rattle.wave_faults.proofs.Walk.Telling.{unread_told, leaf_faults, variant_payload, variant_unknown, variant_value, payload_depth, option_flat_at, one_ended, map_refused, map_told, first_entry, pairs_step, record_refused, record_told, field_got, found_next, unknown_next, again_next, nameless_next}
use Rattle.wave_faults.proofs.faults.+telling.Goals as goal

-- ---- which type it is

pub tell-returns-in-Some-map_key_value_types : goal.tell-returns-in-Some-map_key_value_types
tell-returns-in-Some-map_key_value_types g t c =
    let m = map_type (g.T.WasmType.tree c.args.ty.now) (g.T.WasmType.tree c.in-Some-map_key_value_types.key.now) (g.T.WasmType.tree c.in-Some-map_key_value_types.value.now) c.in-Some-map_key_value_types.ensures in
    told_as c.tell_map.result (g.T.WasmType.tree c.args.ty.now) (type.map m.0 (g.T.WasmType.tree c.in-Some-map_key_value_types.value.now)) c.args.source.now c.args.node.now c.args.told.now.items c.tell_map.new.told.items m.2
    (ok_so c.tell_map.result (λ u told. told m.0 m.1) c.tell_map.ensures)

pub tell-returns-in_ok-word-in-F32 : goal.tell-returns-in_ok-word-in-F32
tell-returns-in_ok-word-in-F32 g t c =
    let k = unreadable_is c.kind-kind.result c.in-F32.is in
    ok_so c.tell_cause.result (λ u added p h. unread_told (g.T.WasmType.tree c.args.ty.now) k.0 c.kind-kind.result c.args.source.now c.args.node.now p _ c.args.told.now.items c.tell_cause.new.told.items c.kind-kind.ensures k.1 (ap unsupported_type c.in_ok-word-in-F32.ensures.ok) h.0 added) c.tell_cause.ensures

pub tell-returns-in-Some-2 : goal.tell-returns-in-Some-2
tell-returns-in-Some-2 g t c =
    let leaf = leaf_type (g.T.WasmType.tree c.args.ty.now) c.kind-kind.result c.kind-kind.ensures c.in_default.ensures c.in_default-option_some_type.ensures c.in_default-result_types.ensures c.in_default-map_key_value_types.ensures
    c.in_default-kind.not-Record c.in_default-kind.not-Tuple c.in_default-kind.not-Variant c.in_default-kind.not-Enum c.in_default-kind.not-Flags c.in_default-kind.not-F32 c.in_default-kind.not-F64 c.in_default-kind.not-Unsupported in
    ok_so c.tell_error.result (λ u is p h. adds_error c.args.told.now.items c.tell_error.new.told.items c.in-Some-2.error is (leaf_faults (g.T.WasmType.tree c.args.ty.now) leaf.0 c.kind-kind.result c.args.source.now c.args.node.now p (Some c.in-Some-2.error) leaf.1 c.kind-kind.ensures (rw c.in-Some-2.is at c.in_ok-error-in_default-kind.ensures) h.0)) c.tell_error.ensures

pub tell-returns-in-None : goal.tell-returns-in-None
tell-returns-in-None g t c =
    let leaf = leaf_type (g.T.WasmType.tree c.args.ty.now) c.kind-kind.result c.kind-kind.ensures c.in_default.ensures c.in_default-option_some_type.ensures c.in_default-result_types.ensures c.in_default-map_key_value_types.ensures
    c.in_default-kind.not-Record c.in_default-kind.not-Tuple c.in_default-kind.not-Variant c.in_default-kind.not-Enum c.in_default-kind.not-Flags c.in_default-kind.not-F32 c.in_default-kind.not-F64 c.in_default-kind.not-Unsupported in
    λ p h. adds_none c.args.told.now.items (leaf_faults (g.T.WasmType.tree c.args.ty.now) leaf.0 c.kind-kind.result c.args.source.now c.args.node.now p None leaf.1 c.kind-kind.ensures (rw c.in-None.is at c.in_ok-error-in_default-kind.ensures) h.0)

-- ---- lists

pub tell_list-returns-in-Err : goal.tell_list-returns-in-Err
tell_list-returns-in-Err g t c =
    ok_so c.tell_error.result (λ u is p h. adds_error c.args.told.now.items c.tell_error.new.told.items c.in-Err.error is (list_refused c.args.source.now c.args.node.now p (g.T.WasmType.tree c.args.element.now) c.args.length c.in-Err.error h.0 c.in-Err.ensures.0 c.in-Err.ensures.1)) c.tell_error.ensures

pub tell_list-returns-in-Some : goal.tell_list-returns-in-Some
tell_list-returns-in-Some g t c =
    let other = c.in-Some.ensures.some in
    ok_so c.tell_cause.result (λ u added p h. list_counted c.args.source.now c.args.node.now p c.in-Ok.nodes.now (g.T.WasmType.tree c.args.element.now) c.args.length other.0 (length c.in-Ok.nodes.now) _ c.args.told.now.items c.tell_cause.new.told.items h c.in-Ok.ensures.0 c.in-Ok.ensures.1 refl other.1 other.2 other.3 added) c.tell_cause.ensures

pub tell_list-tell-requires : goal.tell_list-tell-requires
tell_list-tell-requires g t c κs within =
    let value : IsValueOf c.args.source.now c.args.node.now = assumption in
    (omega arith, (within, all_has (IsValueOf c.args.source.now) c.in-Ok.nodes.now c.loop-i.i c.index-nodes-i.result (c.in-Ok.ensures.2 c.args.source.now value) (place_has c.in-Ok.nodes.now c.loop-i.i c.index-nodes-i.result (omega arith) c.index-nodes-i.is)))

pub tell_list-loop-i-preserved : goal.tell_list-loop-i-preserved
tell_list-loop-i-preserved g t c = λ p h ty.
    list_next c.args.source.now c.args.node.now p c.in-Ok.nodes.now (g.T.WasmType.tree c.args.element.now) c.loop-i.i c.index-nodes-i.result c.args.told.now.items c.loop-i.told.items c.tell.new.told.items h ty c.in-Ok.ensures.1 (omega arith) c.index-nodes-i.is (c.loop-i.invariant p h ty) c.in_ok-tell.ensures

pub tell_list-returns : goal.tell_list-returns
tell_list-returns g t c = λ p h.
    list_end c.args.source.now c.args.node.now p c.in-Ok.nodes.now (g.T.WasmType.tree c.args.element.now) c.args.length c.loop-i.i c.args.told.now.items c.loop-i.told.items h c.in-Ok.ensures.0 c.in-Ok.ensures.1 (omega arith) c.in_default.ensures.none (c.loop-i.invariant p h c.in-Ok.ensures.0)

-- ---- tuples

pub tell_tuple-returns-in-Err : goal.tell_tuple-returns-in-Err
tell_tuple-returns-in-Err g t c =
    let known : kind_of (g.T.WasmType.tree c.args.ty.now) ≡ kinds.Tuple = assumption in
    let is = formed_as kinds.Tuple (g.T.WasmType.tree c.args.ty.now) (sym known) in
    told_as c.tell_error.result (g.T.WasmType.tree c.args.ty.now) (type.tuple is.0) c.args.source.now c.args.node.now c.args.told.now.items c.tell_error.new.told.items is.1
    (ok_so c.tell_error.result (λ u one p h. adds_error c.args.told.now.items c.tell_error.new.told.items c.in-Err.error one (tuple_refused c.args.source.now c.args.node.now p is.0 c.in-Err.error h.0 c.in-Err.ensures.0 c.in-Err.ensures.1)) c.tell_error.ensures)

pub tell_tuple-loop-i-init : goal.tell_tuple-loop-i-init
tell_tuple-loop-i-init g t c = λ p h ty. lead_start _

pub tell_tuple-tell-requires : goal.tell_tuple-tell-requires
tell_tuple-tell-requires g t c κs within =
    let value : IsValueOf c.args.source.now c.args.node.now = assumption in
    let known : kind_of (g.T.WasmType.tree c.args.ty.now) ≡ kinds.Tuple = assumption in
    let is = tuple_is (g.T.WasmType.tree c.args.ty.now) (denoted_all g.T.WasmType.tree c.in_ok-types.types.items) (sym known) c.in_ok-types.ensures in
    let at : HasAt (denoted_all g.T.WasmType.tree c.in_ok-types.types.items) c.loop-i.i (g.T.WasmType.tree c.index.result.now.now) = map_has (λ (x : Bor _). g.T.WasmType.tree x.now) c.in_ok-types.types.items c.loop-i.i c.index.result.now (place_has c.in_ok-types.types.items c.loop-i.i c.index.result.now (omega arith) c.index.ensures) in (
      omega (arith, item_depth (g.T.WasmType.tree c.args.ty.now) (denoted_all g.T.WasmType.tree c.in_ok-types.types.items) c.loop-i.i (g.T.WasmType.tree c.index.result.now.now) is at),
      (within, all_has (IsValueOf c.args.source.now) c.in-Ok.nodes.now c.loop-i.i c.index-nodes-i.result (c.in-Ok.ensures.2 c.args.source.now value) (place_has c.in-Ok.nodes.now c.loop-i.i c.index-nodes-i.result (omega arith) c.index-nodes-i.is)),
    )

pub tell_tuple-loop-i-preserved : goal.tell_tuple-loop-i-preserved
tell_tuple-loop-i-preserved g t c = λ p h ty.
    let at : HasAt (denoted_all g.T.WasmType.tree c.in_ok-types.types.items) c.loop-i.i (g.T.WasmType.tree c.index.result.now.now) = map_has (λ (x : Bor _). g.T.WasmType.tree x.now) c.in_ok-types.types.items c.loop-i.i c.index.result.now (place_has c.in_ok-types.types.items c.loop-i.i c.index.result.now (omega arith) c.index.ensures) in
    tuple_next c.args.source.now c.args.node.now p c.in-Ok.nodes.now (denoted_all g.T.WasmType.tree c.in_ok-types.types.items) (g.T.WasmType.tree c.index.result.now.now) c.loop-i.i c.index-nodes-i.result c.args.told.now.items c.loop-i.told.items c.tell.new.told.items h ty c.in-Ok.ensures.1 (omega arith) c.index-nodes-i.is at (c.loop-i.invariant p h ty) c.in_ok-tell.ensures

pub tell_tuple-returns-then-got-want : goal.tell_tuple-returns-then-got-want
tell_tuple-returns-then-got-want g t c =
    let known : kind_of (g.T.WasmType.tree c.args.ty.now) ≡ kinds.Tuple = assumption in
    let is = tuple_is (g.T.WasmType.tree c.args.ty.now) (denoted_all g.T.WasmType.tree c.in_ok-types.types.items) (sym known) c.in_ok-types.ensures in
    let want : c.len-want.result ≡ length (denoted_all g.T.WasmType.tree c.in_ok-types.types.items) = omega (arith, as_denoted g.T.WasmType.tree c.in_ok-types.types.items) in
    λ p h. tuple_end c.args.source.now c.args.node.now p c.in-Ok.nodes.now (g.T.WasmType.tree c.args.ty.now) (denoted_all g.T.WasmType.tree c.in_ok-types.types.items) c.loop-i.i c.args.told.now.items c.loop-i.told.items is h c.in-Ok.ensures.0 c.in-Ok.ensures.1 (inl (omega (arith, want))) (omega (arith, want)) (c.loop-i.invariant p h c.in-Ok.ensures.0)

pub tell_tuple-returns : goal.tell_tuple-returns
tell_tuple-returns g t c =
    let known : kind_of (g.T.WasmType.tree c.args.ty.now) ≡ kinds.Tuple = assumption in
    let is = tuple_is (g.T.WasmType.tree c.args.ty.now) (denoted_all g.T.WasmType.tree c.in_ok-types.types.items) (sym known) c.in_ok-types.ensures in
    let want : c.len-want.result ≡ length (denoted_all g.T.WasmType.tree c.in_ok-types.types.items) = omega (arith, as_denoted g.T.WasmType.tree c.in_ok-types.types.items) in
    let ended : (length c.in-Ok.nodes.now ≤ c.loop-i.i) ⊎ (c.len-want.result ≤ c.loop-i.i) = one_ended (length c.in-Ok.nodes.now) c.len-want.result c.loop-i.i (omega arith) in
    let gone : (length c.in-Ok.nodes.now ≤ c.loop-i.i) ⊎ (length (denoted_all g.T.WasmType.tree c.in_ok-types.types.items) ≤ c.loop-i.i) = subst (λ (n : ℕ). (length c.in-Ok.nodes.now ≤ c.loop-i.i) ⊎ (n ≤ c.loop-i.i)) want ended in
    ok_so c.tell_cause.result (λ u added p h. tuple_counted c.args.source.now c.args.node.now p c.in-Ok.nodes.now (g.T.WasmType.tree c.args.ty.now) (denoted_all g.T.WasmType.tree c.in_ok-types.types.items) c.loop-i.i c.len-want.result (length c.in-Ok.nodes.now) c.args.told.now.items c.loop-i.told.items c.tell_cause.new.told.items is h c.in-Ok.ensures.0 c.in-Ok.ensures.1 gone refl want c.if-got-want.false (c.loop-i.invariant p h c.in-Ok.ensures.0) added) c.tell_cause.ensures

-- ---- variants

pub tell_variant-returns-in-Err : goal.tell_variant-returns-in-Err
tell_variant-returns-in-Err g t c =
    let known : kind_of (g.T.WasmType.tree c.args.ty.now) ≡ kinds.Variant = assumption in
    let is = formed_as kinds.Variant (g.T.WasmType.tree c.args.ty.now) (sym known) in
    told_as c.tell_error.result (g.T.WasmType.tree c.args.ty.now) (type.variant is.0) c.args.source.now c.args.node.now c.args.told.now.items c.tell_error.new.told.items is.1
    (ok_so c.tell_error.result (λ u one p h. adds_error c.args.told.now.items c.tell_error.new.told.items c.in-Err.error one (variant_refused c.args.source.now c.args.node.now p is.0 c.in-Err.error h.0 c.in-Err.ensures.0 c.in-Err.ensures.1 c.in-Err.ensures.2)) c.tell_error.ensures)

pub tell_variant-tell_payload-requires : goal.tell_variant-tell_payload-requires
tell_variant-tell_payload-requires g t c κs within =
    let value : IsValueOf c.args.source.now c.args.node.now = assumption in
    let known : kind_of (g.T.WasmType.tree c.args.ty.now) ≡ kinds.Variant = assumption in
    let is = formed_as kinds.Variant (g.T.WasmType.tree c.args.ty.now) (sym known) in
    let found = rw c.in-Some.is at c.in_ok-expected.ensures in
    (omega (arith, payload_depth (g.T.WasmType.tree c.args.ty.now) is.0 c.in-Ok.case.0.now (c.in-Some.field-0-0.now, denoted g.T.WasmType.tree c.in-Some.expected) is.1 found), (within, variant_value c.args.source.now c.args.node.now c.in-Ok.case.0 c.in-Ok.case.1 value c.in-Ok.ensures))

pub tell_variant-returns-in-Some : goal.tell_variant-returns-in-Some
tell_variant-returns-in-Some g t c =
    let known : kind_of (g.T.WasmType.tree c.args.ty.now) ≡ kinds.Variant = assumption in
    let is = formed_as kinds.Variant (g.T.WasmType.tree c.args.ty.now) (sym known) in
    let found = rw c.in-Some.is at c.in_ok-expected.ensures in
    ok_so c.tell_payload.result (λ u told p h. variant_payload c.args.source.now c.args.node.now p c.in-Ok.case.0 c.in-Ok.case.1 (g.T.WasmType.tree c.args.ty.now) is.0 (c.in-Some.field-0-0.now, denoted g.T.WasmType.tree c.in-Some.expected) c.args.told.now.items c.tell_payload.new.told.items is.1 h c.in-Ok.ensures found told) c.tell_payload.ensures

pub tell_variant-returns-in_ok-name-in-None : goal.tell_variant-returns-in_ok-name-in-None
tell_variant-returns-in_ok-name-in-None g t c =
    let known : kind_of (g.T.WasmType.tree c.args.ty.now) ≡ kinds.Variant = assumption in
    let is = formed_as kinds.Variant (g.T.WasmType.tree c.args.ty.now) (sym known) in
    let missing = rw c.in-None.is at c.in_ok-expected.ensures in
    ok_so c.tell_cause.result (λ u added p h. variant_unknown c.args.source.now c.args.node.now p c.in-Ok.case.0 c.in-Ok.case.1 (g.T.WasmType.tree c.args.ty.now) is.0 _ c.args.told.now.items c.tell_cause.new.told.items is.1 h c.in-Ok.ensures missing (ap unknown_case c.in_ok-name-in-None.ensures.ok) added) c.tell_cause.ensures

-- ---- options

pub tell_option-returns-in-Ok-Some : goal.tell_option-returns-in-Ok-Some
tell_option-returns-in-Ok-Some g t c =
    ok_so c.tell.result (λ u added p h. option_payload c.args.source.now c.args.node.now p c.in-Ok-Some.inner (g.T.WasmType.tree c.args.payload.now) c.args.told.now.items c.tell.new.told.items h (rw c.in-Ok-Some.field-0-is at c.in-Ok-Some.ensures) added) c.tell.ensures

pub tell_option-returns-in-Ok-None : goal.tell_option-returns-in-Ok-None
tell_option-returns-in-Ok-None g t c = λ p h. option_none c.args.source.now c.args.node.now p (g.T.WasmType.tree c.args.payload.now) c.args.told.now.items h (rw c.in-Ok-None.field-0-is at c.in-Ok-None.ensures)

pub tell_option-returns-in-Some : goal.tell_option-returns-in-Some
tell_option-returns-in-Some g t c =
    ok_so c.tell-in-Some.result (λ u added p h. option_flat_at c.args.source.now c.args.node.now p c.in-Err.error (g.T.WasmType.tree c.args.payload.now) (g.T.WasmType.tree c.in-Some.payload.now) c.args.told.now.items c.tell-in-Some.new.told.items h c.in-Err.ensures c.in-Some.ensures.0 c.in-Some.ensures.1 added) c.tell-in-Some.ensures

pub tell_option-returns-in-None : goal.tell_option-returns-in-None
tell_option-returns-in-None g t c =
    ok_so c.tell_error.result (λ u is p h. option_refused c.args.source.now c.args.node.now p c.in-Err.error (g.T.WasmType.tree c.args.payload.now) c.args.told.now.items c.tell_error.new.told.items h c.in-Err.ensures (c.in-None.ensures (g.T.WasmType.tree c.args.payload.now) refl) is) c.tell_error.ensures

-- ---- results

pub tell_result-tell_payload-requires : goal.tell_result-tell_payload-requires
tell_result-tell_payload-requires g t c κs within =
    let value : IsValueOf c.args.source.now c.args.node.now = assumption in
    (omega arith, (within, ok_payload c.args.source.now c.args.node.now c.in-Ok-Ok.payload value (rw c.in-Ok-Ok.field-0-is at c.in-Ok-Ok.ensures)))

pub tell_result-tell_payload-requires-in-Ok-Err : goal.tell_result-tell_payload-requires-in-Ok-Err
tell_result-tell_payload-requires-in-Ok-Err g t c κs within =
    let value : IsValueOf c.args.source.now c.args.node.now = assumption in
    (omega arith, (within, err_payload c.args.source.now c.args.node.now c.in-Ok-Err.payload value (rw c.in-Ok-Err.field-0-is at c.in-Ok-Err.ensures)))

pub tell_result-returns-in-Ok-Ok : goal.tell_result-returns-in-Ok-Ok
tell_result-returns-in-Ok-Ok g t c =
    ok_so c.tell_payload.result (λ u added p h. result_ok c.args.source.now c.args.node.now p c.in-Ok-Ok.payload (maybe_type (denoted g.T.WasmType.tree c.args.ok)) (maybe_type (denoted g.T.WasmType.tree c.args.err)) c.args.told.now.items c.tell_payload.new.told.items h (rw c.in-Ok-Ok.field-0-is at c.in-Ok-Ok.ensures) added) c.tell_payload.ensures

pub tell_result-returns-in-Ok-Err : goal.tell_result-returns-in-Ok-Err
tell_result-returns-in-Ok-Err g t c =
    ok_so c.tell_payload-in-Ok-Err.result (λ u added p h. result_err c.args.source.now c.args.node.now p c.in-Ok-Err.payload (maybe_type (denoted g.T.WasmType.tree c.args.ok)) (maybe_type (denoted g.T.WasmType.tree c.args.err)) c.args.told.now.items c.tell_payload-in-Ok-Err.new.told.items h (rw c.in-Ok-Err.field-0-is at c.in-Ok-Err.ensures) added) c.tell_payload-in-Ok-Err.ensures

pub tell_result-returns-in-Some : goal.tell_result-returns-in-Some
tell_result-returns-in-Some g t c =
    ok_so c.tell.result (λ u added p h. result_flat c.args.source.now c.args.node.now p c.in-Err.error (denoted g.T.WasmType.tree c.args.ok) (maybe_type (denoted g.T.WasmType.tree c.args.err)) (g.T.WasmType.tree c.in-Some.payload.now) c.args.told.now.items c.tell.new.told.items h c.in-Err.ensures c.in-Some.ensures.0 c.in-Some.ensures.1 added) c.tell.ensures

pub tell_result-returns-in-None : goal.tell_result-returns-in-None
tell_result-returns-in-None g t c =
    ok_so c.tell_error.result (λ u is p h. result_refused c.args.source.now c.args.node.now p c.in-Err.error (denoted g.T.WasmType.tree c.args.ok) (maybe_type (denoted g.T.WasmType.tree c.args.err)) c.args.told.now.items c.tell_error.new.told.items h c.in-Err.ensures c.in-None.ensures is) c.tell_error.ensures

-- ---- maps

pub tell_map-returns-in-Err : goal.tell_map-returns-in-Err
tell_map-returns-in-Err g t c =
    ok_so c.tell_error.result (λ u one K simple p h. adds_error c.args.told.now.items c.tell_error.new.told.items c.in-Err.error one (map_refused c.args.source.now c.args.node.now p K (g.T.WasmType.tree c.args.value_type.now) c.in-Err.error h.0 c.in-Err.ensures.0 c.in-Err.ensures.1 c.in-Err.ensures.2)) c.tell_error.ensures

pub tell_map-loop-key-init : goal.tell_map-loop-key-init
tell_map-loop-key-init g t c =
    let value : IsValueOf c.args.source.now c.args.node.now = assumption in
    record {
      parsed = c.in-Ok.ensures.2 c.args.source.now value;
      left = λ p h ty K simple. pairs_start K (g.T.WasmType.tree c.args.value_type.now) c.args.source.now (entry_list (map_nodes c.args.source.now c.args.node.now p h ty).given) c.in-Ok.entries c.args.told.now.items (subst (λ (ps : List (NodeTree × NodeTree)). AreEntriesOf c.args.source.now ps (entry_list (map_nodes c.args.source.now c.args.node.now p h ty).given)) (sym c.in-Ok.ensures.1) (map_nodes c.args.source.now c.args.node.now p h ty).nodes);
    }

pub tell_map-loop-key-preserved : goal.tell_map-loop-key-preserved
tell_map-loop-key-preserved g t c = record {
  parsed = (first_entry c.args.source.now c.loop-key.entries (c.in-Some.key.now, c.in-Some.value.now) c.next.new.self c.in-Some.ensures.steps c.loop-key.invariant.parsed).1;
  left = λ p h ty K simple. pairs_step K (g.T.WasmType.tree c.args.value_type.now) c.args.source.now (entry_list (map_nodes c.args.source.now c.args.node.now p h ty).given) c.loop-key.entries (c.in-Some.key.now, c.in-Some.value.now) c.next.new.self c.args.told.now.items c.loop-key.told.items c.tell_map_key.new.told.items c.tell.new.told.items c.in-Some.ensures.steps (c.loop-key.invariant.left p h ty K simple)
      (λ e token. c.in_ok-tell_map_key.ensures K e.place e.key simple token) c.in_ok-tell.ensures;
}

pub tell_map-returns : goal.tell_map-returns
tell_map-returns g t c = λ K simple p h. map_told c.args.source.now c.args.node.now p K (g.T.WasmType.tree c.args.value_type.now) c.loop-key.entries c.args.told.now.items c.loop-key.told.items h c.in-Ok.ensures.0 c.in_default.ensures.steps.0 (c.loop-key.invariant.left p h c.in-Ok.ensures.0 K simple)

-- ---- records

pub tell_record-returns-then-ne : goal.tell_record-returns-then-ne
tell_record-returns-then-ne g t c =
    let known : kind_of (g.T.WasmType.tree c.args.ty.now) ≡ kinds.Record = assumption in
    let is = formed_as kinds.Record (g.T.WasmType.tree c.args.ty.now) (sym known) in
    told_as c.tell_error.result (g.T.WasmType.tree c.args.ty.now) (type.record_type is.0) c.args.source.now c.args.node.now c.args.told.now.items c.tell_error.new.told.items is.1
    (ok_so c.tell_error.result (λ u one p h. adds_error c.args.told.now.items c.tell_error.new.told.items c.new.result one (record_refused c.args.source.now c.args.node.now p is.0 c.new.result h.0 (λ set. is_other_node c.ty.result kind.TupleSet c.ne.ensures c.if-ne.true (c.ty.ensures ∙ set)) c.new.ensures.refusal (c.new.ensures.span ∙ c.span.ensures))) c.tell_error.ensures)

pub tell_record-returns : goal.tell_record-returns
tell_record-returns g t c =
    let known : kind_of (g.T.WasmType.tree c.args.ty.now) ≡ kinds.Record = assumption in
    let is = formed_as kinds.Record (g.T.WasmType.tree c.args.ty.now) (sym known) in
    let parts : denoted_fields g.T.WasmType.tree c.deref-2.result.now ≡ field_list is.0 = ap (denoted_fields g.T.WasmType.tree) c.deref-2.ensures.value ∙ (c.in_ok-fields.ensures ∙ ap record_parts is.1) in
    ok_so c.tell_left_out.result (λ u out p h. record_told p (g.T.WasmType.tree c.args.ty.now) is.0 (denoted_fields g.T.WasmType.tree c.deref-2.result.now) c.tell_entries.new.seen (place_of c.args.node.now) c.args.told.now.items c.tell_entries.new.told.items c.tell_left_out.new.told.items is.1 parts (sym (inside c.args.source.now c.args.node.now p h.0).place) (c.in_ok-tell_entries.ensures p is.0 h is.1) out) c.tell_left_out.ensures

pub tell_entries-loop-key-init : goal.tell_entries-loop-key-init
tell_entries-loop-key-init g t c =
    let value : IsValueOf c.args.source.now c.args.node.now = assumption in
    let names : HasNames c.args.seen.now [] = assumption in
    record {
      parsed = c.in-Ok.ensures.2 c.args.source.now value;
      left = λ p fs h ty is. entries_start fs c.args.source.now (entry_list (record_nodes c.args.source.now c.args.node.now p h ty).given) (span_of p) c.in-Ok.entries c.args.seen.now c.args.told.now.items (subst (λ (ps : List (NodeTree × NodeTree)). AreEntriesOf c.args.source.now ps (entry_list (record_nodes c.args.source.now c.args.node.now p h ty).given)) (sym c.in-Ok.ensures.1) (record_nodes c.args.source.now c.args.node.now p h ty).nodes) names;
    }

pub tell_entries-tell-requires : goal.tell_entries-tell-requires
tell_entries-tell-requires g t c κs within =
    let looks : LooksUp g.T.WasmType.tree c.args.types.now (record_parts (g.T.WasmType.tree c.args.ty.now)) = assumption in
    let got : look_up (record_parts (g.T.WasmType.tree c.args.ty.now)) c.in-Some-2.name.now ≡ Some (g.T.WasmType.tree c.in-Some-get.field.now.now) = field_got g.T.WasmType.tree c.args.types.now (record_parts (g.T.WasmType.tree c.args.ty.now)) c.in-Some-2.name.now (Some c.in-Some-get.field.now) looks c.in-Some-get.ensures.value in
    (omega (arith, field_depth (g.T.WasmType.tree c.args.ty.now) c.in-Some-2.name.now (g.T.WasmType.tree c.in-Some-get.field.now.now) got), (within, (first_entry c.args.source.now c.loop-key.entries (c.in-Some.key.now, c.in-Some.value.now) c.next.new.self c.in-Some.ensures.steps c.loop-key.invariant.parsed).0.1))

pub tell_entries-loop-key-preserved-in-Continue-branch-3 : goal.tell_entries-loop-key-preserved-in-Continue-branch-3
tell_entries-loop-key-preserved-in-Continue-branch-3 g t c =
    let looks : LooksUp g.T.WasmType.tree c.args.types.now (record_parts (g.T.WasmType.tree c.args.ty.now)) = assumption in
    let got : look_up (record_parts (g.T.WasmType.tree c.args.ty.now)) c.in-Some-2.name.now ≡ Some (g.T.WasmType.tree c.in-Some-get.field.now.now) = field_got g.T.WasmType.tree c.args.types.now (record_parts (g.T.WasmType.tree c.args.ty.now)) c.in-Some-2.name.now (Some c.in-Some-get.field.now) looks c.in-Some-get.ensures.value in
    record {
      parsed = (first_entry c.args.source.now c.loop-key.entries (c.in-Some.key.now, c.in-Some.value.now) c.next.new.self c.in-Some.ensures.steps c.loop-key.invariant.parsed).1;
      left = λ p fs h ty is. found_next fs c.args.source.now (entry_list (record_nodes c.args.source.now c.args.node.now p h ty).given) (span_of p) c.loop-key.entries (c.in-Some.key.now, c.in-Some.value.now) c.next.new.self c.loop-key.seen c.tell_key.new.seen c.loop-key.unknown c.args.told.now.items c.loop-key.told.items c.tell_key.new.told.items c.tell.new.told.items c.in-Some-2.name (g.T.WasmType.tree c.in-Some-get.field.now.now) c.in-Some.ensures.steps (c.loop-key.invariant.left p fs h ty is) (rw c.in-Some-2.is at c.in_ok-name.ensures) (subst (λ (U : TypeTree). look_up (record_parts U) c.in-Some-2.name.now ≡ Some (g.T.WasmType.tree c.in-Some-get.field.now.now)) is got) c.in_ok-tell-in-Some-get.ensures;
    }

pub tell_entries-loop-key-preserved-then-not-unknown : goal.tell_entries-loop-key-preserved-then-not-unknown
tell_entries-loop-key-preserved-then-not-unknown g t c =
    let looks : LooksUp g.T.WasmType.tree c.args.types.now (record_parts (g.T.WasmType.tree c.args.ty.now)) = assumption in
    let missing : look_up (record_parts (g.T.WasmType.tree c.args.ty.now)) c.in-Some-2.name.now ≡ None = field_got g.T.WasmType.tree c.args.types.now (record_parts (g.T.WasmType.tree c.args.ty.now)) c.in-Some-2.name.now None looks c.in-None.ensures.value in
    record {
      parsed = (first_entry c.args.source.now c.loop-key.entries (c.in-Some.key.now, c.in-Some.value.now) c.next.new.self c.in-Some.ensures.steps c.loop-key.invariant.parsed).1;
      left = λ p fs h ty is. unknown_next fs c.args.source.now (entry_list (record_nodes c.args.source.now c.args.node.now p h ty).given) (span_of p) c.loop-key.entries (c.in-Some.key.now, c.in-Some.value.now) c.next.new.self c.loop-key.seen c.tell_key.new.seen c.loop-key.unknown c.args.told.now.items c.loop-key.told.items c.tell_key.new.told.items c.tell_error.new.told.items c.in-Some-2.name c.new.result c.if-not-unknown.true c.in-Some.ensures.steps (c.loop-key.invariant.left p fs h ty is) (rw c.in-Some-2.is at c.in_ok-name.ensures) (subst (λ (U : TypeTree). look_up (record_parts U) c.in-Some-2.name.now ≡ None) is missing) (c.new.ensures.refusal, c.new.ensures.span ∙ (c.span.ensures ∙ sym (inside c.args.source.now c.args.node.now p h.0).place)) c.in_ok-tell_error-in-None.ensures;
    }

pub tell_entries-loop-key-preserved-else-not-unknown : goal.tell_entries-loop-key-preserved-else-not-unknown
tell_entries-loop-key-preserved-else-not-unknown g t c =
    let looks : LooksUp g.T.WasmType.tree c.args.types.now (record_parts (g.T.WasmType.tree c.args.ty.now)) = assumption in
    let missing : look_up (record_parts (g.T.WasmType.tree c.args.ty.now)) c.in-Some-2.name.now ≡ None = field_got g.T.WasmType.tree c.args.types.now (record_parts (g.T.WasmType.tree c.args.ty.now)) c.in-Some-2.name.now None looks c.in-None.ensures.value in
    record {
      parsed = (first_entry c.args.source.now c.loop-key.entries (c.in-Some.key.now, c.in-Some.value.now) c.next.new.self c.in-Some.ensures.steps c.loop-key.invariant.parsed).1;
      left = λ p fs h ty is. again_next fs c.args.source.now (entry_list (record_nodes c.args.source.now c.args.node.now p h ty).given) (span_of p) c.loop-key.entries (c.in-Some.key.now, c.in-Some.value.now) c.next.new.self c.loop-key.seen c.tell_key.new.seen c.loop-key.unknown c.args.told.now.items c.loop-key.told.items c.tell_key.new.told.items c.in-Some-2.name c.if-not-unknown.false c.in-Some.ensures.steps (c.loop-key.invariant.left p fs h ty is) (rw c.in-Some-2.is at c.in_ok-name.ensures) (subst (λ (U : TypeTree). look_up (record_parts U) c.in-Some-2.name.now ≡ None) is missing);
    }

pub tell_entries-loop-key-preserved : goal.tell_entries-loop-key-preserved
tell_entries-loop-key-preserved g t c =
    record {
      parsed = (first_entry c.args.source.now c.loop-key.entries (c.in-Some.key.now, c.in-Some.value.now) c.next.new.self c.in-Some.ensures.steps c.loop-key.invariant.parsed).1;
      left = λ p fs h ty is. nameless_next fs c.args.source.now (entry_list (record_nodes c.args.source.now c.args.node.now p h ty).given) (span_of p) c.loop-key.entries (c.in-Some.key.now, c.in-Some.value.now) c.next.new.self c.loop-key.seen c.tell_key.new.seen c.loop-key.unknown c.args.told.now.items c.loop-key.told.items c.tell_key.new.told.items c.in-Some.ensures.steps (c.loop-key.invariant.left p fs h ty is) (rw c.in_default-2.is at c.in_ok-name.ensures);
    }

pub tell_entries-returns : goal.tell_entries-returns
tell_entries-returns g t c =
    let ty : type_of c.args.node.now ≡ kind.TupleSet = assumption in
    λ p fs h is. entries_end fs c.args.source.now p (entry_list (record_nodes c.args.source.now c.args.node.now p h ty).given) c.loop-key.entries c.loop-key.seen c.loop-key.unknown c.args.told.now.items c.loop-key.told.items c.in_default-next.ensures.steps.0 (record_nodes c.args.source.now c.args.node.now p h ty).taken (c.loop-key.invariant.left p fs h ty is)
