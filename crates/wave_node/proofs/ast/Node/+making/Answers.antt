use Rattle.std.proofs.Common.{◌≡◌, Some, ◌≢◌, ◌<◌, ◌≤◌, ◌++◌, ◌+◌, [], ◌∷◌, List, length, take, Option, Bor, arith, inl, inr, refl, sym, ap, subst, ◌∙◌}
use Rattle.std.proofs.lemmas.List.{take_all}
use Rattle.wave_wasm.specs.Types.{TypeTree, HasDistinctNames, kind_of}
use Rattle.wave_wasm.specs.Borrowed.{denoted, denoted_fields}
use Rattle.wave_wasm.specs.declared.wasm.WasmTypeKind.TheVariants as kinds
use Rattle.wave_grammar.specs.SpannedTree.{entry_list}
use Rattle.wave_grammar.specs.FaultOrder.{in_text, by_type}
use Rattle.wave_grammar.specs.TypedGrammar.{names_of}
use Rattle.wave_grammar.specs.NodeTree.{NodeTree, type_of, place_of, children_of}
use Rattle.wave_grammar.specs.NodeAccessors.{denoted_node}
use Rattle.wave_grammar.specs.TypedReading.{IsValueOf, IsKeyOf, Answers}
use Rattle.wave_grammar.specs.ErrorSpans.{RefusesIn}
use Rattle.wave_grammar.specs.NodeFields.{fields_at, AnswersField, IsFieldNode}
use Rattle.wave_grammar.specs.declared.form.NodeType.{NodeType}
use Rattle.wave_grammar.specs.declared.form.NodeType.TheVariants as kind
use Rattle.wave_grammar.specs.NodeParts.{IsOfParts, TakesKey, TakesPart}
use Rattle.wave_grammar.proofs.ByKind.Leaves.{said}
use Rattle.wave_grammar.proofs.ByKind.Lists.{HasAt}
use Rattle.wave_grammar.proofs.ByKind.Tuples.{all_has}
use Rattle.wave_grammar.proofs.ErrorSpans.Nodes.{at_in, refused_at, part_in}
use Rattle.wave_grammar.proofs.Fields.Entries.{record_nodes}
use Rattle.wave_grammar.proofs.Fields.FieldOrder.{field_blamed}
use Rattle.wave_grammar.proofs.Fields.Reading.{RecordType, record_is, fields_distinct, given_fields, failed, nodes_blame, field_read}
use Rattle.wave_grammar.proofs.ByKind.MakerAnswers.{handed}
use Rattle.wave_grammar.proofs.Elaboration.ParamsInTurn.{error_handed}
use Rattle.wave_leaf.specs.Leaves.{leaf_node}
use Rattle.wave_leaf.specs.PlainReading.{IsReadSparing}
use Rattle.wave_leaf.proofs.LeafReading.PlainTypes.{no_row_spares}
use Rattle.wave_read.specs.Flat.{ReadsNoRecord}
use Rattle.wave_read.specs.KeptParts.{AreKeptWhereExpected}
use Rattle.wave_read.specs.PartsOfKinds.{AreRefusedAtOnce}
use Rattle.wave_node.proofs.NodeReading.Children.{child_below, key_child, value_child, if_true, if_false, more_children, key_alone, whole_at}
use Rattle.wave_node.proofs.NodeReading.FaultOrder.{read_by_type}
use Rattle.wave_node.proofs.NodeReading.BuilderAnswers.{expected_read, set_no_row, record_read, field_reported, left_reported}
use Rattle.wave_node.proofs.NodeReading.Records.{part_at, as_parts, still_held, held_value, none_before, removed_next, unknown_blame, fields_kept, record_typed, record_done, held_belongs, held_below, depth_of_maybe}
use Rattle.wave_node.proofs.ast.Node.+making.Goals.{make_of_parts-then-takes_key+in_ok-push_key, make_of_parts-else-takes_key+in_ok-built+in_ok-push_part}
use Rattle.wave_node.proofs.ast.Node.+making.Goals as goal
use Rattle.wave_read.proofs.PayloadReading.Surrounding.{expected_within}
use Rattle.wave_leaf.proofs.ReadErrors.HandedOn.{built_in, no_memory, same_or_memory, none_of, typed_of}

-- ---- at the type that is expected

pub make-returns-in-Some : goal.make-returns-in-Some
make-returns-in-Some g t c =
    let set : type_of c.args.self.now ≡ kind.TupleSet = sym c.ty.ensures ∙ c.in-Some.ensures.node in (
      record_read g.V.WasmValue.tree g.V.WasmValue.is_of g.V.WasmValue.is_full by_type by_type g.V.Type.WasmType.tree c.args.src.now c.args.self.now (denoted g.V.Type.WasmType.tree c.args.builder.expected) c.in-Some.wrapper c.in-Some.ty c.wrapped.result set c.in-Some.ensures.wrapper
          (λ T is. c.wrapped.ensures by_type by_type T c.args.src.now c.args.self.now is (sym c.span.ensures) c.read_record-built.ensures),
      no_row_spares (denoted g.V.Type.WasmType.tree c.args.builder.expected) c.args.self.now c.wrapped.result (set_no_row (type_of c.args.self.now) set),
    )

pub make-wrapped-requires : goal.make-wrapped-requires
make-wrapped-requires g t c =
    let set : type_of c.args.self.now ≡ kind.TupleSet = sym c.ty.ensures ∙ c.in-Some.ensures.node in
    expected_within g.V.Type.WasmType.tree g.V.WasmValue.is_of kind.TupleSet c.read_record-built.result (denoted g.V.Type.WasmType.tree c.args.builder.expected) c.in-Some.wrapper c.in-Some.ty c.in-Some.ensures.wrapper c.read_record-built.ensures.typed

pub read-returns-in-Ok : goal.read-returns-in-Ok
read-returns-in-Ok g t c =
    expected_read g.V.WasmValue.tree g.V.WasmValue.is_of g.V.WasmValue.is_full by_type by_type g.V.Type.WasmType.tree c.args.src.now c.args.self.now c.new.result.expected c.args.ty c.in-Ok.built c.new.ensures c.in-Ok.ensures.0

pub read-returns-in-Err : goal.read-returns-in-Err
read-returns-in-Err g t c = no_memory g.V.WasmValue.tree g.V.WasmValue.is_of g.V.WasmValue.is_full by_type by_type (g.V.Type.WasmType.tree c.args.ty.now) c.args.src.now c.args.self.now c.read_error.result c.read_error.ensures

-- ---- records

pub read_record-returns-in-Err : goal.read_record-returns-in-Err
read_record-returns-in-Err g t c = no_memory g.V.WasmValue.tree g.V.WasmValue.is_of g.V.WasmValue.is_full by_type by_type (g.V.Type.WasmType.tree c.args.ty.now) c.args.src.now c.args.self.now c.read_error.result c.read_error.ensures

pub read_record-returns-then-is_err : goal.read_record-returns-then-is_err
read_record-returns-then-is_err g t c = no_memory g.V.WasmValue.tree g.V.WasmValue.is_of g.V.WasmValue.is_full by_type by_type (g.V.Type.WasmType.tree c.args.ty.now) c.args.src.now c.args.self.now c.read_error-then-is_err.result c.read_error-then-is_err.ensures

pub read_record-returns-in-Err-fields : goal.read_record-returns-in-Err-fields
read_record-returns-in-Err-fields g t c =
    let known : kind_of (g.V.Type.WasmType.tree c.args.ty.now) ≡ kinds.Record = assumption in
    let is_record : RecordType (g.V.Type.WasmType.tree c.args.ty.now) (denoted_fields g.V.Type.WasmType.tree c.in-Ok.types.items) = record_is (g.V.Type.WasmType.tree c.args.ty.now) (denoted_fields g.V.Type.WasmType.tree c.in-Ok.types.items) (sym known) c.in-Ok.ensures in
    same_or_memory g.V.WasmValue.tree g.V.WasmValue.is_of g.V.WasmValue.is_full by_type by_type (g.V.Type.WasmType.tree c.args.ty.now) c.args.src.now c.args.self.now c.in-Err-fields.error c.of_error.result (record {
      answer = λ p is distinct. nodes_blame g.V.WasmValue.is_full by_type (g.V.Type.WasmType.tree c.args.ty.now) (denoted_fields g.V.Type.WasmType.tree c.in-Ok.types.items) c.args.src.now c.args.self.now p c.in-Err-fields.error is_record is c.in-Err-fields.ensures.refused;
      within = λ value. c.in-Err-fields.ensures.within;
      typed = tt;
    }) c.of_error.ensures

pub read_record-read_field-requires : goal.read_record-read_field-requires
read_record-read_field-requires g t c κs within =
    let value : IsValueOf c.args.src.now c.args.self.now = assumption in (
      omega (arith, held_below c.args.src.now c.args.self.now (names_of (take c.loop-i.i (denoted_fields g.V.Type.WasmType.tree c.in-Ok.types.items))) c.in-Ok-fields.nodes c.loop-i.nodes c.index.result.now.0.now c.remove-node.result c.in-Ok-fields.ensures.held c.loop-i.invariant.removed c.remove-node.ensures.value),
      (within.0, (within.1, held_value c.args.src.now c.args.self.now value.0 (names_of (take c.loop-i.i (denoted_fields g.V.Type.WasmType.tree c.in-Ok.types.items))) c.in-Ok-fields.nodes c.loop-i.nodes (fields_at c.args.src.now (children_of c.args.self.now)) c.index.result.now.0.now c.remove-node.result value.1 c.in-Ok-fields.ensures.given c.in-Ok-fields.ensures.held c.loop-i.invariant.removed c.remove-node.ensures.value)),
    )

pub read_record-returns-in_err-val : goal.read_record-returns-in_err-val
read_record-returns-in_err-val g t c =
    let known : kind_of (g.V.Type.WasmType.tree c.args.ty.now) ≡ kinds.Record = assumption in
    let is_record : RecordType (g.V.Type.WasmType.tree c.args.ty.now) (denoted_fields g.V.Type.WasmType.tree c.in-Ok.types.items) = record_is (g.V.Type.WasmType.tree c.args.ty.now) (denoted_fields g.V.Type.WasmType.tree c.in-Ok.types.items) (sym known) c.in-Ok.ensures in
    let typed : HasAt (denoted_fields g.V.Type.WasmType.tree c.in-Ok.types.items) c.loop-i.i (c.index.result.now.0.now, (g.V.Type.WasmType.tree c.index.result.now.1.now)) = part_at g.V.Type.WasmType.tree c.in-Ok.types.items c.loop-i.i c.index.result.now (omega arith) c.index.ensures in
    record {
      answer = λ p is distinct.
          let apart = fields_distinct (g.V.Type.WasmType.tree c.args.ty.now) (denoted_fields g.V.Type.WasmType.tree c.in-Ok.types.items) is_record distinct in
          let found = still_held (names_of (take c.loop-i.i (denoted_fields g.V.Type.WasmType.tree c.in-Ok.types.items))) c.in-Ok-fields.nodes c.loop-i.nodes (fields_at c.args.src.now (children_of c.args.self.now)) c.index.result.now.0.now c.remove-node.result c.in-Ok-fields.ensures.held c.loop-i.invariant.removed (none_before (denoted_fields g.V.Type.WasmType.tree c.in-Ok.types.items) c.loop-i.i c.index.result.now.0.now (g.V.Type.WasmType.tree c.index.result.now.1.now) apart.names typed) c.remove-node.ensures.value in
          handed g.V.WasmValue.tree g.V.WasmValue.is_of g.V.WasmValue.is_full by_type by_type (g.V.Type.WasmType.tree c.args.ty.now) p c.in_err-val.field-0.0 c.from_residual.result c.from_residual.ensures.1
          (field_blamed g.V.WasmValue.tree g.V.WasmValue.is_of g.V.WasmValue.is_full by_type (g.V.Type.WasmType.tree c.args.ty.now) (denoted_fields g.V.Type.WasmType.tree c.in-Ok.types.items) c.args.src.now c.args.self.now p (fields_at c.args.src.now (children_of c.args.self.now)) c.loop-i.fields.items c.in_err-val.field-0.0 is_record is c.in-Ok-fields.ensures.given distinct c.loop-i.i c.index.result.now.0.now (g.V.Type.WasmType.tree c.index.result.now.1.now) (denoted_node c.remove-node.result) typed g.met.V.WasmValue.full_parts found (c.loop-i.invariant.read (fields_at c.args.src.now (children_of c.args.self.now)) c.in-Ok-fields.ensures.held (entry_list (record_nodes c.args.src.now c.args.self.now p is c.in-Ok-fields.ensures.given.is_set).given) (given_fields c.args.src.now c.args.self.now p (fields_at c.args.src.now (children_of c.args.self.now)) is c.in-Ok-fields.ensures.given) apart) c.in_err-val.ensures.answer);
      within = λ value. error_handed (RefusesIn c.args.self.now) c.from_residual.result c.in_err-val.field-0.0 c.from_residual.ensures.1 (part_in c.args.src.now c.args.self.now (denoted_node c.remove-node.result) c.in_err-val.field-0.0 (inl value) (held_belongs c.args.src.now c.args.self.now (names_of (take c.loop-i.i (denoted_fields g.V.Type.WasmType.tree c.in-Ok.types.items))) c.in-Ok-fields.nodes c.loop-i.nodes (fields_at c.args.src.now (children_of c.args.self.now)) c.index.result.now.0.now c.remove-node.result value c.in-Ok-fields.ensures.given c.in-Ok-fields.ensures.held c.loop-i.invariant.removed c.remove-node.ensures.value) c.in_err-val.ensures.within);
      typed = none_of g.V.WasmValue.is_of (g.V.Type.WasmType.tree c.args.ty.now) (λ e. e ≡ c.in_err-val.field-0.0) c.from_residual.result c.from_residual.ensures.1;
    }

pub read_record-loop-i-preserved : goal.read_record-loop-i-preserved
read_record-loop-i-preserved g t c =
    let typed : HasAt (denoted_fields g.V.Type.WasmType.tree c.in-Ok.types.items) c.loop-i.i (c.index.result.now.0.now, (g.V.Type.WasmType.tree c.index.result.now.1.now)) = part_at g.V.Type.WasmType.tree c.in-Ok.types.items c.loop-i.i c.index.result.now (omega arith) c.index.ensures in
    let pushed = c.if-is_err.ensures.negation in
    let kept = rw pushed at c.push.ensures.items in
    record {
      removed = removed_next (denoted_fields g.V.Type.WasmType.tree c.in-Ok.types.items) c.loop-i.i c.index.result.now.0.now (g.V.Type.WasmType.tree c.index.result.now.1.now) c.in-Ok-fields.nodes c.loop-i.nodes c.remove-node.new.self typed c.loop-i.invariant.removed c.remove-node.ensures.updates;
      read = λ given held es all apart.
          let found = still_held (names_of (take c.loop-i.i (denoted_fields g.V.Type.WasmType.tree c.in-Ok.types.items))) c.in-Ok-fields.nodes c.loop-i.nodes given c.index.result.now.0.now c.remove-node.result held c.loop-i.invariant.removed (none_before (denoted_fields g.V.Type.WasmType.tree c.in-Ok.types.items) c.loop-i.i c.index.result.now.0.now (g.V.Type.WasmType.tree c.index.result.now.1.now) apart.names typed) c.remove-node.ensures.value in
          fields_kept g.V.WasmValue.tree g.V.WasmValue.is_of g.V.WasmValue.is_full by_type (denoted_fields g.V.Type.WasmType.tree c.in-Ok.types.items) es c.loop-i.fields.items c.push.new.self.items c.loop-i.i c.index.result.now.0.now (g.V.Type.WasmType.tree c.index.result.now.1.now) c.index.result.now.0 c.in_ok-val.val typed (c.loop-i.invariant.read given held es all apart) refl (field_read g.V.WasmValue.tree g.V.WasmValue.is_of g.V.WasmValue.is_full by_type (g.V.Type.WasmType.tree c.index.result.now.1.now) c.args.src.now c.args.self.now given es c.index.result.now.0.now (denoted_node c.remove-node.result) c.in_ok-val.val all (all_has (λ q. HasDistinctNames q.1) (denoted_fields g.V.Type.WasmType.tree c.in-Ok.types.items) c.loop-i.i (c.index.result.now.0.now, (g.V.Type.WasmType.tree c.index.result.now.1.now)) apart.within typed) found c.in_ok-val.ensures.answer) kept;
    }

pub read_record-returns-then-not-is_empty : goal.read_record-returns-then-not-is_empty
read_record-returns-then-not-is_empty g t c =
    let known : kind_of (g.V.Type.WasmType.tree c.args.ty.now) ≡ kinds.Record = assumption in
    let is_record : RecordType (g.V.Type.WasmType.tree c.args.ty.now) (denoted_fields g.V.Type.WasmType.tree c.in-Ok.types.items) = record_is (g.V.Type.WasmType.tree c.args.ty.now) (denoted_fields g.V.Type.WasmType.tree c.in-Ok.types.items) (sym known) c.in-Ok.ensures in
    record {
      answer = λ p is distinct.
          unknown_blame g.V.WasmValue.tree g.V.WasmValue.is_of g.V.WasmValue.is_full by_type (g.V.Type.WasmType.tree c.args.ty.now) (denoted_fields g.V.Type.WasmType.tree c.in-Ok.types.items) c.args.src.now c.args.self.now p (fields_at c.args.src.now (children_of c.args.self.now)) c.loop-i.i c.in-Ok-fields.nodes c.loop-i.nodes c.loop-i.fields.items c.read_error-then-not-is_empty.result is_record distinct is c.in-Ok-fields.ensures.given c.in-Ok-fields.ensures.held (omega (arith, as_parts g.V.Type.WasmType.tree c.in-Ok.types.items)) c.loop-i.invariant.removed (failed c.is_empty.result c.if-not-is_empty.true c.is_empty.ensures.1) (c.loop-i.invariant.read (fields_at c.args.src.now (children_of c.args.self.now)) c.in-Ok-fields.ensures.held (entry_list (record_nodes c.args.src.now c.args.self.now p is c.in-Ok-fields.ensures.given.is_set).given) (given_fields c.args.src.now c.args.self.now p (fields_at c.args.src.now (children_of c.args.self.now)) is c.in-Ok-fields.ensures.given) (fields_distinct (g.V.Type.WasmType.tree c.args.ty.now) (denoted_fields g.V.Type.WasmType.tree c.in-Ok.types.items) is_record distinct)) (said {p = place_of c.args.self.now} c.read_error-then-not-is_empty.ensures);
      within = λ value. at_in c.args.src.now c.args.self.now c.read_error-then-not-is_empty.result (inl value) (refused_at _ c.args.self.now c.read_error-then-not-is_empty.result (λ was. cc) tt c.read_error-then-not-is_empty.ensures);
      typed = tt;
    }

pub read_record-make_record_unchecked-requires : goal.read_record-make_record_unchecked-requires
read_record-make_record_unchecked-requires g t c = λ distinct.
    let known : kind_of (g.V.Type.WasmType.tree c.args.ty.now) ≡ kinds.Record = assumption in
    let value : IsValueOf c.args.src.now c.args.self.now = assumption in
    let is_record : RecordType (g.V.Type.WasmType.tree c.args.ty.now) (denoted_fields g.V.Type.WasmType.tree c.in-Ok.types.items) = record_is (g.V.Type.WasmType.tree c.args.ty.now) (denoted_fields g.V.Type.WasmType.tree c.in-Ok.types.items) (sym known) c.in-Ok.ensures in
    let apart = fields_distinct (g.V.Type.WasmType.tree c.args.ty.now) (denoted_fields g.V.Type.WasmType.tree c.in-Ok.types.items) is_record distinct in
    let es = entry_list (record_nodes c.args.src.now c.args.self.now value.0 value.1 c.in-Ok-fields.ensures.given.is_set).given in
    let read = c.loop-i.invariant.read (fields_at c.args.src.now (children_of c.args.self.now)) c.in-Ok-fields.ensures.held es (given_fields c.args.src.now c.args.self.now value.0 (fields_at c.args.src.now (children_of c.args.self.now)) value.1 c.in-Ok-fields.ensures.given) apart in
    record_typed g.V.WasmValue.tree g.V.WasmValue.is_of g.V.WasmValue.is_full by_type (g.V.Type.WasmType.tree c.args.ty.now) (denoted_fields g.V.Type.WasmType.tree c.in-Ok.types.items) es c.loop-i.i c.loop-i.fields.items is_record apart (omega (arith, as_parts g.V.Type.WasmType.tree c.in-Ok.types.items)) read

pub read_record-returns : goal.read_record-returns
read_record-returns g t c =
    let known : kind_of (g.V.Type.WasmType.tree c.args.ty.now) ≡ kinds.Record = assumption in
    let is_record : RecordType (g.V.Type.WasmType.tree c.args.ty.now) (denoted_fields g.V.Type.WasmType.tree c.in-Ok.types.items) = record_is (g.V.Type.WasmType.tree c.args.ty.now) (denoted_fields g.V.Type.WasmType.tree c.in-Ok.types.items) (sym known) c.in-Ok.ensures in
    let built = c.or_error_at.ensures c.args.self.now (sym c.span.ensures) in
    let value : IsValueOf c.args.src.now c.args.self.now = assumption in
    let answer : Answers g.V.WasmValue.tree g.V.WasmValue.is_of g.V.WasmValue.is_full by_type by_type (g.V.Type.WasmType.tree c.args.ty.now) c.args.src.now c.args.self.now c.or_error_at.result = λ p is distinct.
    let read = c.loop-i.invariant.read (fields_at c.args.src.now (children_of c.args.self.now)) c.in-Ok-fields.ensures.held (entry_list (record_nodes c.args.src.now c.args.self.now p is c.in-Ok-fields.ensures.given.is_set).given) (given_fields c.args.src.now c.args.self.now p (fields_at c.args.src.now (children_of c.args.self.now)) is c.in-Ok-fields.ensures.given) (fields_distinct (g.V.Type.WasmType.tree c.args.ty.now) (denoted_fields g.V.Type.WasmType.tree c.in-Ok.types.items) is_record distinct) in
    record_done g.V.WasmValue.tree g.V.WasmValue.is_of g.V.WasmValue.is_full by_type (g.V.Type.WasmType.tree c.args.ty.now) (denoted_fields g.V.Type.WasmType.tree c.in-Ok.types.items) c.args.src.now c.args.self.now p (fields_at c.args.src.now (children_of c.args.self.now)) c.loop-i.i c.in-Ok-fields.nodes c.loop-i.nodes c.loop-i.fields.items c.make_record_unchecked.result c.or_error_at.result is_record distinct is c.in-Ok-fields.ensures.given c.in-Ok-fields.ensures.held (omega (arith, as_parts g.V.Type.WasmType.tree c.in-Ok.types.items)) c.loop-i.invariant.removed (c.is_empty.ensures.0 c.if-not-is_empty.false) read c.make_record_unchecked.ensures.built c.make_record_unchecked.ensures.full built in
    record {
      answer = answer;
      within = λ value. built_in c.args.src.now c.args.self.now c.make_record_unchecked.result c.or_error_at.result (inl value) built;
      typed = typed_of g.V.WasmValue.tree g.V.WasmValue.is_of g.V.WasmValue.is_full by_type by_type (g.V.Type.WasmType.tree c.args.ty.now) c.args.src.now c.args.self.now c.or_error_at.result value answer;
    }

pub read_field-read-requires : goal.read_field-read-requires
read_field-read-requires g t c κs within =
    let held : IsFieldNode c.args.src.now (denoted_node c.args.node) = assumption in (
      omega (arith, ap (λ (o : Option (Bor NodeTree)). depth_of_maybe (denoted_node o)) c.in-Some.is),
      (within.0, (within.1, subst (λ (o : Option (Bor NodeTree)). IsFieldNode c.args.src.now (denoted_node o)) c.in-Some.is held)),
    )

pub read_field-returns-in-Some-clause-answer : goal.read_field-returns-in-Some-clause-answer
read_field-returns-in-Some-clause-answer g t c =
    subst (λ (o : Option (Bor NodeTree)). AnswersField g.V.WasmValue.tree g.V.WasmValue.is_of g.V.WasmValue.is_full by_type (g.V.Type.WasmType.tree c.args.ty.now) c.args.src.now c.args.name.now c.args.self.now (denoted_node o) c.read.result) (sym c.in-Some.is) c.read.ensures.answer

pub read_field-returns-in-Some-clause-within : goal.read_field-returns-in-Some-clause-within
read_field-returns-in-Some-clause-within g t c =
    let held : IsFieldNode c.args.src.now (denoted_node c.args.node) = assumption in
    field_reported c.args.self.now (denoted_node c.args.node) c.in-Some.node.now c.read.result (ap denoted_node c.in-Some.is)
    (c.read.ensures.within (subst (λ (o : Option (Bor NodeTree)). IsFieldNode c.args.src.now (denoted_node o)) c.in-Some.is held))

pub read_field-returns-in-None-clause-answer : goal.read_field-returns-in-None-clause-answer
read_field-returns-in-None-clause-answer g t c =
    subst (λ (o : Option (Bor NodeTree)). AnswersField g.V.WasmValue.tree g.V.WasmValue.is_of g.V.WasmValue.is_full by_type (g.V.Type.WasmType.tree c.args.ty.now) c.args.src.now c.args.name.now c.args.self.now (denoted_node o) c.left_out.result) (sym c.in-None.is) (c.left_out.ensures.answer c.args.self.now (sym c.span.ensures))

pub read_field-returns-in-None-clause-within : goal.read_field-returns-in-None-clause-within
read_field-returns-in-None-clause-within g t c =
    left_reported c.args.self.now (denoted_node c.args.node) c.left_out.result c.span.result (sym c.span.ensures) c.left_out.ensures.within

-- ---- the parts of other values

pub make_of_parts-returns-in-Some : goal.make_of_parts-returns-in-Some
make_of_parts-returns-in-Some g t c =
    let form : IsOfParts (type_of c.args.self.now) = assumption in
    let parts : IsOfParts c.ty-ty.result = subst IsOfParts (sym c.ty-ty.ensures) form in
    c.in-Some.ensures.refused by_type (denoted g.V.Type.WasmType.tree c.args.builder.expected) c.args.src.now form
    (subst (λ (k : NodeType). AreKeptWhereExpected g.V.Type.WasmType.tree g.V.WasmValue.tree g.V.WasmValue.is_of g.V.WasmValue.is_full by_type (denoted g.V.Type.WasmType.tree c.args.builder.expected) c.args.src.now k [] c.parts-parts.result) c.ty-ty.ensures (c.parts-parts.ensures.begun by_type c.args.src.now parts))
    (λ T expected. subst (λ (k : NodeType). AreRefusedAtOnce g.V.Type.WasmType.tree g.V.WasmValue.tree g.V.WasmValue.is_of g.V.WasmValue.is_full T k c.parts-parts.result.parts) c.ty-ty.ensures (c.parts-parts.ensures.rejected T expected))

pub make-make_of_parts-requires : goal.make-make_of_parts-requires
make-make_of_parts-requires g t c κs within =
    let value : IsValueOf c.args.src.now c.args.self.now = assumption in
    let other : type_of c.args.self.now ≢ kind.Flags = λ e. failed {X = type_of c.args.self.now ≡ kind.Flags} c.is_of.result c.if-is_of.false c.is_of.ensures.1 e in
    let none = subst (λ (k : NodeType). (T : TypeTree) → denoted g.V.Type.WasmType.tree c.args.builder.expected ≡ Some T → ReadsNoRecord T k) c.ty.ensures c.in_default.ensures.none in
    (omega arith, (within.0, (within.1, (value, (if_true _ c.has_parts.result (c.has_parts.ensures c.args.src.now value other) c.if-has_parts.true, none)))))

pub make-make_of_token-requires-clause-form : goal.make-make_of_token-requires-clause-form
make-make_of_token-requires-clause-form g t c =
    let value : IsValueOf c.args.src.now c.args.self.now = assumption in
    let other : type_of c.args.self.now ≢ kind.Flags = λ e. failed {X = type_of c.args.self.now ≡ kind.Flags} c.is_of.result c.if-is_of.false c.is_of.ensures.1 e in
    if_false _ c.has_parts.result (c.has_parts.ensures c.args.src.now value other) c.if-has_parts.false

pub make_of_parts-leaf-key-requires : goal.make_of_parts-leaf-key-requires
make_of_parts-leaf-key-requires g t c =
    let value : IsValueOf c.args.src.now c.args.self.now = assumption in
    let form : IsOfParts (type_of c.args.self.now) = assumption in
    let lt : c.loop-i.i < length (children_of c.args.self.now) = subst (λ (l : List NodeTree). c.loop-i.i < length l) c.nodes-nodes.ensures c.loop-i-test.true in
    let next : TakesKey (type_of c.args.self.now) (take c.loop-i.i (children_of c.args.self.now)) = if_true _ c.takes_key.result (c.takes_key.ensures c.args.src.now value form lt) c.if-takes_key.true in
    inr (key_child c.args.src.now c.args.self.now c.nodes-nodes.result.now c.loop-i.i c.index-nodes-i.result value c.nodes-nodes.ensures next c.loop-i-test.true c.index-nodes-i.is)

pub make_of_parts-make-requires : goal.make_of_parts-make-requires
make_of_parts-make-requires g t c κs within =
    let value : IsValueOf c.args.src.now c.args.self.now = assumption in
    let form : IsOfParts (type_of c.args.self.now) = assumption in
    let lt : c.loop-i.i < length (children_of c.args.self.now) = subst (λ (l : List NodeTree). c.loop-i.i < length l) c.nodes-nodes.ensures c.loop-i-test.true in
    let next : TakesPart (type_of c.args.self.now) (take c.loop-i.i (children_of c.args.self.now)) = if_false _ c.takes_key.result (c.takes_key.ensures c.args.src.now value form lt) c.if-takes_key.false in (
      omega (arith, child_below c.args.self.now c.nodes-nodes.result.now c.loop-i.i c.index-nodes-i.result c.nodes-nodes.ensures c.loop-i-test.true c.index-nodes-i.is),
      (within.0, (within.1, value_child c.args.src.now c.args.self.now c.nodes-nodes.result.now c.loop-i.i c.index-nodes-i.result value c.nodes-nodes.ensures next c.loop-i-test.true c.index-nodes-i.is)),
    )

pub make_of_parts-loop-i-preserved : goal.make_of_parts-loop-i-preserved
make_of_parts-loop-i-preserved g t c =
    let value : IsValueOf c.args.src.now c.args.self.now = assumption in
    let form : IsOfParts (type_of c.args.self.now) = assumption in
    let lt : c.loop-i.i < length (children_of c.args.self.now) = subst (λ (l : List NodeTree). c.loop-i.i < length l) c.nodes-nodes.ensures c.loop-i-test.true in
    let reported = c.takes_key.ensures c.args.src.now value form lt in
    let more = more_children c.args.self.now c.nodes-nodes.result.now c.loop-i.i c.index-nodes-i.result c.nodes-nodes.ensures c.loop-i-test.true c.index-nodes-i.is in
    elim c.if-takes_key.branch [
      | make_of_parts-then-takes_key+in_ok-push_key w ↦
          let next : TakesKey (type_of c.args.self.now) (take c.loop-i.i (children_of c.args.self.now)) = if_true _ c.takes_key.result reported w.if-takes_key.true in
          let key : IsKeyOf c.args.src.now c.index-nodes-i.result = key_child c.args.src.now c.args.self.now c.nodes-nodes.result.now c.loop-i.i c.index-nodes-i.result value c.nodes-nodes.ensures next c.loop-i-test.true c.index-nodes-i.is in
          let here : leaf_node w.leaf-key.result ≡ c.index-nodes-i.result = w.leaf-key.ensures.node ∙ sym (key_alone c.args.src.now c.index-nodes-i.result key) in
          subst (λ p. AreKeptWhereExpected g.V.Type.WasmType.tree g.V.WasmValue.tree g.V.WasmValue.is_of g.V.WasmValue.is_full by_type (denoted g.V.Type.WasmType.tree c.args.builder.expected) c.args.src.now (type_of c.args.self.now) (take (c.loop-i.i + 1) (children_of c.args.self.now)) p) (sym w.parts-is)
          (subst (λ (l : List NodeTree). AreKeptWhereExpected g.V.Type.WasmType.tree g.V.WasmValue.tree g.V.WasmValue.is_of g.V.WasmValue.is_full by_type (denoted g.V.Type.WasmType.tree c.args.builder.expected) c.args.src.now (type_of c.args.self.now) l w.push_key.new.parts) (ap (λ (x : NodeTree). take c.loop-i.i (children_of c.args.self.now) ++ x ∷ []) here ∙ more)
          (w.in_ok-push_key.ensures.kept by_type (denoted g.V.Type.WasmType.tree c.args.builder.expected) c.args.src.now (type_of c.args.self.now) (take c.loop-i.i (children_of c.args.self.now)) w.leaf-key.ensures.text next c.loop-i.invariant))
      | make_of_parts-else-takes_key+in_ok-built+in_ok-push_part w ↦
          let next : TakesPart (type_of c.args.self.now) (take c.loop-i.i (children_of c.args.self.now)) = if_false _ c.takes_key.result reported w.if-takes_key.false in
          let built = subst (λ (o : Option _). IsReadSparing g.V.WasmValue.tree g.V.WasmValue.is_of g.V.WasmValue.is_full by_type by_type (denoted g.V.Type.WasmType.tree o) c.args.src.now c.index-nodes-i.result w.in_ok-built.built) (ap (λ b. b.expected) w.part.ensures) w.in_ok-built.ensures in
          subst (λ p. AreKeptWhereExpected g.V.Type.WasmType.tree g.V.WasmValue.tree g.V.WasmValue.is_of g.V.WasmValue.is_full by_type (denoted g.V.Type.WasmType.tree c.args.builder.expected) c.args.src.now (type_of c.args.self.now) (take (c.loop-i.i + 1) (children_of c.args.self.now)) p) (sym w.parts-is)
          (subst (λ (l : List NodeTree). AreKeptWhereExpected g.V.Type.WasmType.tree g.V.WasmValue.tree g.V.WasmValue.is_of g.V.WasmValue.is_full by_type (denoted g.V.Type.WasmType.tree c.args.builder.expected) c.args.src.now (type_of c.args.self.now) l w.push_part.new.parts) more
          (w.in_ok-push_part.ensures.kept by_type (denoted g.V.Type.WasmType.tree c.args.builder.expected) c.args.src.now (type_of c.args.self.now) (take c.loop-i.i (children_of c.args.self.now)) c.index-nodes-i.result next c.loop-i.invariant built))
    ]

pub make_of_parts-finish-requires : goal.make_of_parts-finish-requires
make_of_parts-finish-requires g t c = (by_type, denoted g.V.Type.WasmType.tree c.args.builder.expected, c.args.src.now, type_of c.args.self.now, take c.loop-i.i (children_of c.args.self.now), c.loop-i.invariant)

pub make_of_parts-returns : goal.make_of_parts-returns
make_of_parts-returns g t c =
    let form : IsOfParts (type_of c.args.self.now) = assumption in
    let parts : IsOfParts c.ty-ty.result = subst IsOfParts (sym c.ty-ty.ensures) form in
    let no_record : (T : TypeTree) → denoted g.V.Type.WasmType.tree c.args.builder.expected ≡ Some T → ReadsNoRecord T (type_of c.args.self.now) = assumption in
    let ended : length (children_of c.args.self.now) ≤ c.loop-i.i = subst (λ (l : List NodeTree). length l ≤ c.loop-i.i) c.nodes-nodes.ensures c.loop-i-test.false in
    let all = subst (λ (l : List NodeTree). AreKeptWhereExpected g.V.Type.WasmType.tree g.V.WasmValue.tree g.V.WasmValue.is_of g.V.WasmValue.is_full by_type (denoted g.V.Type.WasmType.tree c.args.builder.expected) c.args.src.now (type_of c.args.self.now) l c.loop-i.parts) (take_all c.loop-i.i (children_of c.args.self.now) ended) c.loop-i.invariant in
    let read = subst (λ (n : NodeTree). IsReadSparing g.V.WasmValue.tree g.V.WasmValue.is_of g.V.WasmValue.is_full in_text by_type (denoted g.V.Type.WasmType.tree c.args.builder.expected) c.args.src.now n c.finish.result) (whole_at c.args.self.now (type_of c.args.self.now) c.span.result refl c.span.ensures)
    (c.finish.ensures by_type (denoted g.V.Type.WasmType.tree c.args.builder.expected) c.args.src.now (type_of c.args.self.now) (children_of c.args.self.now) all) in
    read_by_type g.V.WasmValue.tree g.V.WasmValue.is_of g.V.WasmValue.is_full by_type (denoted g.V.Type.WasmType.tree c.args.builder.expected) c.args.src.now c.args.self.now c.finish.result no_record
    (λ T expected.
    let begun = subst (λ (o : Option TypeTree). AreKeptWhereExpected g.V.Type.WasmType.tree g.V.WasmValue.tree g.V.WasmValue.is_of g.V.WasmValue.is_full by_type o c.args.src.now c.ty-ty.result [] c.parts-parts.result) expected (c.parts-parts.ensures.begun by_type c.args.src.now parts) in
    c.in_default.ensures.counted by_type T c.args.src.now form (subst (λ (k : NodeType). AreKeptWhereExpected g.V.Type.WasmType.tree g.V.WasmValue.tree g.V.WasmValue.is_of g.V.WasmValue.is_full by_type (Some T) c.args.src.now k [] c.parts-parts.result) c.ty-ty.ensures begun)
    (subst (λ (k : NodeType). AreRefusedAtOnce g.V.Type.WasmType.tree g.V.WasmValue.tree g.V.WasmValue.is_of g.V.WasmValue.is_full T k c.parts-parts.result.parts) c.ty-ty.ensures (c.parts-parts.ensures.rejected T expected))) read
