use Rattle.std.proofs.Common.{◌≡◌, ◌≤◌, ◌-◌, length, map, take, drop, inl, inr, sym, subst, arith}
use Rattle.wave_grammar.specs.NodeParams.{RefusesParams, RefusesOmitted}
use Rattle.wave_grammar.proofs.ByKind.Lists.{HasAt}
use Rattle.wave_grammar.proofs.ByKind.Tuples.{tuple_nodes, given_items, tuple_item, place_has, map_has}
use Rattle.wave_grammar.proofs.Elaboration.ParamsInTurn.{mapped_count, rest_mapped, error_handed, handed_is, too_many_refused, item_kept, item_refused, missing_refused, params_read, params_count, pushed, omitted_refused}
use Rattle.std.proofs.Common.{ℕ, ap, ◌∙◌}
use Rattle.std.specs.declared.ops.Range.{Range}
use Rattle.wave_lex.specs.Errors.{Diagnostic, Refusal}
use Rattle.wave_lex.specs.declared.error.ParserErrorKind.TheVariants as because
use Rattle.wave_grammar.specs.NodeTree.{place_of}
use Rattle.wave_grammar.specs.NodeAccessors.{RefusedAs}
use Rattle.wave_lex.specs.Errors.{LiesInText}
use Rattle.wave_grammar.specs.ErrorSpans.{IsAtPlace, IsCausedIn, IsTypeKind, HasParamsKind}
use Rattle.wave_grammar.proofs.ErrorSpans.Nodes.{at_in, at_in_text, form_at, memory_at, memory_here, node_in_text, deeper_at, close_lies, said_params_kind, omitted_kind}
use Rattle.wave_grammar.proofs.NodeMeaning.Keys.{other_value}
use Rattle.wave_node.proofs.ast.Node.read_params.Goals as goal

pub returns-then-i-types-clause-refused : goal.returns-then-i-types-clause-refused
returns-then-i-types-clause-refused g c = λ t is.
    let Ts = (map g.P.ParamType.denoted c.args.types.now) in
    let ns = c.in_ok-nodes.nodes.now in
    let src = c.args.src.now in
    let inner = tuple_nodes src c.args.self.now t is c.in_ok-nodes.ensures.0 in
    let nodes = given_items src c.args.self.now t ns is c.in_ok-nodes.ensures.0 c.in_ok-nodes.ensures.1 in
    let before = c.loop-i.invariant.2 inner.items nodes in
    let many = mapped_count g.P.ParamType.denoted c.args.types.now in
    let fits : c.loop-i.i ≤ length Ts = omega (arith, c.loop-i.invariant.0, many) in
    inr (inner.items, inner.shape, too_many_refused g.V.WasmValue.tree g.V.WasmValue.is_of g.V.WasmValue.is_full src Ts ns inner.items c.loop-i.vals.items c.loop-i.i c.index-nodes-i.result c.args.self.now c.too_many.result nodes c.loop-i-test.true c.index-nodes-i.is fits (omega (arith, c.if-i-types.true, many)) before c.too_many.ensures)

pub to_wasm_value-requires : goal.to_wasm_value-requires
to_wasm_value-requires g c = inl (tuple_item c.args.src.now c.args.self.now c.in_ok-nodes.nodes.now c.loop-i.i c.index-nodes-i-in-loop-i.result (other_value c.args.src.now c.args.self.now (λ label. cc (sym c.in_ok-nodes.ensures.0 ∙ label)) c.requires) c.in_ok-nodes.ensures.0 c.in_ok-nodes.ensures.1 c.loop-i-test.true c.index-nodes-i-in-loop-i.is)

pub returns-in_err-val-clause-refused : goal.returns-in_err-val-clause-refused
returns-in_err-val-clause-refused g c = λ t is.
    let Ts = (map g.P.ParamType.denoted c.args.types.now) in
    let ns = c.in_ok-nodes.nodes.now in
    let src = c.args.src.now in
    let inner = tuple_nodes src c.args.self.now t is c.in_ok-nodes.ensures.0 in
    let nodes = given_items src c.args.self.now t ns is c.in_ok-nodes.ensures.0 c.in_ok-nodes.ensures.1 in
    let before = c.loop-i.invariant.2 inner.items nodes in
    let many = mapped_count g.P.ParamType.denoted c.args.types.now in
    let fits : c.loop-i.i ≤ length Ts = omega (arith, c.loop-i.invariant.0, many) in
    let T = g.V.Type.WasmType.tree c.as_type.result.now in
    let typed = subst (HasAt Ts c.loop-i.i) (sym c.as_type.ensures) (map_has g.P.ParamType.denoted c.args.types.now c.loop-i.i c.index-types-i.result (place_has c.args.types.now c.loop-i.i c.index-types-i.result c.if-i-types.false c.index-types-i.is)) in
    error_handed (RefusesParams g.V.WasmValue.is_full Ts c.args.self.now t) c.from_residual-in_err-val.result c.in_err-val.field-0.0 c.from_residual-in_err-val.ensures.1
    (inr (
      inner.items,
      inner.shape,
      item_refused g.V.WasmValue.tree g.V.WasmValue.is_of g.V.WasmValue.is_full src Ts ns inner.items c.loop-i.vals.items c.loop-i.i c.index-nodes-i-in-loop-i.result T c.args.self.now c.in_err-val.field-0.0 nodes c.loop-i-test.true c.index-nodes-i-in-loop-i.is (omega (arith, c.if-i-types.false, many)) typed before
          c.in_err-val.ensures.answer c.in_err-val.ensures.within c.in_err-val.ensures.kind,
    ))

pub returns-in_err-push-clause-refused : goal.returns-in_err-push-clause-refused
returns-in_err-push-clause-refused g c = λ t is.
    let inner = tuple_nodes c.args.src.now c.args.self.now t is c.in_ok-nodes.ensures.0 in
    error_handed (RefusesParams g.V.WasmValue.is_full (map g.P.ParamType.denoted c.args.types.now) c.args.self.now t) c.from_residual-in_err-push.result c.in_err-push.field-0.0 c.from_residual-in_err-push.ensures.1
    (inr (inner.items, inner.shape, inl c.in_err-push.ensures.refused))

pub loop-i-preserved : goal.loop-i-preserved
loop-i-preserved g c =
    let Ts = (map g.P.ParamType.denoted c.args.types.now) in
    let T = g.V.Type.WasmType.tree c.as_type.result.now in
    let typed = subst (HasAt Ts c.loop-i.i) (sym c.as_type.ensures) (map_has g.P.ParamType.denoted c.args.types.now c.loop-i.i c.index-types-i.result (place_has c.args.types.now c.loop-i.i c.index-types-i.result c.if-i-types.false c.index-types-i.is)) in (
      omega (arith, c.if-i-types.false),
      pushed c.loop-i.vals.items c.push.new.items.items c.in_ok-val.val c.loop-i.i c.in_ok-push.ensures.kept c.loop-i.invariant.1,
      λ ts nodes.
          item_kept g.V.WasmValue.tree g.V.WasmValue.is_of g.V.WasmValue.is_full c.args.src.now Ts c.in_ok-nodes.nodes.now ts c.loop-i.vals.items c.push.new.items.items c.loop-i.i c.index-nodes-i-in-loop-i.result T c.in_ok-val.val nodes c.loop-i-test.true c.index-nodes-i-in-loop-i.is typed (c.loop-i.invariant.2 ts nodes)
          c.in_ok-val.ensures.answer c.in_ok-push.ensures.kept,
    )

pub returns-then-not-are_options-clause-refused : goal.returns-then-not-are_options-clause-refused
returns-then-not-are_options-clause-refused g c = λ t is.
    let Ts = (map g.P.ParamType.denoted c.args.types.now) in
    let ns = c.in_ok-nodes.nodes.now in
    let src = c.args.src.now in
    let inner = tuple_nodes src c.args.self.now t is c.in_ok-nodes.ensures.0 in
    let nodes = given_items src c.args.self.now t ns is c.in_ok-nodes.ensures.0 c.in_ok-nodes.ensures.1 in
    let before = c.loop-i.invariant.2 inner.items nodes in
    let many = mapped_count g.P.ParamType.denoted c.args.types.now in
    let fits : c.loop-i.i ≤ length Ts = omega (arith, c.loop-i.invariant.0, many) in
    let Left = map g.P.ParamType.denoted (take (length c.args.types.now - length ns) (drop (length ns) c.args.types.now)) in
    let left : Left ≡ drop (length ns) Ts = rest_mapped g.P.ParamType.denoted c.args.types.now (length ns) in
    inr (inner.items, inner.shape, missing_refused g.V.WasmValue.tree g.V.WasmValue.is_of g.V.WasmValue.is_full src Ts Left ns inner.items c.loop-i.vals.items c.loop-i.i c.args.self.now c.missing.result nodes c.loop-i.auto.i-end c.loop-i-test.false fits before left c.if-not-are_options.ensures c.missing.ensures)

pub returns-in_err-push_omitted-clause-refused : goal.returns-in_err-push_omitted-clause-refused
returns-in_err-push_omitted-clause-refused g c = λ t is.
    let Ts = (map g.P.ParamType.denoted c.args.types.now) in
    let ns = c.in_ok-nodes.nodes.now in
    let src = c.args.src.now in
    let inner = tuple_nodes src c.args.self.now t is c.in_ok-nodes.ensures.0 in
    let nodes = given_items src c.args.self.now t ns is c.in_ok-nodes.ensures.0 c.in_ok-nodes.ensures.1 in
    let before = c.loop-i.invariant.2 inner.items nodes in
    let many = mapped_count g.P.ParamType.denoted c.args.types.now in
    let fits : c.loop-i.i ≤ length Ts = omega (arith, c.loop-i.invariant.0, many) in
    let Left = map g.P.ParamType.denoted (take (length c.args.types.now - length ns) (drop (length ns) c.args.types.now)) in
    let left : Left ≡ drop (length ns) Ts = rest_mapped g.P.ParamType.denoted c.args.types.now (length ns) in
    error_handed (RefusesParams g.V.WasmValue.is_full Ts c.args.self.now t) c.from_residual-in_err-push_omitted.result c.in_err-push_omitted.field-0.0 c.from_residual-in_err-push_omitted.ensures.1
    (inr (
      inner.items,
      inner.shape,
      omitted_refused g.V.WasmValue.tree g.V.WasmValue.is_of g.V.WasmValue.is_full src Ts Left ns inner.items c.loop-i.vals.items c.loop-i.i c.args.self.now c.in_err-push_omitted.field-0.0 nodes c.loop-i.auto.i-end c.loop-i-test.false fits before left
          (subst (λ (p : Range ℕ). RefusesOmitted g.V.WasmValue.is_full Left p c.in_err-push_omitted.field-0.0) c.span.ensures c.in_err-push_omitted.ensures.refused),
    ))

pub returns-clause-count : goal.returns-clause-count
returns-clause-count g c =
    let Ts = (map g.P.ParamType.denoted c.args.types.now) in
    let ns = c.in_ok-nodes.nodes.now in
    let many = mapped_count g.P.ParamType.denoted c.args.types.now in
    let fits : c.loop-i.i ≤ length Ts = omega (arith, c.loop-i.invariant.0, many) in
    let Left = map g.P.ParamType.denoted (take (length c.args.types.now - length ns) (drop (length ns) c.args.types.now)) in
    let left : Left ≡ drop (length ns) Ts = rest_mapped g.P.ParamType.denoted c.args.types.now (length ns) in
    params_count g.V.WasmValue.tree g.V.WasmValue.is_of g.V.WasmValue.is_full Ts Left c.loop-i.vals.items c.push_omitted.new.vals.items c.loop-i.i (length ns) c.loop-i.auto.i-end c.loop-i-test.false fits c.loop-i.invariant.1 left
    c.in_ok-push_omitted.ensures.values
    ∙ many

pub returns-clause-values : goal.returns-clause-values
returns-clause-values g c = λ t is.
    let Ts = (map g.P.ParamType.denoted c.args.types.now) in
    let ns = c.in_ok-nodes.nodes.now in
    let src = c.args.src.now in
    let inner = tuple_nodes src c.args.self.now t is c.in_ok-nodes.ensures.0 in
    let nodes = given_items src c.args.self.now t ns is c.in_ok-nodes.ensures.0 c.in_ok-nodes.ensures.1 in
    let before = c.loop-i.invariant.2 inner.items nodes in
    let many = mapped_count g.P.ParamType.denoted c.args.types.now in
    let fits : c.loop-i.i ≤ length Ts = omega (arith, c.loop-i.invariant.0, many) in
    let Left = map g.P.ParamType.denoted (take (length c.args.types.now - length ns) (drop (length ns) c.args.types.now)) in
    let left : Left ≡ drop (length ns) Ts = rest_mapped g.P.ParamType.denoted c.args.types.now (length ns) in (
      inner.items,
      inner.shape,
      params_read g.V.WasmValue.tree g.V.WasmValue.is_of g.V.WasmValue.is_full src Ts Left ns inner.items c.loop-i.vals.items c.push_omitted.new.vals.items c.loop-i.i nodes c.loop-i.auto.i-end c.loop-i-test.false fits before left
          c.in_ok-push_omitted.ensures.values,
    )

pub returns-in_err-nodes-clause-within : goal.returns-in_err-nodes-clause-within
returns-in_err-nodes-clause-within g c =
    error_handed (λ (x : Diagnostic). LiesInText c.args.src.now x.span) c.from_residual.result c.in_err-nodes.field-0.0 c.from_residual.ensures.1 (at_in_text c.args.src.now c.args.self.now c.in_err-nodes.field-0.0 c.requires (form_at c.args.self.now c.in_err-nodes.field-0.0 c.in_err-nodes.ensures.1).0)

pub returns-in_err-nodes-clause-caused : goal.returns-in_err-nodes-clause-caused
returns-in_err-nodes-clause-caused g c =
    error_handed (λ (x : Diagnostic). x.kind ≡ because.WasmValueError → IsCausedIn c.args.self.now x) c.from_residual.result c.in_err-nodes.field-0.0 c.from_residual.ensures.1 ((at_in c.args.src.now c.args.self.now c.in_err-nodes.field-0.0 c.requires (form_at c.args.self.now c.in_err-nodes.field-0.0 c.in_err-nodes.ensures.1)).0.caused)

pub returns-then-i-types-clause-within : goal.returns-then-i-types-clause-within
returns-then-i-types-clause-within g c =
    subst (LiesInText c.args.src.now) (sym c.too_many.ensures.stands) (node_in_text c.args.src.now c.index-nodes-i.result (inl (tuple_item c.args.src.now c.args.self.now c.in_ok-nodes.nodes.now c.loop-i.i c.index-nodes-i.result (other_value c.args.src.now c.args.self.now (λ label. cc (sym c.in_ok-nodes.ensures.0 ∙ label)) c.requires) c.in_ok-nodes.ensures.0 c.in_ok-nodes.ensures.1 c.loop-i-test.true c.index-nodes-i.is)))

pub returns-then-i-types-clause-caused : goal.returns-then-i-types-clause-caused
returns-then-i-types-clause-caused g c =
    λ was. absurd (cc (sym (ap (λ (r : Refusal). r.kind) c.too_many.ensures.is) ∙ was))

pub returns-in_err-val-clause-within : goal.returns-in_err-val-clause-within
returns-in_err-val-clause-within g c =
    error_handed (λ (x : Diagnostic). LiesInText c.args.src.now x.span) c.from_residual-in_err-val.result c.in_err-val.field-0.0 c.from_residual-in_err-val.ensures.1 (c.in_err-val.ensures.in_text)

pub returns-in_err-val-clause-caused : goal.returns-in_err-val-clause-caused
returns-in_err-val-clause-caused g c =
    error_handed (λ (x : Diagnostic). x.kind ≡ because.WasmValueError → IsCausedIn c.args.self.now x) c.from_residual-in_err-val.result c.in_err-val.field-0.0 c.from_residual-in_err-val.ensures.1 ((deeper_at c.args.src.now c.args.self.now c.in_ok-nodes.nodes.now c.loop-i.i c.index-nodes-i-in-loop-i.result c.in_err-val.field-0.0 (other_value c.args.src.now c.args.self.now (λ label. cc (sym c.in_ok-nodes.ensures.0 ∙ label)) c.requires) c.in_ok-nodes.ensures.1 c.loop-i-test.true c.index-nodes-i-in-loop-i.is (c.in_err-val.ensures.within, c.in_err-val.ensures.kind)).0.caused)

pub returns-in_err-push-clause-within : goal.returns-in_err-push-clause-within
returns-in_err-push-clause-within g c =
    error_handed (λ (x : Diagnostic). LiesInText c.args.src.now x.span) c.from_residual-in_err-push.result c.in_err-push.field-0.0 c.from_residual-in_err-push.ensures.1 (at_in_text c.args.src.now c.args.self.now c.in_err-push.field-0.0 c.requires (memory_at (place_of c.args.self.now) c.in_err-push.field-0.0 c.in_err-push.ensures.refused c.in_err-push.ensures.place))

pub returns-in_err-push-clause-caused : goal.returns-in_err-push-clause-caused
returns-in_err-push-clause-caused g c =
    error_handed (λ (x : Diagnostic). x.kind ≡ because.WasmValueError → IsCausedIn c.args.self.now x) c.from_residual-in_err-push.result c.in_err-push.field-0.0 c.from_residual-in_err-push.ensures.1 ((at_in c.args.src.now c.args.self.now c.in_err-push.field-0.0 c.requires (memory_here c.args.self.now c.in_err-push.field-0.0 c.in_err-push.ensures.refused c.in_err-push.ensures.place)).0.caused)

pub returns-then-not-are_options-clause-within : goal.returns-then-not-are_options-clause-within
returns-then-not-are_options-clause-within g c =
    subst (LiesInText c.args.src.now) (sym c.missing.ensures.stands) (close_lies c.args.src.now c.args.self.now c.requires)

pub returns-then-not-are_options-clause-caused : goal.returns-then-not-are_options-clause-caused
returns-then-not-are_options-clause-caused g c =
    λ was. absurd (cc (sym (ap (λ (r : Refusal). r.kind) c.missing.ensures.is) ∙ was))

pub returns-in_err-push_omitted-clause-within : goal.returns-in_err-push_omitted-clause-within
returns-in_err-push_omitted-clause-within g c =
    error_handed (λ (x : Diagnostic). LiesInText c.args.src.now x.span) c.from_residual-in_err-push_omitted.result c.in_err-push_omitted.field-0.0 c.from_residual-in_err-push_omitted.ensures.1 (at_in_text c.args.src.now c.args.self.now c.in_err-push_omitted.field-0.0 c.requires (subst (λ (p : Range ℕ). IsAtPlace p c.in_err-push_omitted.field-0.0) c.span.ensures c.in_err-push_omitted.ensures.within))

pub returns-in_err-push_omitted-clause-caused : goal.returns-in_err-push_omitted-clause-caused
returns-in_err-push_omitted-clause-caused g c =
    error_handed (λ (x : Diagnostic). x.kind ≡ because.WasmValueError → IsCausedIn c.args.self.now x) c.from_residual-in_err-push_omitted.result c.in_err-push_omitted.field-0.0 c.from_residual-in_err-push_omitted.ensures.1 ((at_in c.args.src.now c.args.self.now c.in_err-push_omitted.field-0.0 c.requires (subst (λ (p : Range ℕ). IsAtPlace p c.in_err-push_omitted.field-0.0) c.span.ensures c.in_err-push_omitted.ensures.within, omitted_kind g.V.WasmValue.is_full _ _ c.in_err-push_omitted.field-0.0 c.in_err-push_omitted.ensures.refused)).0.caused)

pub returns-in_err-nodes-clause-kind : goal.returns-in_err-nodes-clause-kind
returns-in_err-nodes-clause-kind g c =
    error_handed HasParamsKind c.from_residual.result c.in_err-nodes.field-0.0 c.from_residual.ensures.1 (inl (form_at c.args.self.now c.in_err-nodes.field-0.0 c.in_err-nodes.ensures.1).1)

pub returns-then-i-types-clause-kind : goal.returns-then-i-types-clause-kind
returns-then-i-types-clause-kind g c = said_params_kind c.too_many.result _ _ c.too_many.ensures

pub returns-in_err-val-clause-kind : goal.returns-in_err-val-clause-kind
returns-in_err-val-clause-kind g c =
    error_handed HasParamsKind c.from_residual-in_err-val.result c.in_err-val.field-0.0 c.from_residual-in_err-val.ensures.1 (inl c.in_err-val.ensures.kind)

pub returns-in_err-push-clause-kind : goal.returns-in_err-push-clause-kind
returns-in_err-push-clause-kind g c =
    error_handed HasParamsKind c.from_residual-in_err-push.result c.in_err-push.field-0.0 c.from_residual-in_err-push.ensures.1 (inl (subst IsTypeKind (sym c.in_err-push.ensures.refused) tt))

pub returns-then-not-are_options-clause-kind : goal.returns-then-not-are_options-clause-kind
returns-then-not-are_options-clause-kind g c = said_params_kind c.missing.result _ _ c.missing.ensures

pub returns-in_err-push_omitted-clause-kind : goal.returns-in_err-push_omitted-clause-kind
returns-in_err-push_omitted-clause-kind g c =
    error_handed HasParamsKind c.from_residual-in_err-push_omitted.result c.in_err-push_omitted.field-0.0 c.from_residual-in_err-push_omitted.ensures.1 (inl (omitted_kind g.V.WasmValue.is_full _ _ c.in_err-push_omitted.field-0.0 c.in_err-push_omitted.ensures.refused))

pub returns-in_err-nodes-clause-form : goal.returns-in_err-nodes-clause-form
returns-in_err-nodes-clause-form g c = λ apart. handed_is (RefusedAs because.InvalidType c.args.self.now) c.from_residual.result c.in_err-nodes.field-0.0 c.from_residual.ensures.1 c.in_err-nodes.ensures.1

pub returns-then-i-types-clause-form : goal.returns-then-i-types-clause-form
returns-then-i-types-clause-form g c = λ apart. absurd (apart c.in_ok-nodes.ensures.0)

pub returns-in_err-val-clause-form : goal.returns-in_err-val-clause-form
returns-in_err-val-clause-form g c = λ apart. absurd (apart c.in_ok-nodes.ensures.0)

pub returns-in_err-push-clause-form : goal.returns-in_err-push-clause-form
returns-in_err-push-clause-form g c = λ apart. absurd (apart c.in_ok-nodes.ensures.0)

pub returns-then-not-are_options-clause-form : goal.returns-then-not-are_options-clause-form
returns-then-not-are_options-clause-form g c = λ apart. absurd (apart c.in_ok-nodes.ensures.0)

pub returns-in_err-push_omitted-clause-form : goal.returns-in_err-push_omitted-clause-form
returns-in_err-push_omitted-clause-form g c = λ apart. absurd (apart c.in_ok-nodes.ensures.0)

pub returns-clause-form : goal.returns-clause-form
returns-clause-form g c = λ apart. absurd (apart c.in_ok-nodes.ensures.0)
