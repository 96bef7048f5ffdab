use Rattle.std.proofs.Common.{◌≡◌, ◌++◌, true, inl, inr, ap, subst, ◌∙◌}
use Rattle.wave_wasm.specs.Borrowed.{texts}
use Rattle.wave_grammar.specs.ErrorSpans.{LiesInNode}
use Rattle.wave_explain.specs.ValueExplained.{is_of_type}
use Rattle.wave_explain.specs.CallExplained.{parameter_text}
use Rattle.wave_explain.proofs.Reported.{has_type, as_many, none_reported, ok_with}
use Rattle.wave_explain.proofs.call.report_params.Goals as goal

pub returns-in-Some : goal.returns-in-Some
returns-in-Some g c =
    let tree = g.F.Type.WasmType.tree in
    let i = c.in-Some.i in
    let found = c.in-Some.ensures.some in
    let count = c.len.ensures ∙ c.in_ok-types.types.ok.0 in
    let kind = subst (λ k. is_of_type k ≡ true) c.kind.ensures c.in-Some.ensures.kind in
    let named =
    c.in_ok-push_parameter-in-Some.ensures
    ∙ (ap (λ x. x ++ parameter_text (texts c.in_ok-names.names.items) i) c.requires.path ∙ ap (λ ns. parameter_text ns i) c.in_ok-names.ensures.names) in
    ok_with c.report_part.result (λ mark reported within. inl (
      kind,
      record {
        call = c.args.call.now;
        is_call = c.requires.call;
        index = i;
        value = c.in-Some.value.now;
        expected = tree c.index.result.now.now;
        gives = found.1;
        has_type = has_type tree _ c.in_ok-types.types.items c.len.result i c.index.result.now count found.0 c.index.ensures c.in_ok-types.ensures;
        holds = subst (LiesInNode c.in-Some.value.now) c.span-span.ensures found.2;
        way = reported.0;
        path_is = reported.1 ∙ ap (λ x. x ++ reported.0) named;
        part = reported.2;
      },
      within,
    )) c.report_part.ensures.reported c.report_part.ensures.mark

pub returns : goal.returns
returns g c =
    let many = as_many g.F.Type.WasmType.tree _ c.in_ok-types.types.items c.len.result (c.len.ensures ∙ c.in_ok-types.types.ok.0) c.in_ok-types.ensures in
    inr (c.requires.path, none_reported _ _ _ _ _ _ _ _ c.kind.ensures c.span-span.ensures c.requires.call many c.in-None.ensures.none, inl c.span-span.ensures, λ unexpected. absurd (c.requires.kind unexpected))
