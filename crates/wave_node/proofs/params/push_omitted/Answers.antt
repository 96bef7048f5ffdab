use Rattle.std.proofs.Common.{map, sym, subst}
use Rattle.wave_grammar.specs.TypedGrammar.{IsOption}
use Rattle.wave_grammar.proofs.Elaboration.ParamsInTurn.{omission_refused, omitted_more, error_handed}
use Rattle.wave_grammar.proofs.ByKind.Lists.{HasAt}
use Rattle.wave_grammar.proofs.ByKind.Tuples.{place_has, map_has, all_has}
use Rattle.wave_grammar.specs.ErrorSpans.{IsAtPlace}
use Rattle.wave_grammar.proofs.ErrorSpans.Nodes.{built_cause, memory_at}
use Rattle.wave_node.proofs.params.push_omitted.Goals as goal

pub returns-in-Err-clause-refused : goal.returns-in-Err-clause-refused
returns-in-Err-clause-refused g c =
    let Ts = map g.P.ParamType.denoted c.args.types.now in
    let i = c.loop-ty.ty-index in
    let here = subst (HasAt Ts i) (sym c.as_type.ensures) (map_has g.P.ParamType.denoted c.args.types.now i c.ty-item.result (place_has c.args.types.now i c.ty-item.result c.loop-ty-test.true c.ty-item.is)) in
    omission_refused g.V.WasmValue.tree g.V.WasmValue.is_of g.V.WasmValue.is_full Ts c.args.at i (g.V.Type.WasmType.tree c.as_type.result.now) c.in-Err.cause c.with_cause.result here c.requires c.in-Err.ensures.full c.with_cause.ensures.refusal c.with_cause.ensures.span

pub loop-ty-preserved : goal.loop-ty-preserved
loop-ty-preserved g c =
    let Ts = map g.P.ParamType.denoted c.args.types.now in
    let i = c.loop-ty.ty-index in
    let T = g.V.Type.WasmType.tree c.as_type.result.now in
    let here = subst (HasAt Ts i) (sym c.as_type.ensures) (map_has g.P.ParamType.denoted c.args.types.now i c.ty-item.result (place_has c.args.types.now i c.ty-item.result c.loop-ty-test.true c.ty-item.is)) in
    let (others, is, omitted) = c.loop-ty.invariant in
    omitted_more g.V.WasmValue.tree g.V.WasmValue.is_of g.V.WasmValue.is_full Ts c.args.vals.now.items others i T c.in-Ok.val c.loop-ty.vals.items c.push_at.new.vals.items here (all_has IsOption Ts i T c.requires here) c.in-Ok.ensures.built is c.in_ok-push_at.ensures.kept omitted

pub returns-in-Err-clause-within : goal.returns-in-Err-clause-within
returns-in-Err-clause-within g c = (c.with_cause.ensures.span, built_cause c.in-Err.cause c.with_cause.result c.with_cause.ensures.refusal)

pub returns-in_err-push_at-clause-within : goal.returns-in_err-push_at-clause-within
returns-in_err-push_at-clause-within g c =
    error_handed (IsAtPlace c.args.at) c.from_residual.result c.in_err-push_at.field-0.0 c.from_residual.ensures.1 (memory_at c.args.at c.in_err-push_at.field-0.0 c.in_err-push_at.ensures.refused c.in_err-push_at.ensures.place)
