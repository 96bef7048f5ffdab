use Rattle.std.proofs.Common.{map, sym, ap, ◌∙◌}
use Rattle.wave_wasm.specs.Types.{kind_of}
use Rattle.wave_grammar.specs.TypedGrammar.{IsOption}
use Rattle.wave_grammar.specs.NodeParams.{IsNoOption}
use Rattle.wave_grammar.proofs.Elaboration.ParamsInTurn.{option_kind, no_option_kind, all_more, some_of}
use Rattle.wave_grammar.proofs.ByKind.Tuples.{place_has, map_has}
use Rattle.wave_node.proofs.params.are_options.Goals as goal

pub returns-then-not-is_option : goal.returns-then-not-is_option
returns-then-not-is_option g c =
    let here = map_has g.P.ParamType.denoted c.args.types.now c.loop-ty.ty-index c.ty-item.result (place_has c.args.types.now c.loop-ty.ty-index c.ty-item.result c.loop-ty-test.true c.ty-item.is) in
    some_of IsNoOption (map g.P.ParamType.denoted c.args.types.now) c.loop-ty.ty-index (g.P.ParamType.denoted c.ty-item.result) here
    (no_option_kind (g.P.ParamType.denoted c.ty-item.result) (λ e. cc (sym c.if-not-is_option.true ∙ c.is_option.ensures.1 (c.kind.ensures ∙ (ap kind_of c.as_type.ensures ∙ e)))))

pub loop-ty-preserved : goal.loop-ty-preserved
loop-ty-preserved g c =
    let here = map_has g.P.ParamType.denoted c.args.types.now c.loop-ty.ty-index c.ty-item.result (place_has c.args.types.now c.loop-ty.ty-index c.ty-item.result c.loop-ty-test.true c.ty-item.is) in
    all_more IsOption (map g.P.ParamType.denoted c.args.types.now) c.loop-ty.ty-index (g.P.ParamType.denoted c.ty-item.result) here c.loop-ty.invariant
    (option_kind (g.P.ParamType.denoted c.ty-item.result) (sym (c.kind.ensures ∙ ap kind_of c.as_type.ensures) ∙ c.is_option.ensures.0 c.if-not-is_option.false))
