use Rattle.wave_lex.specs.declared.error.ParserErrorKind.TheVariants as because
use Rattle.wave_grammar.proofs.ErrorSpans.Nodes.{memory_or_plain}
use Rattle.std.proofs.Common.{map, ap, length, ◌++◌, ◌∙◌}
use Rattle.wave_grammar.proofs.Elaboration.ParamsInTurn.{omitted_count, mapped_count}
use Rattle.wave_node.proofs.params.omitted_params.Goals as goal

pub returns-clause-count : goal.returns-clause-count
returns-clause-count g c =
    let (others, is, omitted) = c.in_ok-push_omitted.ensures.values in
    ap length is ∙ (ap (λ before. length (before ++ others)) c.new-vals.ensures.items ∙ omitted_count g.V.WasmValue.tree g.V.WasmValue.is_of g.V.WasmValue.is_full (map g.P.ParamType.denoted c.args.types.now) others omitted ∙ mapped_count g.P.ParamType.denoted c.args.types.now)

pub returns-then-not-are_options-clause-within : goal.returns-then-not-are_options-clause-within
returns-then-not-are_options-clause-within g c = memory_or_plain c.none_given.result because.InvalidParams c.args.at _ (λ was. cc) c.none_given.ensures.refusal c.none_given.ensures.span
