use Rattle.std.proofs.Common.{◌≡◌, Option, IfErr, map, sym, subst}
use Rattle.std.specs.Cow.{cow_str_bytes}
use Rattle.wave_lex.specs.declared.error.ParserErrorKind.TheVariants.{WasmValueError}
use Rattle.wave_grammar.specs.NodeTree.{NodeTree}
use Rattle.wave_tree.specs.UntypedCall.{Called}
use Rattle.wave_lex.specs.Errors.{LiesInText}
use Rattle.wave_grammar.specs.ErrorSpans.{IsCausedInParams}
use Rattle.wave_grammar.proofs.ErrorSpans.Nodes.{all_at_text, all_at_cause}
use Rattle.wave_tree.proofs.TextReading.Calls.{all_kind}
use Rattle.wave_tree.proofs.untyped.call.UntypedFuncCall.read_params.Goals as goal

pub returns-in-None-clause-within : goal.returns-in-None-clause-within
returns-in-None-clause-within g c =
    subst (λ (u : Called). IfErr c.omitted_params.result (λ e. LiesInText u.source e.span)) c.self.view_is
    (all_at_text (cow_str_bytes c.self.inside.source) c.self.inside.name c.omitted_params.result c.self.invariant.0 c.omitted_params.ensures.within)

pub returns-in-None-clause-caused : goal.returns-in-None-clause-caused
returns-in-None-clause-caused g c =
    subst (λ (u : Called). IfErr c.omitted_params.result (λ e. e.kind ≡ WasmValueError → IsCausedInParams u.name u.params e)) c.self.view_is
    (subst (λ (o : Option NodeTree). IfErr c.omitted_params.result (λ e. e.kind ≡ WasmValueError → IsCausedInParams c.self.inside.name o e)) (sym c.in-None.is) (all_at_cause c.self.inside.name c.omitted_params.result c.omitted_params.ensures.within))

pub returns-in-None-clause-kind : goal.returns-in-None-clause-kind
returns-in-None-clause-kind g c =
    all_kind g.V.WasmValue.is_full (map g.P.ParamType.denoted c.args.types.now) c.self.inside.name c.omitted_params.result c.omitted_params.ensures.refused
