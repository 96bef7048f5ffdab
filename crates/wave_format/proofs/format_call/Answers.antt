use Rattle.std.proofs.Common.{◌∙◌, string_bytes}
use Rattle.wave_grammar.proofs.Elaboration.ParamsInTurn.{error_handed}
use Rattle.wave_tree.specs.UntypedCall.{RefusesCall}
use Rattle.wave_format.proofs.CallNames.{call_laid, call_kept}
use Rattle.wave_format.proofs.WholeTexts.{trees_at, none_at, begins_with_name}
use Rattle.wave_format.proofs.format_call.Goals as goal

pub returns-in_err-names-clause-refused : goal.returns-in_err-names-clause-refused
returns-in_err-names-clause-refused c =
    let s = c.args.source.now in
    let e = c.in_err-names.field-0.0 in
    let call = c.in_ok-_call.ensures.value.call in
    error_handed (RefusesCall s) c.from_residual-in_err-names.result e c.from_residual-in_err-names.ensures.1 (begins_with_name s call.bytes e call.named c.in_err-names.ensures.refused)

pub returns-in-Ok-clause-laid : goal.returns-in-Ok-clause-laid
returns-in-Ok-clause-laid c =
    let s = c.args.source.now in
    let d = string_bytes c.in-Ok.text in
    let (k, named, is) = c.in_ok-names.ensures.named in
    let place = c.into_lexer.ensures ∙ is in
    call_laid s d _ _ k named (trees_at s k c.into_lexer.result d place c.in-Ok.ensures.trees) (none_at s k c.into_lexer.result d place c.in-Ok.ensures.none) c.in_ok-_call.ensures.value.call

pub returns-in-Ok-clause-calls : goal.returns-in-Ok-clause-calls
returns-in-Ok-clause-calls c =
    let s = c.args.source.now in
    let d = string_bytes c.in-Ok.text in
    let (k, named, is) = c.in_ok-names.ensures.named in
    let place = c.into_lexer.ensures ∙ is in
    call_kept s d k named (trees_at s k c.into_lexer.result d place c.in-Ok.ensures.trees) (none_at s k c.into_lexer.result d place c.in-Ok.ensures.none)
