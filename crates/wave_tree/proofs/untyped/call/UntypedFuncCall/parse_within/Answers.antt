use Rattle.std.proofs.Common.{rules, ◌≡◌, ◌≢◌, None, ap, sym, subst, ◌∙◌}
use Rattle.wave_lex.specs.declared.error.ParserErrorKind.TheVariants as because
use Rattle.wave_lex.specs.Tokenization.{Lexed, span}
use Rattle.wave_grammar.specs.ParserPosition.{Place, span_at}
use Rattle.wave_tree.specs.Private.ParserState.{Stream, stream_of}
use Rattle.wave_tree.specs.UntypedCall.{AreParamsTaken, RefusesTuple, IsCalledWithin, RefusesCallWithin, MemoryAtName, behind_name}
use Rattle.wave_grammar.proofs.Elaboration.ParamsInTurn.{error_handed}
use Rattle.wave_tree.proofs.TextReading.Calls.{name_refused, params_refused, rest_refused, called_within}
use Rattle.wave_lex.specs.Errors.{Diagnostic, LiesInText, Says}
use Rattle.wave_tree.proofs.ErrorSpans.Syntax.{name_lies, behind_params_lies}
use Rattle.wave_tree.proofs.untyped.call.UntypedFuncCall.parse_within.Goals as goal

pub returns-in_err-names-clause-refused : goal.returns-in_err-names-clause-refused
returns-in_err-names-clause-refused c =
    error_handed (RefusesCallWithin c.args.levels c.args.source.now) c.from_residual.result c.in_err-names.field-0.0 c.from_residual.ensures.1 (name_refused c.args.levels c.args.source.now c.in_err-names.field-0.0 c.in_err-names.ensures.refused)

pub returns-in_err-params : goal.returns-in_err-params
returns-in_err-params c =
    let n = c.args.levels in
    let s = c.args.source.now in
    let e = c.in_err-params.field-0.0 in
    let new = c.parse_params.new.self.place in
    let (k, named, is) = c.in_ok-names.ensures.named in
    let place : c.from_lexer-tokens.result.place ≡ behind_name s k = ap (λ (z : Stream). z.place) (c.from_lexer-tokens.ensures ∙ ap stream_of (c.into_lexer.ensures ∙ is)) in
    record {
      value = search rules;
      refused = error_handed (RefusesCallWithin n s) c.from_residual-in_err-params.result e c.from_residual-in_err-params.ensures.1
          (params_refused n s k new e named (subst (λ (z : Place). e.kind ≢ because.OutOfMemory → RefusesTuple n e z new) place c.in_err-params.ensures.refused));
      memory = error_handed (MemoryAtName s) c.from_residual-in_err-params.result e c.from_residual-in_err-params.ensures.1
          (λ no. (k, named, subst (λ (z : Place). Says e because.OutOfMemory (span_at z) None) place (c.in_err-params.ensures.memory no).1));
      within = error_handed (λ (f : Diagnostic). LiesInText s f.span) c.from_residual-in_err-params.result e c.from_residual-in_err-params.ensures.1
          (subst (λ (z : Place). LiesInText z.lexer.source e.span) place c.in_err-params.ensures.within);
    }

pub returns-in_err-finish : goal.returns-in_err-finish
returns-in_err-finish c =
    let n = c.args.levels in
    let s = c.args.source.now in
    let e = c.in_err-finish.field-0.0 in
    let new = c.parse_params.new.self.place in
    let params = c.in_ok-params.params in
    let (k, named, is) = c.in_ok-names.ensures.named in
    let place : c.from_lexer-tokens.result.place ≡ behind_name s k = ap (λ (z : Stream). z.place) (c.from_lexer-tokens.ensures ∙ ap stream_of (c.into_lexer.ensures ∙ is)) in
    let taken = subst (λ (z : Place). AreParamsTaken n z new params) place c.in_ok-params.ensures.taken in
    record {
      value = search rules;
      refused = error_handed (RefusesCallWithin n s) c.from_residual-in_err-finish.result e c.from_residual-in_err-finish.ensures.1 (rest_refused n s k new params e named taken c.in_err-finish.ensures.answer);
      memory = search rules;
      within = error_handed (λ (f : Diagnostic). LiesInText s f.span) c.from_residual-in_err-finish.result e c.from_residual-in_err-finish.ensures.1 (behind_params_lies n s k new params e named taken c.in_err-finish.ensures.answer);
    }

pub returns-clause-value : goal.returns-clause-value
returns-clause-value c =
    let n = c.args.levels in
    let s = c.args.source.now in
    let new = c.parse_params.new.self.place in
    let params = c.in_ok-params.params in
    let (k, named, is) = c.in_ok-names.ensures.named in
    let place : c.from_lexer-tokens.result.place ≡ behind_name s k = ap (λ (z : Stream). z.place) (c.from_lexer-tokens.ensures ∙ ap stream_of (c.into_lexer.ensures ∙ is)) in
    let name : c.span-name.result ≡ span 0 k = c.span-name.ensures.span ∙ ap (λ (z : Lexed). span z.start z.end) is in
    let call : c.new.result ≡ record { source = s; name = span 0 k; params = params } = c.new.ensures ∙ (λ i. record { source = s; name = name i; params = params }) in
    subst (IsCalledWithin n s) (sym call) (called_within n s k new params named (subst (λ (z : Place). AreParamsTaken n z new params) place c.in_ok-params.ensures.taken) c.in_ok-finish.ensures.answer)

pub returns-in_err-names-clause-within : goal.returns-in_err-names-clause-within
returns-in_err-names-clause-within c =
    error_handed (λ (f : Diagnostic). LiesInText c.args.source.now f.span) c.from_residual.result c.in_err-names.field-0.0 c.from_residual.ensures.1 (name_lies c.args.source.now c.in_err-names.field-0.0 c.in_err-names.ensures.refused)
