use Rattle.std.proofs.Common.{string_bytes, refl, sym, subst}
use Rattle.std.specs.Prelude.{MatchResult}
use Rattle.wave.specs.declared.request.Request.TheVariants.{Call}
use Rattle.wave.specs.Answers.{Answers}
use Rattle.wave.specs.Private.Answers.{IsUnanswered}
use Rattle.wave.proofs.Named.{handed_on, unshown}
use Rattle.wave.proofs.Untyped.{call_displayed, is_no_call}
use Rattle.wave.proofs.answer.answer.Goals as goal

pub returns-in-Value : goal.returns-in-Value
returns-in-Value c = subst (λ request. MatchResult c.value.result (λ answer. Answers request c.args.text.now (string_bytes answer)) (IsUnanswered request c.args.text.now)) (sym c.in-Value.is) c.value.ensures

pub returns-in_err-parse-in-Call : goal.returns-in_err-parse-in-Call
returns-in_err-parse-in-Call c =
    let s = c.args.text.now in
    let e = c.in_err-parse-in-Call.field-0.0 in
    subst (λ request. MatchResult c.from_residual.result (λ answer. Answers request s (string_bytes answer)) (IsUnanswered request s)) (sym c.in-Call.is)
    (handed_on (λ answer. Answers Call s (string_bytes answer)) Call s c.from_residual.result e c.from_residual.ensures.1 (is_no_call s e c.in_err-parse-in-Call.ensures.refused))

pub returns-in_err-to_string-in-Call : goal.returns-in_err-to_string-in-Call
returns-in_err-to_string-in-Call c =
    let s = c.args.text.now in
    let r = c.from_residual-in_err-to_string-in-Call.result in
    subst (λ request. MatchResult r (λ answer. Answers request s (string_bytes answer)) (IsUnanswered request s)) (sym c.in-Call.is)
    (unshown (λ answer. Answers Call s (string_bytes answer)) Call s r _ c.from_residual-in_err-to_string-in-Call.ensures.1 (call_displayed s c.in_ok-parse-in-Call.field-0 _ c.in_ok-parse-in-Call.ensures.value refl))

pub returns-in_ok-to_string-in-Call : goal.returns-in_ok-to_string-in-Call
returns-in_ok-to_string-in-Call c =
    let s = c.args.text.now in
    let answer = c.in_ok-to_string-in-Call.field-0 in
    subst (λ request. Answers request s (string_bytes answer)) (sym c.in-Call.is)
    (call_displayed s c.in_ok-parse-in-Call.field-0 (string_bytes answer) c.in_ok-parse-in-Call.ensures.value c.in_ok-to_string-in-Call.ensures.ok)

pub returns-in-CallAt : goal.returns-in-CallAt
returns-in-CallAt c = subst (λ request. MatchResult c.call_at.result (λ answer. Answers request c.args.text.now (string_bytes answer)) (IsUnanswered request c.args.text.now)) (sym c.in-CallAt.is) c.call_at.ensures

pub returns-in-Read : goal.returns-in-Read
returns-in-Read c = subst (λ request. MatchResult c.read.result (λ answer. Answers request c.args.text.now (string_bytes answer)) (IsUnanswered request c.args.text.now)) (sym c.in-Read.is) c.read.ensures
