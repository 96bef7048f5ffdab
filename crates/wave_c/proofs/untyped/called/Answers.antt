use Rattle.std.proofs.Common.{map, subst, ap, ◌∙◌, ◌++◌}
use Rattle.wave_grammar.specs.SpannedTree.{slice}
use Rattle.wave_tape.specs.Tape.{call_tape}
use Rattle.wave_value.specs.TypedValue.{TypedValue}
use Rattle.wave_c.specs.Answers.{IsCallTapeAt}
use Rattle.wave_c.specs.Failures.{limit_of, IsRefusedCall, FailsToRead}
use Rattle.wave_c.proofs.Failing.{text_refused}
use Rattle.wave_c.proofs.untyped.called.Goals as goal

pub returns-in_err-call-clause-failed : goal.returns-in_err-call-clause-failed
returns-in_err-call-clause-failed c =
    let n = limit_of c.args.levels in
    let f = c.args.func.now in
    let e = c.in_err-call.field-0.0 in
    text_refused (FailsToRead (IsRefusedCall n c.args.text.now f) c.args.text.now) c.from_residual-in_err-call.result e tt
    (λ other. subst (λ s. IsRefusedCall n s f e) c.in_ok-text.ensures.text (other, c.in_err-call.ensures.refused)) c.from_residual-in_err-call.ensures.1

pub returns-in-Ok-clause-said : goal.returns-in-Ok-clause-said
returns-in-Ok-clause-said c =
    let u = c.in_ok-call.call in
    let is = c.in_ok-call.ensures.called in
    let name = c.name.result.now in
    subst (λ s. IsCallTapeAt (limit_of c.args.levels) s c.args.func.now c.encode_call.new.out.items) c.in_ok-text.ensures.text (
      name,
      c.in_ok-call.values.items,
      (u, is, c.name.ensures ∙ ap (λ z. slice z u.name) is.0.source),
      c.in-Ok.ensures.ok ∙ (ap (λ z. z ++ call_tape name (map (λ (v : TypedValue). v.tree) c.as_slice.result.now)) c.new-tape.ensures.items
          ∙ ap (λ vs. call_tape name (map (λ (v : TypedValue). v.tree) vs)) c.as_slice.ensures.value),
    )
