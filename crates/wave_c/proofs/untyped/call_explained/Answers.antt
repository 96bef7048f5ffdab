use Rattle.std.proofs.Common.{ℕ, inl, inr, ap, refl, sym, subst}
use Rattle.std.specs.Global.{Vec}
use Rattle.wave_grammar.specs.SpannedTree.{slice}
use Rattle.wave_explain.specs.CallExplained.{IsCallExplained}
use Rattle.wave_type.specs.FunctionType.{func_of}
use Rattle.wave_c.specs.Answers.{IsCallExplanationAt}
use Rattle.wave_c.specs.Failures.{limit_of, IsRefusedCall}
use Rattle.wave_c.proofs.untyped.call_explained.Goals as goal

pub returns-in-Ok-clause-said : goal.returns-in-Ok-clause-said
returns-in-Ok-clause-said c =
    let n = limit_of c.args.levels in
    let f = c.args.func.now in
    let s = c.in_ok-text.text.now in
    let u = c.in-Ok.field-0.0 in
    subst (λ s. IsCallExplanationAt n s f c.new.result.items) c.in_ok-text.ensures.text
    (inr (slice s u.name, c.in-Ok.field-0.1.items, (u, c.in-Ok.ensures.called, refl), c.new.ensures.items))

pub returns-clause-said : goal.returns-clause-said
returns-clause-said c =
    let n = limit_of c.args.levels in
    let f = c.args.func.now in
    let s = c.in_ok-text.text.now in
    let e = c.in_ok-refusal-in-Err.refusal in
    let it = c.in_ok-refusal-in-Err.ensures.refusal in
    subst (λ s. IsCallExplanationAt n s f c.into_bytes.result.items) c.in_ok-text.ensures.text
    (inl (
      e,
      subst (λ e. IsRefusedCall n s f e) (sym it.0) (it.1, c.in-Err.ensures.refused),
      subst (λ bytes. IsCallExplained s (func_of f) e bytes) (sym (ap (λ (v : Vec ℕ). v.items) c.into_bytes.ensures.value)) c.in_ok-explain_call-in-Err.ensures,
    ))
