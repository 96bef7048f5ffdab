use Rattle.std.proofs.Common.{ℕ, inl, ap, sym, subst}
use Rattle.std.specs.Global.{Vec}
use Rattle.wave_explain.specs.ValueExplained.{IsUntypedExplained}
use Rattle.wave_c.specs.Answers.{IsUntypedExplanationOf}
use Rattle.wave_c.specs.Failures.{limit_of, IsRefusedUntyped}
use Rattle.wave_c.proofs.untyped.untyped_explained.Goals as goal

pub returns-clause-said : goal.returns-clause-said
returns-clause-said c =
    let n = limit_of c.args.levels in
    let s = c.in_ok-text.text.now in
    let e = c.in_ok-refusal-in-Err.refusal in
    let it = c.in_ok-refusal-in-Err.ensures.refusal in
    let was = c.in-Err.ensures in
    subst (λ s. IsUntypedExplanationOf n s c.into_bytes.result.items) c.in_ok-text.ensures.text
    (inl (
      e,
      subst (λ e. IsRefusedUntyped n s e) (sym it.0) (record { other = it.1; refused = was.refused; within = was.within }),
      subst (λ bytes. IsUntypedExplained s e bytes) (sym (ap (λ (v : Vec ℕ). v.items) c.into_bytes.ensures.value)) c.in_ok-explain_untyped-in-Err.ensures,
    ))
