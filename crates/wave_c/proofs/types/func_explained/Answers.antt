use Rattle.std.proofs.Common.{IfOk, inr, subst}
use Rattle.wave_c.specs.Answers.{IsFunctionExplained}
use Rattle.wave_c.specs.Failures.{limit_of, IsNoFunctionFor}
use Rattle.wave_c.proofs.Explaining.{function_explained}
use Rattle.wave_c.proofs.types.func_explained.Goals as goal

pub returns-in-Ok-clause-said : goal.returns-in-Ok-clause-said
returns-in-Ok-clause-said c =
    subst (λ s. IsFunctionExplained (limit_of c.args.levels) s c.new.result.items) c.in_ok-func.ensures.text
    (inr (c.in-Ok.field-0, (c.in-Ok.ensures.spelled, c.in-Ok.ensures.labels), c.new.ensures.items))

pub returns-clause-said : goal.returns-clause-said
returns-clause-said c =
    let n = limit_of c.args.levels in
    let s = c.in_ok-func.func.now in
    let e = c.in-Err.error in
    let was = c.in-Err.ensures in
    subst (λ s. IfOk c.explain_type.result (λ b. IsFunctionExplained n s b.items)) c.in_ok-func.ensures.text
    (function_explained n s e c.explain_type.result c.explain_type.ensures.reported
    (λ other. subst (λ n. IsNoFunctionFor n s e) c.limit_of.ensures.value (record { other = other; refused = was.refused; fault = was.fault; within = was.within })) c.explain_type.ensures.said)
