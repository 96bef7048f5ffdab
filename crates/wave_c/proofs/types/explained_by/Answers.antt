use Rattle.std.proofs.Common.{IfOk, subst}
use Rattle.wave_c.specs.Answers.{IsExplanationBy}
use Rattle.wave_c.specs.Failures.{limit_of, IsNoTypeFor}
use Rattle.wave_c.proofs.Explaining.{type_explained}
use Rattle.wave_c.proofs.types.explained_by.Goals as goal

pub returns-in-Err-clause-said : goal.returns-in-Err-clause-said
returns-in-Err-clause-said c =
    let n = limit_of c.args.levels in
    let spelling = c.in_ok-spelling.spelling.now in
    let e = c.in-Err.error in
    let was = c.in-Err.ensures in
    subst (λ ty. IfOk c.explain_type.result (λ b. IsExplanationBy n ty c.args.text.now b.items)) c.in_ok-spelling.ensures.text
    (type_explained n spelling e c.args.text.now c.explain_type.result c.explain_type.ensures.reported
    (λ other. subst (λ n. IsNoTypeFor n spelling e) c.limit_of.ensures.value (record { other = other; refused = was.refused; fault = was.fault; within = was.within })) c.explain_type.ensures.said)
