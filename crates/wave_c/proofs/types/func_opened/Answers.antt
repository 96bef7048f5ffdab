use Rattle.std.proofs.Common.{subst}
use Rattle.wave_c.specs.Answers.{IsFunctionSpelledBy}
use Rattle.wave_c.specs.Failures.{limit_of, IsNoFunctionFor, FailsAsFunction}
use Rattle.wave_c.proofs.Failing.{type_refused}
use Rattle.wave_c.proofs.types.func_opened.Goals as goal

pub returns-in_err-parse_within-clause-failed : goal.returns-in_err-parse_within-clause-failed
returns-in_err-parse_within-clause-failed c =
    let n = limit_of c.args.levels in
    let e = c.in_err-parse_within.field-0.0 in
    let was = c.in_err-parse_within.ensures in
    type_refused (FailsAsFunction n c.args.func.now) c.from_residual-in_err-parse_within.result e tt
    (λ other. subst (λ s. IsNoFunctionFor n s e) c.in_ok-func.ensures.text (subst (λ n. IsNoFunctionFor n c.in_ok-func.func.now e) c.limit_of.ensures.value
    (record { other = other; refused = was.refused; fault = was.fault; within = was.within }))) c.from_residual-in_err-parse_within.ensures.1

pub returns-clause-opened : goal.returns-clause-opened
returns-clause-opened c =
    let f = c.in_ok-parse_within.field-0 in
    subst (λ s. IsFunctionSpelledBy s f) c.in_ok-func.ensures.text (c.in_ok-parse_within.ensures.spelled, c.in_ok-parse_within.ensures.labels)
