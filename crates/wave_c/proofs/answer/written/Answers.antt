use Rattle.std.proofs.Common.{ℕ, ap, ◌∙◌}
use Rattle.std.specs.Global.{Vec}
use Rattle.wave_c.specs.Failures.{FailsToWrite}
use Rattle.wave_c.proofs.Failing.{tape_refused}
use Rattle.wave_c.proofs.answer.written.Goals as goal

pub returns-in_err-said-clause-failed : goal.returns-in_err-said-clause-failed
returns-in_err-said-clause-failed c =
    tape_refused (FailsToWrite c.args.tape.now c.args.ty.now) c.from_residual.result c.in_err-said.field-0.0 tt (λ other. (other, λ distinct. c.in_err-said.ensures.fault)) c.from_residual.ensures.1

pub returns-clause-said : goal.returns-clause-said
returns-clause-said c =
    let h = c.in_ok-said.ensures.written in
    (h.0, (λ distinct. (h.1, h.2)), h.3, ap (λ (v : Vec ℕ). v.items) c.into_bytes.ensures.value ∙ h.4)
