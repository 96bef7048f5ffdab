use Rattle.std.proofs.Common.{◌≢◌, subst, sym}
use Rattle.wave_type.specs.declared.error.TypeErrorKind.{TypeErrorKind}
use Rattle.wave_type.specs.declared.error.TypeErrorKind.TheVariants.{OutOfMemory}
use Rattle.wave_type_explain.specs.Private.Refusals.{IsRefused}
use Rattle.wave_type_explain.specs.declared.expected.Reading.TheVariants.{ValueType}
use Rattle.wave_type_explain.proofs.TextBegins.{type_refused}
use Rattle.wave_type_explain.proofs.expected.type_refusal.Goals as goal

pub returns : goal.returns
returns c =
    subst (λ (k : TypeErrorKind). k ≢ OutOfMemory → IsRefused ValueType 1000 c.args.text.now k) (sym c.kind.ensures)
    (type_refused 1000 c.args.text.now c.in-Err.error c.in-Err.ensures.refused c.in-Err.ensures.fault)
