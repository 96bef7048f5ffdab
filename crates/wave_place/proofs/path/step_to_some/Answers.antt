use Rattle.std.proofs.Common.{sym}
use Rattle.wave_place.specs.Paths.{some}
use Rattle.wave_place.proofs.Steps.{some_payload, so}
use Rattle.wave_place.proofs.path.step_to_some.Goals as goal

pub returns-in_ok-push_str-in-Some-clause-taken : goal.returns-in_ok-push_str-in-Some-clause-taken
returns-in_ok-push_str-in-Some-clause-taken g c = λ source.
    let payload = some_payload c.args.node.now c.in-Ok-Some.payload (rw c.in-Ok-Some.field-0-is at c.in-Ok-Some.ensures) in
    record {
      step = some;
      steps = (payload.0, payload.1, sym c.in-Some.ensures);
      holds = so c.if-holds.true c.holds.ensures;
      text_is = c.in_ok-push_str-in-Some.ensures.bytes;
    }
