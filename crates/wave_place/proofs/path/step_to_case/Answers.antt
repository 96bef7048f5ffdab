use Rattle.std.proofs.Common.{rules}
use Rattle.wave_place.specs.Paths.{case}
use Rattle.wave_place.proofs.Steps.{case_payload}
use Rattle.wave_place.proofs.path.step_to_case.Goals as goal

pub returns-in_ok-push_name-in-Some-clause-taken : goal.returns-in_ok-push_name-in-Some-clause-taken
returns-in_ok-push_name-in-Some-clause-taken g c =
    let payload = case_payload c.args.source.now c.args.node.now c.in-Ok-default-Some.name c.in-Ok-default-Some.payload (rw c.in-Ok-default-Some.field-0-1-is at c.in-Ok-default-Some.ensures) in
    let found = rw c.in-Some.is at c.in_ok-payload_type.ensures.some in
    record {
      step = case c.in-Ok-default-Some.name.now;
      steps = (payload.0, payload.1, payload.2, payload.3, found);
      holds = search rules;
      text_is = c.in_ok-push_name-in-Some.ensures;
    }

pub returns-in_ok-push_name-in-Some-clause-value : goal.returns-in_ok-push_name-in-Some-clause-value
returns-in_ok-push_name-in-Some-clause-value g c =
    (case_payload c.args.source.now c.args.node.now c.in-Ok-default-Some.name c.in-Ok-default-Some.payload (rw c.in-Ok-default-Some.field-0-1-is at c.in-Ok-default-Some.ensures)).4
