use Rattle.std.proofs.Common.{rules, sym}
use Rattle.wave_wasm.specs.Borrowed.{denoted}
use Rattle.wave_place.specs.Paths.{ok}
use Rattle.wave_place.proofs.Steps.{ok_payload}
use Rattle.wave_place.proofs.path.step_to_ok.Goals as goal

pub returns-clause-taken : goal.returns-clause-taken
returns-clause-taken g c = λ source.
    let payload = ok_payload c.args.node.now c.in-Ok-Ok-Some.payload (rw c.in-Ok-Ok-Some.field-0-0-is at (rw c.in-Ok-Ok-Some.field-0-is at c.in-Ok-Ok-Some.ensures)) in
    record {
      step = ok;
      steps = (payload.0, payload.1, (denoted g.T.WasmType.tree c.in-Some-Some-default.field-0-1, sym (rw c.in-Some-Some-default.field-0-0-is at c.in-Some-Some-default.ensures)));
      holds = search rules;
      text_is = c.in_ok-push_str.ensures.bytes;
    }
