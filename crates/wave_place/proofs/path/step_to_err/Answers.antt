use Rattle.std.proofs.Common.{rules, sym}
use Rattle.wave_wasm.specs.Borrowed.{denoted}
use Rattle.wave_place.specs.Paths.{err}
use Rattle.wave_place.proofs.Steps.{err_payload}
use Rattle.wave_place.proofs.path.step_to_err.Goals as goal

pub returns-clause-taken : goal.returns-clause-taken
returns-clause-taken g c = λ source.
    let payload = err_payload c.args.node.now c.in-Ok-Err-Some.payload (rw c.in-Ok-Err-Some.field-0-0-is at (rw c.in-Ok-Err-Some.field-0-is at c.in-Ok-Err-Some.ensures)) in
    record {
      step = err;
      steps = (payload.0, payload.1, (denoted g.T.WasmType.tree c.in-Some-default-Some.field-0-0, sym (rw c.in-Some-default-Some.field-0-1-is at c.in-Some-default-Some.ensures)));
      holds = search rules;
      text_is = c.in_ok-push_str.ensures.bytes;
    }
