use Rattle.std.proofs.Common.{ap, arith, length, eqb-true}
use Rattle.wave_tape.proofs.PlainTexts.{plain_quoted}
use Rattle.wave_tape.proofs.plain.is_plain.Goals as goal

pub returns : goal.returns
returns c = λ same.
    plain_quoted c.args.text.now c.as_bytes-bytes.result.now c.run_of-run.result c.as_bytes-bytes.ensures.value (omega (arith, eqb-true _ _ same, ap length c.as_bytes-bytes.ensures.value)) c.run_of-run.ensures.all
