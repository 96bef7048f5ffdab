use Rattle.std.proofs.Common.{sym, subst, string_bytes, IfOk}
use Rattle.wave.specs.Readings.{ExplainsIn}
use Rattle.wave.proofs.reading.explanation.Goals as goal

pub returns-in-Read : goal.returns-in-Read
returns-in-Read c =
    subst (λ r. IfOk c.value_explanation.result (λ x. ExplainsIn r c.args.text.now c.args.error.now x.mark (string_bytes x.path) (string_bytes x.lines))) (sym c.in-Read.is) c.value_explanation.ensures
