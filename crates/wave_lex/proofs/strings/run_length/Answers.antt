use Rattle.std.proofs.Common.{ℕ, List, subst}
use Rattle.wave_lex.specs.Private.Runs.{IsRun}
use Rattle.wave_lex.proofs.StringDecoding.Parts.{run_is}
use Rattle.wave_lex.proofs.strings.run_length.Goals as goal

pub returns-clause-run : goal.returns-clause-run
returns-clause-run c = subst (λ (z : List ℕ). IsRun z c.run_of.result) c.as_bytes.ensures.value (run_is _ _ c.run_of.ensures)
