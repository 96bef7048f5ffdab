use Rattle.std.proofs.Common.{arith, sym, ◌∙◌, length-drop, le_of_eq, take_all}
use Rattle.wave_lex.proofs.QuickScan.WordRuns.{word_here}
use Rattle.wave_lex.proofs.lex.scan.word_at.Goals as goal

pub returns : goal.returns
returns c = (
  omega arith,
  word_here _ _ _ _ c.as_bytes-bytes.ensures.value (take_all _ _ (le_of_eq (length-drop 1 c.as_bytes-bytes.result.now))) (omega arith) (omega arith)
      (sym c.is_digit.ensures ∙ c.if-is_digit.false) (omega arith) c.run_of-run.ensures.within c.run_of-run.ensures.all c.run_of-run.ensures.stops,
)
