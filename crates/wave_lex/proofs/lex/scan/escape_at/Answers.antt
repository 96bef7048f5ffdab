use Rattle.std.proofs.Common.{arith, refl, sym, ◌∙◌}
use Rattle.wave_lex.proofs.StringDecoding.EscapesFound.{opened_cut}
use Rattle.wave_lex.proofs.QuickScan.EscapeRuns.{some_leads, long_leads}
use Rattle.wave_lex.proofs.lex.scan.escape_at.Goals as goal

pub returns-then-ends_short : goal.returns-then-ends_short
returns-then-ends_short c = (
  omega arith,
  some_leads _ _ c.if-bytes-lt2.false c.if-bytes-ne92.false refl (sym c.ends_short.ensures ∙ c.if-ends_short.true),
)

pub returns : goal.returns
returns c = (
  omega arith,
  long_leads _ _ _ (opened_cut _ c.if-bytes-lt3.false (omega arith) (omega arith) (omega arith)) (omega arith) (omega arith) (omega arith) c.hex_length-count.ensures.digits (omega arith),
)
