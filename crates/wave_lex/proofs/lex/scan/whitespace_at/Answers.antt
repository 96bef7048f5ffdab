use Rattle.std.proofs.Common.{arith}
use Rattle.wave_lex.specs.Tokens.{whitespace}
use Rattle.wave_lex.proofs.QuickScan.Prefixes.{prefix_behind, lead_boundary}
use Rattle.wave_lex.proofs.QuickScan.ByteRuns.{blanks_end, blanks_lead, no_whitespace, one_blank}
use Rattle.wave_lex.proofs.lex.scan.whitespace_at.Goals as goal

pub range_from-requires : goal.range_from-requires
range_from-requires c = λ _. lead_boundary _ _ _ _ c.utf8.text (blanks_lead _ _ _ c.as_bytes-bytes.ensures.value c.run_of-run.ensures.within c.run_of-run.ensures.all)

pub returns : goal.returns
returns c = prefix_behind whitespace whitespace _ _ _ _ c.range_from.ensures.value
    (blanks_lead _ _ _ c.as_bytes-bytes.ensures.value c.run_of-run.ensures.within c.run_of-run.ensures.all) c.commented_at.ensures

pub returns-then-run-bytes : goal.returns-then-run-bytes
returns-then-run-bytes c = blanks_end _ _ _ c.as_bytes-bytes.ensures.value c.run_of-run.ensures.within c.run_of-run.ensures.all c.run_of-run.ensures.stops (λ k. let w : ⊥ = omega arith in absurd w)

pub returns-then-bytes-run-ne47 : goal.returns-then-bytes-run-ne47
returns-then-bytes-run-ne47 c = blanks_end _ _ _ c.as_bytes-bytes.ensures.value c.run_of-run.ensures.within c.run_of-run.ensures.all c.run_of-run.ensures.stops (λ k. c.if-bytes-run-ne47.true)

pub returns-then-bytes-ne47 : goal.returns-then-bytes-ne47
returns-then-bytes-ne47 c = one_blank _ _ c.as_bytes-bytes.ensures.value c.if-bytes-gt1.true c.if-bytes-eq32.true c.if-bytes-gt32.true c.if-bytes-ne47.true

pub returns-then-bytes-ne47-2 : goal.returns-then-bytes-ne47-2
returns-then-bytes-ne47-2 c = no_whitespace _ _ c.as_bytes-bytes.ensures.value c.if-bytes-gt32-2.true c.if-bytes-ne47-2.true
