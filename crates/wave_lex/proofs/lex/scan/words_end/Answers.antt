use Rattle.wave_lex.proofs.QuickScan.Prefixes.{lead_boundary}
use Rattle.wave_lex.proofs.QuickScan.WordRuns.{words_on}
use Rattle.wave_lex.proofs.lex.scan.words_end.Goals as goal

pub range_from-requires : goal.range_from-requires
range_from-requires c = λ _. lead_boundary _ _ _ _ c.utf8.text c.loop-count.invariant.leads

pub loop-count-preserved : goal.loop-count-preserved
loop-count-preserved c = words_on _ _ _ _ c.range_from.ensures.value c.loop-count.invariant c.in-Some.ensures.1
