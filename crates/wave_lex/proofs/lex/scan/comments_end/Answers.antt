use Rattle.std.proofs.Common.{refl, length, get_or, ◌<◌, ◌≡◌, ℕ, List, subst, false}
use Rattle.wave_lex.specs.Tokens.{whitespace}
use Rattle.wave_lex.specs.Private.Machines.{is_blank}
use Rattle.wave_lex.proofs.QuickScan.Prefixes.{leads_on}
use Rattle.wave_lex.proofs.QuickScan.ByteRuns.{blanks_lead}
use Rattle.wave_lex.proofs.lex.scan.comments_end.Goals as goal

pub loop-count-init : goal.loop-count-init
loop-count-init c = (
  blanks_lead _ _ _ c.as_bytes.ensures.value c.run_of-place.ensures.within c.run_of-place.ensures.all,
  subst (λ (s : List ℕ). c.run_of-place.result < length s → is_blank (get_or s c.run_of-place.result 0) ≡ false) c.as_bytes.ensures.value c.run_of-place.ensures.stops,
)

pub loop-count-preserved : goal.loop-count-preserved
loop-count-preserved c = (leads_on whitespace whitespace whitespace _ _ _ _ refl c.loop-count.invariant.0 c.in-Some.ensures.step.1, c.in-Some.ensures.stops)
