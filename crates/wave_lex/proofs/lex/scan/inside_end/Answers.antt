use Rattle.std.proofs.Common.{refl}
use Rattle.wave_lex.specs.Tokens.{string}
use Rattle.wave_lex.specs.Machines.{rest}
use Rattle.wave_lex.specs.declared.machine.Start.TheVariants.{InString}
use Rattle.wave_lex.proofs.QuickScan.Prefixes.{leads_on}
use Rattle.wave_lex.proofs.lex.scan.inside_end.Goals as goal

pub loop-count-preserved : goal.loop-count-preserved
loop-count-preserved c = leads_on string (rest InString) (rest InString) _ _ _ _ refl c.loop-count.invariant c.in-Some.ensures.1
