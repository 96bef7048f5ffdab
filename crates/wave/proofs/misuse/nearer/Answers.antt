use Rattle.std.proofs.Common.{arith}
use Rattle.wave.proofs.Nearest.{nearest_stays}
use Rattle.wave.proofs.misuse.nearer.Goals as goal

pub returns-else-count-least-clause-first : goal.returns-else-count-least-clause-first
returns-else-count-least-clause-first c = λ words nearest. nearest_stays _ _ _ words (omega arith) nearest
