use Rattle.std.proofs.Common.{rules}
use Rattle.wave.specs.Misuse.{edits}
use Rattle.wave.proofs.misuse.edits.Goals as goal

pub returns : goal.returns
unfolding edits
returns c = search rules
