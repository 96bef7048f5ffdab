use Rattle.wave_tree.proofs.ParserCorrectness.Steps.{left_at}
use Rattle.wave_tree.proofs.ParserCorrectness.FlagLoop.{FlagsSoFar}
use Rattle.wave_tree.specs.Private.ParserState.{AsksFor}
use Rattle.wave_tree.proofs.tokens.Tokens.parse_flags.Given as goal

abbrev pub invariant-flags : goal.invariant-flags
invariant-flags g l = FlagsSoFar l.flags l.fn.self.place l.self.place × AsksFor l.fn.self l.self

abbrev pub decreases-flags : goal.decreases-flags
decreases-flags g l = left_at l.self.place
