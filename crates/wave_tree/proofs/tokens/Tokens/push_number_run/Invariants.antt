use Rattle.wave_tree.specs.Private.ParsedNodes.{AreNumbersAdded}
use Rattle.wave_tree.specs.Private.ParserState.{AsksFor}
use Rattle.wave_tree.proofs.ParserCorrectness.Steps.{left_at}
use Rattle.wave_tree.proofs.tokens.Tokens.push_number_run.Given as goal

abbrev pub invariant-numbers : goal.invariant-numbers
invariant-numbers g l = record {
  asks : AsksFor l.fn.self l.self;
  kept : AreNumbersAdded (g.P.Builder.are_parts l.builder) l.fn.self.place l.fn.parts l.self.place l.parts;
}

abbrev pub decreases-numbers : goal.decreases-numbers
decreases-numbers g l = left_at l.self.place
