use Rattle.std.proofs.Common.{◌≡◌, ℕ, ◌+◌, ◌-◌, ◌*◌, length, List, ◌++◌}
use Rattle.wave_grammar.specs.ParserPosition.{Place}
use Rattle.wave_grammar.specs.PrefixAutomaton.{Expectation, StackSymbol, first_item}
use Rattle.wave_grammar.specs.PrefixAutomaton as expectation
use Rattle.wave_grammar.specs.NodeTree.{NodeTree}
use Rattle.wave_grammar.specs.NodeParts.{TakesKey, TakesPart}
use Rattle.wave_grammar.specs.declared.form.NodeType.TheVariants as kind
use Rattle.wave_tree.specs.Private.ParsedNodes.{AreKeyedParts}
use Rattle.wave_tree.proofs.ParserCorrectness.NumbersInTurn.{IsInItems}
use Rattle.wave_tree.proofs.ParserCorrectness.Steps.{Reached, left_at}
use Rattle.wave_tree.specs.Private.ParserState.{AsksFor}
use Rattle.wave_tree.proofs.tokens.Tokens.+parser.Given as goal

abbrev pub decreases-parse_part : goal.decreases-parse_part
decreases-parse_part g l = 7 * l.levels

abbrev pub decreases-parse_part_after_token : goal.decreases-parse_part_after_token
decreases-parse_part_after_token g l = 7 * l.levels - 1

abbrev pub decreases-parse_nested_part : goal.decreases-parse_nested_part
decreases-parse_nested_part g l = 7 * l.levels - 2

abbrev pub decreases-parse_after_token : goal.decreases-parse_after_token
decreases-parse_after_token g l = 7 * l.levels - 3

abbrev pub decreases-parse_payload : goal.decreases-parse_payload
decreases-parse_payload g l = 7 * l.levels + 1

abbrev pub decreases-parse_items : goal.decreases-parse_items
decreases-parse_items g l = 7 * l.levels + 1

abbrev pub decreases-parse_optional_payload : goal.decreases-parse_optional_payload
decreases-parse_optional_payload g l = 7 * l.levels + 2

abbrev pub invariant-parse_items-items : goal.invariant-parse_items-items
invariant-parse_items-items g l = record {
  asks : AsksFor l.fn.self l.self;
  takes : (any : List NodeTree) → TakesPart l.ty any;
  from : IsInItems (λ s cs ps. g.P.Builder.are_parts l.builder s l.ty cs ps) l.levels l.close l.token l.fn.self.place l.self.place l.parts;
}

abbrev pub decreases-parse_items-items : goal.decreases-parse_items-items
decreases-parse_items-items g l = left_at l.self.place

abbrev pub decreases-parse_entries : goal.decreases-parse_entries
decreases-parse_entries g l = 7 * l.levels + 1

abbrev pub decreases-parse_braces : goal.decreases-parse_braces
decreases-parse_braces g l = 7 * l.levels + 2

abbrev pub invariant-parse_entries-entries : goal.invariant-parse_entries-entries
invariant-parse_entries-entries g l = record {
  asks : AsksFor l.fn.self l.self;
  led : (n : ℕ) (s : List StackSymbol) → n ≡ l.levels + 1 + length s → Reached n expectation.behind_key s l.fn.self.place expectation.behind_key s l.self.place;
  tree : (children : List NodeTree) × g.P.Builder.are_parts l.builder l.fn.self.place.lexer.source kind.TupleSet children l.parts × TakesKey kind.TupleSet children
      × ((cs : List NodeTree) (r : Place) → AreKeyedParts l.levels l.key l.self.place cs r → AreKeyedParts l.levels l.fn.first l.fn.self.place (children ++ cs) r);
}

abbrev pub decreases-parse_entries-entries : goal.decreases-parse_entries-entries
decreases-parse_entries-entries g l = left_at l.self.place
