use Rattle.std.proofs.Common.{◌≡◌, ap, sym, ◌∙◌}
use Rattle.wave_grammar.specs.ParserPosition.{Place}
use Rattle.wave_tree.specs.Private.ParserState.{Stream, lexer_of}
use Rattle.wave_tree.proofs.ParserCorrectness.Lookahead.{one_ahead, at_hand}
use Rattle.wave_tree.proofs.tokens.Tokens.next_is.Goals as goal
use Rattle.wave_tree.proofs.tokens.Tokens.next_is.Goals.{in-Some, in-None}

pub returns-clause-answer : goal.returns-clause-answer
returns-clause-answer c =
    let here : c.args.self.now.place.lexer ≡ lexer_of c.self.inside.lexer c.self.inside.before c.self.inside.ahead = sym (ap (λ (z : Stream). z.place.lexer) c.self.view_is ∙ ap (λ (z : Place). z.lexer) c.peek.ensures.stays) in
    elim c.match-self.branch [
      | in-Some w ↦ at_hand _ c.self.inside.before _ _ w.in-Some.item _ w.is.result _ here c.self.invariant.0 w.in-Some.is w.is.ensures w.result-is
      | in-None w ↦ one_ahead c.self.inside.ahead (ap (λ (z : Stream). z.ahead) c.self.view_is ∙ c.peek.ensures.looks) w.in-None.is
    ]
