use Rattle.std.proofs.Common.{sym, ap, ◌∙◌, arith}
use Rattle.wave_lex.specs.Tokenization.{Lexed, remainder_of}
use Rattle.wave_lex.proofs.Tokenization.NumbersInTurn.{taken_in_turn, stands_in_turn}
use Rattle.wave_lex.proofs.lex.Lexer.take_number_in_turn.Goals as goal

pub invariant_of-self : goal.invariant_of-self
invariant_of-self c = stands_in_turn _ _ _ _ _ _ (c.remainder.ensures ∙ ap remainder_of (sym c.self.view_is)) c.remainder.utf8 c.self.invariant c.in-Some.ensures

pub returns-clause-taken : goal.returns-clause-taken
returns-clause-taken c = λ _.
    let source = ap (λ (z : Lexed). z.source) c.self.view_is in
    let end = ap (λ (z : Lexed). z.end) c.self.view_is in
    (taken_in_turn c.args.self.now _ _ _ _ c.remainder.ensures c.in-Some.ensures source (omega (arith, end)) (omega (arith, end)), omega arith)
