use Rattle.std.proofs.Common.{◌≡◌, ap, sym, subst, ◌∙◌, arith}
use Rattle.wave_lex.specs.Tokenization.{Lexed, NextIs, item_of}
use Rattle.wave_tree.specs.Private.ParserState.{Stream, ahead_count, lexer_of}
use Rattle.wave_tree.proofs.ParserCorrectness.Lookahead.{next_there}
use Rattle.wave_tree.proofs.tokens.Tokens.take.Goals as goal

pub returns-in-Some-clause-takes : goal.returns-in-Some-clause-takes
returns-in-Some-clause-takes c =
    let here = sym (ap (λ (z : Stream). z.place.lexer) c.self.view_is) in
    let count = ap (λ (z : Stream). z.place.taken) c.self.view_is in
    let one : ahead_count c.self.inside.ahead ≡ 1 = ap ahead_count c.in-Some.is in
    let asked = c.self.invariant.1 in
    (next_there c.self.inside.lexer c.self.inside.before c.args.self.now.place _ c.in-Some.item here c.self.invariant.0 c.in-Some.is, omega arith)

pub returns-in-None-clause-takes : goal.returns-in-None-clause-takes
returns-in-None-clause-takes c =
    let count = ap (λ (z : Stream). z.place.taken) c.self.view_is in
    let none : ahead_count c.self.inside.ahead ≡ 0 = ap ahead_count c.in-None.is in
    let asked = c.next_of.ensures.counted in
    let there = subst (λ (z : Lexed). NextIs z c.next_of.new.lexer (item_of c.next_of.result c.next_of.new.lexer)) (sym (ap (lexer_of c.self.inside.lexer c.self.inside.before) c.in-None.is) ∙ ap (λ (z : Stream). z.place.lexer) c.self.view_is) c.next_of.ensures.item in
    (rw c.in-None.is there, omega arith)
