use Rattle.std.proofs.Common.{◌≡◌, ◌+◌, ap, sym, refl, subst, ◌∙◌, arith, Some, Ok}
use Rattle.wave_lex.specs.declared.lex.Token.TheVariants.{Comma}
use Rattle.wave_lex.specs.Tokenization.{Lexed, NextIs}
use Rattle.wave_tree.specs.Private.ParserState.{Stream, ahead_count, lexer_of}
use Rattle.wave_tree.proofs.tokens.Tokens.take_number.Goals as goal

pub returns-in-None-clause-taken : goal.returns-in-None-clause-taken
returns-in-None-clause-taken c = λ t.
    let count = ap (λ (z : Stream). z.place.taken) c.self.view_is in
    let none : ahead_count c.self.inside.ahead ≡ 0 = ap ahead_count c.in-None.is in
    let ((comma, first, second), asked) = c.number_in_turn.ensures.taken t in
    let here = sym (ap (lexer_of c.self.inside.lexer c.self.inside.before) c.in-None.is) ∙ ap (λ (z : Stream). z.place.lexer) c.self.view_is in (
      record { lexer = comma; taken = c.args.self.now.place.taken + 1 },
      (subst (λ (z : Lexed). NextIs z comma (Some (Ok Comma))) here first, refl),
      (rw c.in-None.is second, omega arith),
    )
