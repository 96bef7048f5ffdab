use Rattle.std.proofs.Common.{subst, Some, ◌<◌}
use Rattle.wave_lex.specs.Tokenization.{NextIs}
use Rattle.wave_expected.proofs.ExpectedTokens.PlacedTokens.{no_token, no_token_at_end, token_ends}
use Rattle.wave_expected.proofs.expected.next_before.Goals as goal

pub returns-in-None : goal.returns-in-None
returns-in-None c = λ d next h. absurd (no_token_at_end c.args.lexer.now c.next.new.self next d c.in-None.ensures.steps h)

pub returns-in-Some-Err : goal.returns-in-Some-Err
returns-in-Some-Err c = λ d next h. absurd (no_token c.args.lexer.now c.next.new.self next d _ (subst (λ r. NextIs c.args.lexer.now c.next.new.self (Some r)) c.in-Some-Err.field-0-is c.in-Some-Err.ensures.steps) h)

pub returns-then-span-at : goal.returns-then-span-at
returns-then-span-at c = λ d next h.
    token_ends c.args.lexer.now c.next.new.self next c.in-Some-Ok.class d c.args.at (subst (λ r. NextIs c.args.lexer.now c.next.new.self (Some r)) c.in-Some-Ok.field-0-is c.in-Some-Ok.ensures.steps)
    (subst (λ r. c.args.at < r.end) c.span.ensures.span c.if-span-at.true) h
