use Rattle.std.proofs.Common.{ℕ, List, sym, ap, subst, ◌∙◌, arith}
use Rattle.wave_lex.specs.Tokenization.{Lexed, IsWhitespace, IsLongestToken, remainder_of}
use Rattle.wave_lex.proofs.LongestPrefix.MachineWalks.{prefix_boundary}
use Rattle.wave_lex.proofs.Tokenization.LexerSteps.{stands_behind}
use Rattle.wave_lex.proofs.lex.Lexer.take.Goals as goal

pub invariant_of-self : goal.invariant_of-self
invariant_of-self c = stands_behind _ _ _ _ _ (c.remainder.ensures ∙ ap remainder_of (sym c.self.view_is)) c.self.invariant
    (prefix_boundary _ _ _ c.remainder.utf8 c.in-Some.ensures.1.is.0)

pub returns-in-Some-clause-item : goal.returns-in-Some-clause-item
returns-in-Some-clause-item c =
    let source = ap (λ (z : Lexed). z.source) c.self.view_is in
    let end = ap (λ (z : Lexed). z.end) c.self.view_is in (
      0,
      1,
      record { source = source; skipped = subst (λ (z : List ℕ). IsWhitespace z 0) c.remainder.ensures c.in-Some.ensures.0; start = omega (arith, end); end = omega (arith, end) },
      subst (λ (z : List ℕ). IsLongestToken z 1 c.in-Some.mark) c.remainder.ensures c.in-Some.ensures.1,
    )
