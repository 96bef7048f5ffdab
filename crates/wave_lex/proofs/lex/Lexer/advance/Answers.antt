use Rattle.std.proofs.Common.{◌≡◌, ℕ, List, length, drop, refl, ap, subst, ◌∙◌, arith}
use Rattle.wave_lex.specs.Tokens.{whitespace, invalid}
use Rattle.wave_lex.specs.Tokenization.{IsWhitespace, IsLongestToken, IsInvalid}
use Rattle.wave_lex.proofs.LongestPrefix.MachineWalks.{prefix_boundary}
use Rattle.wave_lex.proofs.Tokenization.LexerSteps.{stands_at, stands_next, whitespace_is_rest}
use Rattle.wave_lex.proofs.lex.Lexer.advance.Goals as goal

pub range_from-text-requires : goal.range_from-text-requires
range_from-text-requires c = λ _. prefix_boundary whitespace _ _ c.range_from-rest.utf8 c.whitespace_at-whitespace.ensures.0

pub invariant_of-self : goal.invariant_of-self
invariant_of-self c = stands_next _ _ _ _ _ _ _ c.range_from-rest.ensures.value c.range_from-text.ensures.value c.self.invariant
    (prefix_boundary whitespace _ _ c.range_from-rest.utf8 c.whitespace_at-whitespace.ensures.0)
    (prefix_boundary _ _ _ c.range_from-text.utf8 c.in-Some.ensures.is.0)

pub returns-in-Some : goal.returns-in-Some
returns-in-Some c =
    let there = c.range_from-text.ensures.value ∙ ap (λ (z : List ℕ). drop c.whitespace_at-whitespace.result z) c.range_from-rest.ensures.value in
    rw (← c.self.view_is) (
      c.whitespace_at-whitespace.result,
      c.in-Some.length,
      record { source = refl; skipped = subst (λ (z : List ℕ). IsWhitespace z c.whitespace_at-whitespace.result) c.range_from-rest.ensures.value c.whitespace_at-whitespace.ensures; start = refl; end = refl },
      subst (λ (z : List ℕ). IsLongestToken z c.in-Some.length c.in-Some.token) there c.in-Some.ensures,
    )

pub invariant_of-self-in-Some-longest_prefix : goal.invariant_of-self-in-Some-longest_prefix
invariant_of-self-in-Some-longest_prefix c = stands_next _ _ _ _ _ _ _ c.range_from-rest.ensures.value c.range_from-text.ensures.value c.self.invariant
    (prefix_boundary whitespace _ _ c.range_from-rest.utf8 c.whitespace_at-whitespace.ensures.0)
    (prefix_boundary invalid _ _ c.range_from-text.utf8 c.in-Some-longest_prefix.ensures.0)

pub returns-in-Some-longest_prefix : goal.returns-in-Some-longest_prefix
returns-in-Some-longest_prefix c =
    let there = c.range_from-text.ensures.value ∙ ap (λ (z : List ℕ). drop c.whitespace_at-whitespace.result z) c.range_from-rest.ensures.value in
    rw (← c.self.view_is) (
      c.whitespace_at-whitespace.result,
      c.in-Some-longest_prefix.length,
      record { source = refl; skipped = subst (λ (z : List ℕ). IsWhitespace z c.whitespace_at-whitespace.result) c.range_from-rest.ensures.value c.whitespace_at-whitespace.ensures; start = refl; end = refl },
      subst (λ (z : List ℕ). IsInvalid z c.in-Some-longest_prefix.length) there (c.in_default.ensures, c.in-Some-longest_prefix.ensures),
      refl,
    )

pub invariant_of-self-2 : goal.invariant_of-self-2
invariant_of-self-2 c = stands_at _ _ _ _ _ c.range_from-rest.ensures.value c.self.invariant
    (prefix_boundary whitespace _ _ c.range_from-rest.utf8 c.whitespace_at-whitespace.ensures.0)

pub returns : goal.returns
returns c =
    let all : c.whitespace_at-whitespace.result ≡ length c.range_from-rest.result.now = whitespace_is_rest _ _ _ c.range_from-text.utf8 c.range_from-text.ensures.value c.whitespace_at-whitespace.ensures c.in_default-longest_prefix.ensures in
    let same : c.whitespace_at-whitespace.result ≡ length (drop c.self.inside.end c.self.inside.source.now) = all ∙ ap length c.range_from-rest.ensures.value in
    let there : IsWhitespace (drop c.self.inside.end c.self.inside.source.now) (length (drop c.self.inside.end c.self.inside.source.now)) =
    subst (λ (z : ℕ). IsWhitespace (drop c.self.inside.end c.self.inside.source.now) z) same (subst (λ (z : List ℕ). IsWhitespace z c.whitespace_at-whitespace.result) c.range_from-rest.ensures.value c.whitespace_at-whitespace.ensures) in
    rw (← c.self.view_is) (record { source = refl; skipped = there; start = omega arith; end = omega arith })
