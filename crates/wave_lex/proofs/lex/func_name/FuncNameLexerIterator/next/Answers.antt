use Rattle.std.proofs.Common.{ℕ, List, drop, refl, sym, subst, ◌∙◌, Some, None}
use Rattle.wave_lex.specs.LongestMatch.{Greatest, IsPrefixOf}
use Rattle.wave_lex.specs.Tokens.{function_name, any}
use Rattle.wave_lex.proofs.LongestPrefix.ByComputing.{prefix_positive}
use Rattle.wave_lex.proofs.LongestPrefix.MachineWalks.{prefix_boundary}
use Rattle.wave_lex.proofs.Tokenization.LexerSteps.{stands_behind, first_scalar, less_behind}
use Rattle.wave_lex.proofs.lex.func_name.FuncNameLexerIterator.next.Goals as goal

pub invariant_of-self : goal.invariant_of-self
invariant_of-self c = stands_behind _ _ _ _ _ c.range_from-rest.ensures.value c.self.invariant (prefix_boundary function_name _ _ c.range_from-rest.utf8 c.in-Some.ensures.0)

pub returns-in-Some-clause-steps : goal.returns-in-Some-clause-steps
returns-in-Some-clause-steps c =
    rw (← c.self.view_is) (
      c.in-Some.length,
      record { source = refl; start = refl; end = refl },
      subst (λ (z : List ℕ). Greatest (IsPrefixOf function_name z) (Some c.in-Some.length)) c.range_from-rest.ensures.value c.in-Some.ensures,
    )

pub returns-in-Some-clause-goes : goal.returns-in-Some-clause-goes
returns-in-Some-clause-goes c =
    let some = prefix_positive function_name _ _ refl c.in-Some.ensures.0 in
    let less = less_behind _ _ _ _ _ c.range_from-rest.ensures.value c.self.invariant c.in-Some.ensures.0.fits some in
    rw (← c.self.view_is) (record { on = λ _. (tt, tt, less); keeps = tt; rests = λ _. tt })

pub invariant_of-self-2 : goal.invariant_of-self-2
invariant_of-self-2 c =
    let first = first_scalar _ _ _ (sym c.chars.ensures.rest ∙ c.in_ok-first.ensures.steps.0) in
    stands_behind _ _ _ _ _ c.range_from-rest.ensures.value c.self.invariant (prefix_boundary any _ _ c.range_from-rest.utf8 (subst (λ (z : ℕ). IsPrefixOf any c.range_from-rest.result.now z) (sym c.len_utf8.ensures.value) first))

pub returns-clause-steps : goal.returns-clause-steps
returns-clause-steps c =
    let first = first_scalar _ _ _ (sym c.chars.ensures.rest ∙ c.in_ok-first.ensures.steps.0) in
    let there : IsPrefixOf any (drop c.self.inside.end c.self.inside.source.now) c.len_utf8.result =
    subst (λ (z : List ℕ). IsPrefixOf any z c.len_utf8.result) c.range_from-rest.ensures.value (subst (λ (z : ℕ). IsPrefixOf any c.range_from-rest.result.now z) (sym c.len_utf8.ensures.value) first) in
    rw (← c.self.view_is) (
      c.len_utf8.result,
      record { source = refl; start = refl; end = refl },
      subst (λ (z : List ℕ). Greatest (IsPrefixOf function_name z) None) c.range_from-rest.ensures.value c.in_default.ensures,
      there,
      refl,
    )
