use Rattle.std.proofs.Common.{ℕ, ◌≡◌, ◌≤◌, ◌<◌, ap, subst, arith}
use Rattle.wave_lex.specs.Tokenization.{Lexed}
use Rattle.wave_expected.specs.declared.expected.Expected.{Expected}
use Rattle.wave_expected.specs.Expected.{MayFollowInCall, AreParams, IsExpectedFrom}
use Rattle.wave_expected.proofs.ExpectedTokens.ParamTokens.{in_call, refused_name, name_behind}
use Rattle.wave_expected.proofs.expected.call.expected_in_call_within.Goals as goal

pub returns-in_default : goal.returns-in_default
returns-in_default c = refused_name c.args.source.now c.args.at c.in_default.field-0 c.in_default.ensures.refused

pub returns-then-span-at : goal.returns-then-span-at
returns-then-span-at c =
    let (k, named, is) = c.in-Ok.ensures.named in
    name_behind c.args.source.now c.args.at k named (past k (ap (λ (l : Lexed). l.end) is))
  where
    past : (k : ℕ) → c.in-Ok.names.end ≡ k → c.args.at < k
    past k e = let ends = ap (λ r. r.end) c.span.ensures.span in omega (arith, c.if-span-at.true)

pub returns : goal.returns
returns c =
    let (k, named, is) = c.in-Ok.ensures.named in
    let new : Expected = c.in_ok-in_call.field-0 in (
      k,
      named,
      by k (ap (λ (l : Lexed). l.end) is),
      subst (λ (l : Lexed). IsExpectedFrom l c.args.at (MayFollowInCall c.args.levels) (AreParams c.args.levels) new) is
          (subst (λ (l : Lexed). IsExpectedFrom l c.args.at (MayFollowInCall c.args.levels) (AreParams c.args.levels) new) c.into_lexer-first.ensures
          (in_call c.args.levels c.into_lexer-first.result c.args.at c.prefix_of.result c.in_ok-tuple.tuple new c.prefix_of.ensures c.in_ok-tuple.ensures.expected c.in_ok-in_call.ensures.classes c.in_ok-in_call.ensures.end c.in_ok-in_call.ensures.brackets)),
    )
  where
    by : (k : ℕ) → c.in-Ok.names.end ≡ k → k ≤ c.args.at
    by k e = let ends = ap (λ r. r.end) c.span.ensures.span in omega (arith, c.if-span-at.false)
