use Rattle.std.proofs.Common.{subst}
use Rattle.wave_lex.specs.declared.lex.Token.{Token}
use Rattle.wave_lex.specs.LongestMatch.{IsPrefixOf}
use Rattle.wave_lex.specs.Tokens.{shape}
use Rattle.wave_lex.proofs.lex.token_at.Goals as goal

pub returns : goal.returns
returns c = record {
  is = (c.in_ok-length.ensures.0, c.in_ok-class.ensures.1 c.in_ok-length.length);
  longest = λ j d t. c.in_ok-length.ensures.1 j (subst (λ (z : Token). IsPrefixOf (shape z) c.args.text.now j) (c.in_ok-class.ensures.0 j d t) t.0);
}
