use Rattle.std.proofs.Common.{ℕ, List, refl, sym, ap, subst, ◌∙◌, drop, arith, Some}
use Rattle.wave_lex.specs.declared.lex.Token.TheVariants.{Comma, Number}
use Rattle.wave_lex.specs.Tokens.{shape, whitespace}
use Rattle.wave_lex.specs.Tokenization.{IsWhitespace, IsLongestToken}
use Rattle.wave_lex.specs.Private.Reading.{IsFirstMark}
use Rattle.wave_lex.proofs.LongestPrefix.MachineWalks.{prefix_boundary}
use Rattle.wave_lex.proofs.Tokenization.Marks.{first_mark_here}
use Rattle.wave_lex.proofs.Tokenization.NumbersInTurn.{number_token}
use Rattle.wave_lex.proofs.lex.number_behind_comma.Goals as goal

pub range_from-rest-requires : goal.range_from-rest-requires
range_from-rest-requires c =
    let mark : IsFirstMark c.args.text.now Comma = first_mark_here 44 (Some Comma) _ _ refl c.as_bytes-bytes.ensures.value (omega arith) c.if-bytes-ne44.false in
    λ _. prefix_boundary (shape Comma) _ _ c.utf8.text mark.1.is.0

pub range_from-number-requires : goal.range_from-number-requires
range_from-number-requires c = λ _. prefix_boundary whitespace _ _ c.range_from-rest.utf8 c.whitespace_at-whitespace.ensures.0

pub returns : goal.returns
returns c =
    let mark : IsFirstMark c.args.text.now Comma = first_mark_here 44 (Some Comma) _ _ refl c.as_bytes-bytes.ensures.value (omega arith) c.if-bytes-ne44.false in
    let rest = c.range_from-rest.ensures.value in
    let there = c.range_from-number.ensures.value ∙ ap (λ (z : List ℕ). drop c.whitespace_at-whitespace.result z) rest in (
      mark,
      subst (λ (z : List ℕ). IsWhitespace z c.whitespace_at-whitespace.result) rest c.whitespace_at-whitespace.ensures,
      subst (λ (z : List ℕ). IsLongestToken z c.in_ok-length.length Number) there
          (number_token _ _ _ c.as_bytes-first.ensures.value (omega arith) (sym c.if-not-begins_number.ensures) c.in_ok-length.ensures),
    )
