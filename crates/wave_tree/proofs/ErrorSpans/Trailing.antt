-- What follows a value lies in the text.
use Rattle.std.proofs.Common.{ℕ, inr, List, subst, arith}
use Rattle.wave_grammar.specs.ParserPosition.{Place, TakesTokens}
use Rattle.wave_tree.specs.ParserState.{IsTrailing, start_of}
use Rattle.wave_tree.proofs.ErrorSpans.Syntax.{tokens_inside, refusals_lie}
use Rattle.wave_grammar.specs.Token.{Token}
use Rattle.wave_lex.specs.Errors.{Diagnostic, LiesInText}
use Rattle.wave_tree.specs.ParserLaws.{LiesInSource}

prefix_inside : (s : List ℕ) → LiesInSource (start_of s).lexer
prefix_inside s = (omega arith, omega arith)

-- what follows what was read lies in the text
pub trailing_lies : (s : List ℕ) (p : Place) (ts : List Token) (e : Diagnostic) → TakesTokens (start_of s) ts p → IsTrailing e p → LiesInText s e.span
trailing_lies s p ts e taken trails =
    let there = tokens_inside (start_of s) p ts taken (prefix_inside s) in
    subst (λ (z : List ℕ). LiesInText z e.span) there.1 (refusals_lie e p there.0 (inr trails))
