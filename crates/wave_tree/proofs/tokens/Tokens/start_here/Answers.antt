use Rattle.std.proofs.Common.{drop, subst}
use Rattle.std.specs.Str.{IsUtf8}
use Rattle.std.proofs.lemmas.Str.{IsUtf8-drop}
use Rattle.wave_lex.specs.Tokenization.{Lexed}
use Rattle.wave_tree.specs.ParserLaws.{LiesInSource}
use Rattle.wave_tree.proofs.ErrorSpans.Syntax.{lexer_inside}
use Rattle.wave_tree.proofs.tokens.Tokens.start_here.Goals as goal

pub returns-clause-inside : goal.returns-clause-inside
returns-clause-inside c = subst LiesInSource c.here-here.ensures (lexer_inside c.here-here.result.now c.span.ensures.stands)

pub returns-clause-sound : goal.returns-clause-sound
returns-clause-sound c =
    let lexer = c.here-here.result.now in
    subst (λ (z : Lexed). IsUtf8 (drop z.end z.source)) c.here-here.ensures (IsUtf8-drop lexer.source lexer.end (subst IsUtf8 c.source.ensures c.source.utf8) c.span.ensures.stands.last)
