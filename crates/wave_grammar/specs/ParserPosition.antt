-- A parser's place, and the tokens that it takes from there.
use Rattle.std.specs.Prelude.{ℕ, ◌≡◌, ◌+◌, List, [], ◌∷◌, Option, Some, None, Result, Ok, slice_range}
use Rattle.std.specs.declared.ops.Range.{Range}
use Rattle.wave_lex.specs.declared.lex.Token as lex
use Rattle.wave_lex.specs.declared.lex.Token.TheVariants.{BraceOpen, BraceClose, ParenOpen, ParenClose, BracketOpen, BracketClose}
use Rattle.wave_lex.specs.declared.lex.Token.TheVariants.{Colon, Comma, Number, LabelOrKeyword, Char, String, MultilineString}
use Rattle.wave_lex.specs.Tokenization.{Lexed, NextIs, span}
use Rattle.wave_grammar.specs.Token.{Token, brace_open, brace_close, paren_open, paren_close, bracket_open, bracket_close}
use Rattle.wave_grammar.specs.Token.{colon, comma, number, label, char, string, multiline}

-- the token of this class and this text
abbrev pub token_of : lex.Token → List ℕ → Token
token_of BraceOpen text = brace_open
token_of BraceClose text = brace_close
token_of ParenOpen text = paren_open
token_of ParenClose text = paren_close
token_of BracketOpen text = bracket_open
token_of BracketClose text = bracket_close
token_of Colon text = colon
token_of Comma text = comma
token_of Number text = number text
token_of LabelOrKeyword text = label text
token_of Char text = char text
token_of String text = string text
token_of MultilineString text = multiline text

-- where a parser stands, and how many items it took
pub record Place : Type 0 where
  pub lexer : Lexed
  pub taken : ℕ

-- what a lexer answers
abbrev pub Item : Type 0
Item = Option (Result lex.Token (Range ℕ))

-- the span of the last item
abbrev pub span_at : Place → Range ℕ
span_at p = span p.lexer.start p.lexer.end

-- the text of the last item
abbrev pub text_at : Place → List ℕ
text_at p = slice_range p.lexer.source p.lexer.start p.lexer.end

-- the next item is this one, and q stands after it
abbrev pub TakesItem : Place → Item → Place → Type 0
TakesItem p item q = NextIs p.lexer q.lexer item × (q.taken ≡ p.taken + 1)

-- the next item is this token
abbrev pub TakesToken : Place → Token → Place → Type 0
TakesToken p t q = (c : lex.Token) × TakesItem p (Some (Ok c)) q × (t ≡ token_of c (text_at q))

-- the next items are these tokens
abbrev pub TakesTokens : Place → List Token → Place → Type 0
TakesTokens p [] q = p ≡ q
TakesTokens p (t ∷ ts) q = (behind : Place) × TakesToken p t behind × TakesTokens behind ts q

-- a token or an invalid one
abbrev pub IsSomething : Item → Type 0
IsSomething None = ⊥
IsSomething (Some item) = Unit {0}

-- the next item is a token or an invalid one
abbrev pub TakesAny : Place → Place → Type 0
TakesAny p q = (item : Item) × IsSomething item × TakesItem p item q
