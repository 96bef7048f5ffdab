-- A token is its class and its text. The text of a punctuation mark is known by its class.
use Rattle.std.specs.Prelude.{ℕ, List, map, codes}
use Rattle.wave_lex.specs.Tokenization.{Lexeme, Tokenizes}
use Rattle.wave_lex.specs.declared.lex.Token.TheVariants as class

-- a token
pub data Token : Type 0 where
  brace_open brace_close paren_open paren_close bracket_open bracket_close colon comma : Token
  number label char string multiline : List ℕ → Token

-- the class and the text of a token
abbrev pub lexeme_of : Token → Lexeme
lexeme_of brace_open = (class.BraceOpen, codes "{")
lexeme_of brace_close = (class.BraceClose, codes "}")
lexeme_of paren_open = (class.ParenOpen, codes "(")
lexeme_of paren_close = (class.ParenClose, codes ")")
lexeme_of bracket_open = (class.BracketOpen, codes "[")
lexeme_of bracket_close = (class.BracketClose, codes "]")
lexeme_of colon = (class.Colon, codes ":")
lexeme_of comma = (class.Comma, codes ",")
lexeme_of (number text) = (class.Number, text)
lexeme_of (label text) = (class.LabelOrKeyword, text)
lexeme_of (char text) = (class.Char, text)
lexeme_of (string text) = (class.String, text)
lexeme_of (multiline text) = (class.MultilineString, text)

-- the text of a token
abbrev pub text_of : Token → List ℕ
text_of token = (lexeme_of token).1

-- the text s is tokenized into these
abbrev pub TokenizesTo : List ℕ → List Token → Type 0
TokenizesTo s tokens = Tokenizes s (map lexeme_of tokens)
