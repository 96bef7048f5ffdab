-- The classes of tokens, the whitespace, the invalid tokens and the function name.
use Rattle.std.specs.Prelude.{ℕ, zero, suc, List, [], ◌∷◌, codes}
use Rattle.wave_lex.specs.declared.lex.Token.{Token}
use Rattle.wave_lex.specs.declared.lex.Token.TheVariants.{BraceOpen, BraceClose, ParenOpen, ParenClose, BracketOpen, BracketClose}
use Rattle.wave_lex.specs.declared.lex.Token.TheVariants.{Colon, Comma, Number, LabelOrKeyword, Char, String, MultilineString}
use Rattle.wave_lex.specs.Regex.{Regex, nothing, empty, range, except, seq, alt, star}

infixr 12 ◌then◌
-- one text and then another
abbrev pub ◌then◌ : Regex → Regex → Regex
p then q = seq p q

infixr 11 ◌or◌
-- one or the other
abbrev pub ◌or◌ : Regex → Regex → Regex
p or q = alt p q

-- one or none
abbrev pub maybe : Regex → Regex
maybe p = alt empty p

-- at least one
abbrev pub some : Regex → Regex
some p = p then star p

-- at most n
abbrev pub up_to : ℕ → Regex → Regex
up_to zero p = empty
up_to (suc n) p = maybe (p then up_to n p)

-- this scalar
abbrev pub one : ℕ → Regex
one c = range c c

-- any scalar
abbrev pub any : Regex
any = except []

-- one of these scalars
abbrev pub one_of : List ℕ → Regex
one_of [] = nothing
one_of (c ∷ []) = one c
one_of (c ∷ d ∷ cs) = one c or one_of (d ∷ cs)

-- the very text
abbrev pub word : List ℕ → Regex
word [] = empty
word (c ∷ cs) = one c then word cs

-- LF
abbrev pub line_feed : ℕ
line_feed = 10

-- TAB
abbrev pub tab : ℕ
tab = 9

-- CR
abbrev pub carriage_return : ℕ
carriage_return = 13

-- `\`
abbrev pub backslash : ℕ
backslash = 92

-- `'`
abbrev pub single_quote : ℕ
single_quote = 39

-- `"`
abbrev pub double_quote : ℕ
double_quote = 34

-- 0 to 9
abbrev pub digit : Regex
digit = range 48 57

-- 1 to 9
abbrev pub nonzero : Regex
nonzero = range 49 57

-- a to z
abbrev pub lower : Regex
lower = range 97 122

-- A to Z
abbrev pub upper : Regex
upper = range 65 90

-- a hexadecimal digit of either case
abbrev pub hexadecimal : Regex
hexadecimal = digit or range 97 102 or range 65 70

-- ---- numbers

-- 0|[1-9][0-9]*
abbrev pub whole : Regex
whole = one_of (codes "0") or (nonzero then star digit)

-- \.[0-9]+
abbrev pub fraction : Regex
fraction = one_of (codes ".") then some digit

-- [eE][-+]?[0-9]+
abbrev pub exponent : Regex
exponent = one_of (codes "eE") then maybe (one_of (codes "-+")) then some digit

-- a number, or `-inf`
abbrev pub number : Regex
number = (maybe (one_of (codes "-")) then whole then maybe fraction then maybe exponent) or word (codes "-inf")

-- ---- labels

-- [a-z][a-z0-9]*, or [A-Z][A-Z0-9]*
abbrev pub first_word : Regex
first_word = (lower then star (lower or digit)) or (upper then star (upper or digit))

-- [a-z0-9]+, or [A-Z0-9]+
abbrev pub next_word : Regex
next_word = some (lower or digit) or some (upper or digit)

-- a first word, then any number of further words, each after a hyphen
abbrev pub label : Regex
label = first_word then star (one_of (codes "-") then next_word)

-- a label, or `%` and a label
abbrev pub label_or_keyword : Regex
label_or_keyword = maybe (one_of (codes "%")) then label

-- ---- chars and strings

-- `\'`, `\"`, `\t`, `\n`, `\r`, `\\`, or `\u{`, one to six hexadecimal digits and `}`
abbrev pub escape : Regex
escape = one backslash then (one_of (codes "'\"tnr\\") or (word (codes "u{") then hexadecimal then up_to 5 hexadecimal then one_of (codes "}")))

-- a scalar other than `\`, `'` and LF
abbrev pub plain : Regex
plain = except (backslash ∷ single_quote ∷ line_feed ∷ [])

-- `'`, one such scalar or one escape, `'`
abbrev pub character : Regex
character = one single_quote then (plain or escape) then one single_quote

-- `"`, any run of escapes and of scalars other than `\`, `"` and LF, `"`
abbrev pub string : Regex
string = one double_quote then star (except (backslash ∷ double_quote ∷ line_feed ∷ []) or escape) then one double_quote

-- `"""`
abbrev pub quotes : Regex
quotes = word (codes "\"\"\"")

-- from `"""` through the first later `"""`: before that one there are at most two quotes in a row
abbrev pub multiline_string : Regex
multiline_string = quotes then star (up_to 2 (one double_quote) then except (double_quote ∷ [])) then quotes

-- ---- whitespace and invalid tokens

-- a space, TAB, LF or CR
abbrev pub blank : Regex
blank = one_of (32 ∷ tab ∷ line_feed ∷ carriage_return ∷ [])

-- `//` and no LF
abbrev pub comment_text : Regex
comment_text = word (codes "//") then star (except (line_feed ∷ []))

-- blanks and comments; the last comment may go on to the end
abbrev pub whitespace : Regex
whitespace = star (blank or (comment_text then one line_feed)) then maybe comment_text

-- where no token begins: `'` with two to four scalars and `'`, or three quotes, or else one scalar
abbrev pub invalid : Regex
invalid = (one single_quote then plain then plain then up_to 2 plain then one single_quote) or quotes or any

-- ---- the classes

-- the shape of the texts of a class
abbrev pub shape : Token → Regex
shape BraceOpen = one_of (codes "{")
shape BraceClose = one_of (codes "}")
shape ParenOpen = one_of (codes "(")
shape ParenClose = one_of (codes ")")
shape BracketOpen = one_of (codes "[")
shape BracketClose = one_of (codes "]")
shape Colon = one_of (codes ":")
shape Comma = one_of (codes ",")
shape Number = number
shape LabelOrKeyword = label_or_keyword
shape Char = character
shape String = string
shape MultilineString = multiline_string

-- ---- function names

-- 0|[1-9][0-9]*
abbrev pub version_part : Regex
version_part = one_of (codes "0") or (nonzero then star digit)

-- ((label:label)/)?label(\.label)?(@n.n.n)?
abbrev pub function_name : Regex
function_name = maybe ((label then one_of (codes ":") then label) then one_of (codes "/"))
    then label then maybe (one_of (codes ".") then label)
    then maybe (one_of (codes "@") then version_part then one_of (codes ".") then version_part then one_of (codes ".") then version_part)
