-- What the lexer's own functions answer.
use Rattle.std.specs.Prelude.{◌≡◌, ℕ, ◌<◌, false, List, Option, Some, None, length, drop, slice_index}
use Rattle.wave_lex.specs.declared.lex.Token.{Token}
use Rattle.wave_lex.specs.declared.lex.Token.TheVariants.{BraceOpen, BraceClose, ParenOpen, ParenClose, BracketOpen, BracketClose, Colon, Comma, Number}
use Rattle.wave_lex.specs.declared.machine.Start.TheVariants.{LowerWord}
use Rattle.wave_lex.specs.Regex.{Regex}
use Rattle.wave_lex.specs.Derive.{derivative_by}
use Rattle.wave_lex.specs.LongestMatch.{PrefixHas}
use Rattle.wave_lex.specs.Machines.{is_lower, rest}
use Rattle.wave_lex.specs.Tokenization.{IsLongestToken, IsWhitespace, NoToken}

-- which byte the mark of a class is
abbrev pub IsMark : ℕ → Token → Type 0
IsMark m BraceOpen = m ≡ 123
IsMark m BraceClose = m ≡ 125
IsMark m ParenOpen = m ≡ 40
IsMark m ParenClose = m ≡ 41
IsMark m BracketOpen = m ≡ 91
IsMark m BracketClose = m ≡ 93
IsMark m Colon = m ≡ 58
IsMark m Comma = m ≡ 44
IsMark m _ = ⊥

-- a mark is the longest token at the start of r, and no whitespace stands before it
abbrev pub IsFirstMark : List ℕ → Token → Type 0
IsFirstMark r c = IsWhitespace r 0 × IsLongestToken r 1 c

-- a comma stands at the start of r, then g bytes of whitespace, then a number of k bytes
abbrev pub IsNumberBehindComma : List ℕ → ℕ → ℕ → Type 0
IsNumberBehindComma r g k = IsFirstMark r Comma × IsWhitespace (drop 1 r) g × IsLongestToken (drop g (drop 1 r)) k Number

-- what stands at the start of r
abbrev pub TokenAt : List ℕ → Option (Token × ℕ) → Type 0
TokenAt r None = NoToken r
TokenAt r (Some t) = IsLongestToken r t.1 t.0

-- after the first k bytes of s, what may follow in the shape is the shape q
abbrev pub LeadsTo : Regex → Regex → List ℕ → ℕ → Type 0
LeadsTo shape q s k = PrefixHas (λ scalars. derivative_by scalars shape ≡ q) s k

-- the first k bytes of s, where a k is given, leave the shape q as it is
abbrev pub IsStep : Regex → List ℕ → Option ℕ → Type 0
IsStep q s None = Unit {0}
IsStep q s (Some k) = (0 < k) × LeadsTo q q s k

-- after the first k bytes of s a lower-case word of a label ends: they lead into such a word, and it does not go on
pub record EndsWord (shape : Regex) (s : List ℕ) (k : ℕ) : Type 0 where
  pub leads : LeadsTo shape (rest LowerWord) s k
  pub stops : k < length s → is_lower (slice_index s k) ≡ false

-- the first k bytes of s, where there are some, lead from one such word to the end of the next
abbrev pub IsWordStep : List ℕ → Option ℕ → Type 0
IsWordStep s None = Unit {0}
IsWordStep s (Some k) = (0 < k) × EndsWord (rest LowerWord) s k
