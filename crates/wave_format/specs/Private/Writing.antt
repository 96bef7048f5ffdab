-- A text that is written token by token and comment by comment. No public contract needs it.
use Rattle.std.specs.Prelude.{◌≡◌, ◌⊎◌, ℕ, Bool, true, false, nat_eq, List, [], ◌∷◌, ◌++◌, length, Option, Some, codes}
use Rattle.std.specs.Str.{IsUtf8}
use Rattle.wave_lex.specs.declared.lex.Token as lex
use Rattle.wave_lex.specs.declared.lex.Token.TheVariants.{Number, LabelOrKeyword, Char, String, MultilineString}
use Rattle.wave_lex.specs.Regex.{is_one_of}
use Rattle.wave_lex.specs.Tokens.{whitespace}
use Rattle.wave_lex.specs.Private.Reading.{LeadsTo}
use Rattle.wave_grammar.specs.Token.{Token}
use Rattle.wave_format.specs.Words.{Word, a_comment, trimmed, is_comment, comments_in, WordsTo}

-- no line feed stands in the text
abbrev pub IsLine : List ℕ → Type 0
IsLine [] = Unit {0}
IsLine (b ∷ s) = (nat_eq b 10 ≡ false) × IsLine s

-- a comment as it is written: its slashes first, and no white space at its end
pub record IsComment (c : List ℕ) : Type 0 where
  pub begins : is_comment c ≡ true
  pub line : IsLine c
  pub trim : trimmed c ≡ c
  pub valid : IsUtf8 c

-- whitespace that any more may follow, with these comments
pub record IsGap (w : List ℕ) (comments : List Word) : Type 0 where
  pub leads : LeadsTo whitespace whitespace w (length w)
  pub has : (y : List ℕ) → comments_in (w ++ y) ≡ comments ++ comments_in y

-- a comment without its line feed, or nothing
abbrev pub IsTail : Bool → List ℕ → List Word → Type 0
IsTail false tail words = (tail ≡ []) × (words ≡ [])
IsTail true tail words = IsComment tail × (words ≡ a_comment tail ∷ [])

-- what may stand behind any token: blanks, and the marks that go on with no token
abbrev pub stops : List ℕ
stops = 32 ∷ 10 ∷ codes ",)]}:("

-- the text is empty, or begins with such a byte
abbrev pub Stops : List ℕ → Type 0
Stops [] = Unit {0}
Stops (b ∷ s) = is_one_of b stops ≡ true

-- the text may follow a token of this class
abbrev pub MayFollow : Option lex.Token → List ℕ → Type 0
MayFollow (Some Number) s = Stops s
MayFollow (Some LabelOrKeyword) s = Stops s
MayFollow (Some Char) s = Stops s
MayFollow (Some String) s = Stops s
MayFollow (Some MultilineString) s = Stops s
MayFollow _ s = Unit {0}

-- behind the name, the text has these tokens and words, the last token is of this class, and it ends in a comment or not
pub record Written (name text : List ℕ) (tokens : List Token) (words : List Word) (last : Option lex.Token) (in_comment : Bool) : Type 0 where
  pub stem : List ℕ
  pub gap : List ℕ
  pub tail : List ℕ
  pub before : List Word
  pub inside : List Word
  pub behind : List Word
  pub parts : text ≡ name ++ (stem ++ (gap ++ tail))
  pub is_words : words ≡ before ++ (inside ++ behind)
  pub is_gap : IsGap gap inside
  pub is_tail : IsTail in_comment tail behind
  pub stands : (r : List ℕ) → MayFollow last r → WordsTo (stem ++ r) tokens before r
  pub apart : (gap ++ tail ≡ []) ⊎ ((r : List ℕ) → MayFollow last (gap ++ (tail ++ r)))

-- so is the text, and more that begins with x may follow it
pub record IsReady (name text : List ℕ) (tokens : List Token) (words : List Word) (last : Option lex.Token) (x : List ℕ) : Type 0 where
  pub written : Written name text tokens words last false
  pub may : (r : List ℕ) → MayFollow last (written.gap ++ (x ++ r))
