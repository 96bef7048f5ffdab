-- Tokens at the start of a text, how a text is tokenized, and what a lexer answers.
use Rattle.std.specs.Prelude.{◌≡◌, ℕ, ◌≤◌, ◌+◌, ◌≢◌, ◌↔◌, List, [], ◌∷◌, ◌++◌, Option, Some, None, Result, Ok, Err, take, drop, length, codes}
use Rattle.std.specs.Str.{IsCharBoundary}
use Rattle.std.specs.declared.ops.Range.{Range}
use Rattle.wave_lex.specs.declared.found.Found.{Found}
use Rattle.wave_lex.specs.declared.found.Found.TheVariants as found
use Rattle.wave_lex.specs.declared.lex.Token.{Token}
use Rattle.wave_lex.specs.declared.lex.Token.TheVariants.{String}
use Rattle.wave_lex.specs.Regex.{Matches}
use Rattle.wave_lex.specs.LongestMatch.{Greatest, IsPrefixOf}
use Rattle.wave_lex.specs.Tokens.{shape, whitespace, invalid, label, multiline_string}

-- `"""`
abbrev pub three_quotes : List ℕ
three_quotes = codes "\"\"\""

-- `""` is a string only where no third `"` follows
abbrev pub MayStandAt : List ℕ → ℕ → Token → Type 0
MayStandAt r k String = k ≡ 2 → take 3 r ≢ three_quotes
MayStandAt r k _ = Unit {0}

-- the first k bytes of r lie in the class c
abbrev pub IsToken : List ℕ → ℕ → Token → Type 0
IsToken r k c = IsPrefixOf (shape c) r k × MayStandAt r k c

-- k is the greatest number of bytes for which that holds, in any class
pub record IsLongestToken (r : List ℕ) (k : ℕ) (c : Token) : Type 0 where
  pub is : IsToken r k c
  pub longest : (j : ℕ) (d : Token) → IsToken r j d → j ≤ k

-- no token stands at the start of r
abbrev pub NoToken : List ℕ → Type 0
NoToken r = (k : ℕ) (c : Token) → IsToken r k c → ⊥

-- the whitespace at the start of s has g bytes, as many as can be
abbrev pub IsWhitespace : List ℕ → ℕ → Type 0
IsWhitespace s g = Greatest (IsPrefixOf whitespace s) (Some g)

-- the invalid token at the start of r has k bytes
abbrev pub IsInvalid : List ℕ → ℕ → Type 0
IsInvalid r k = NoToken r × Greatest (IsPrefixOf invalid r) (Some k)

-- a token of a text: its class and its text
abbrev pub Lexeme : Type 0
Lexeme = Token × List ℕ

-- s is whitespace, token, whitespace, token, and so on through the last of ts, then r
abbrev pub Prefix : List ℕ → List Lexeme → List ℕ → Type 0
Prefix s [] r = s ≡ r
Prefix s (t ∷ ts) r = (g : ℕ) × (k : ℕ) × IsWhitespace s g × IsLongestToken (drop g s) k t.0 × (t.1 ≡ take k (drop g s)) × Prefix (drop (g + k) s) ts r

-- s is so through the last of ts, and whitespace after it
abbrev pub Tokenizes : List ℕ → List Lexeme → Type 0
Tokenizes s ts = (r : List ℕ) × Prefix s ts r × IsWhitespace r (length r)

-- a text is tokenized in one way
abbrev pub OneTokenization : Type 0
OneTokenization = (s : List ℕ) (ts us : List Lexeme) → Tokenizes s ts → Tokenizes s us → ts ≡ us

-- no three quotes stand in s
abbrev pub HasNoThreeQuotes : List ℕ → Type 0
HasNoThreeQuotes s = (x y : List ℕ) → s ≢ x ++ (three_quotes ++ y)

-- a multiline token goes from `"""` through the first later `"""`: its scalars are those quotes, the inside and those quotes, and no earlier `"""` ends it
abbrev pub ThroughFirstQuotes : Type 0
ThroughFirstQuotes = (s : List ℕ) → Matches multiline_string s
    ↔ ((inside : List ℕ) × (s ≡ three_quotes ++ (inside ++ three_quotes)) × HasNoThreeQuotes (inside ++ codes "\"\""))

-- no label at the place of a token is longer than the token
abbrev pub NoLongerLabel : Type 0
NoLongerLabel = (r : List ℕ) (k j : ℕ) (c : Token) → IsLongestToken r k c → IsPrefixOf label r j → j ≤ k

-- ---- lexers

-- a lexer: its source, and the span of its last item
pub record Lexed : Type 0 where
  pub source : List ℕ
  pub start : ℕ
  pub end : ℕ

-- what it has not read
abbrev pub remainder_of : Lexed → List ℕ
remainder_of l = drop l.end l.source

-- both ends of the span may split the source
pub record Stands (source : List ℕ) (start end : ℕ) : Type 0 where
  pub ordered : start ≤ end
  pub first : IsCharBoundary source start
  pub last : IsCharBoundary source end

-- after whitespace of g bytes stands an item of k bytes, and the span is its
pub record Passes (old new : Lexed) (g k : ℕ) : Type 0 where
  pub source : new.source ≡ old.source
  pub skipped : IsWhitespace (remainder_of old) g
  pub start : new.start ≡ old.end + g
  pub end : new.end ≡ old.end + g + k

-- from one place to another
abbrev pub span : ℕ → ℕ → Range ℕ
span from to = record { start = from; end = to }

-- what `Lexer::next` answers: the next token; None where only whitespace is left; else the invalid span
abbrev pub NextIs : Lexed → Lexed → Option (Result Token (Range ℕ)) → Type 0
NextIs old new None = Passes old new (length (remainder_of old)) 0
NextIs old new (Some (Ok c)) = (g : ℕ) × (k : ℕ) × Passes old new g k × IsLongestToken (drop g (remainder_of old)) k c
NextIs old new (Some (Err bad)) = (g : ℕ) × (k : ℕ) × Passes old new g k × IsInvalid (drop g (remainder_of old)) k × (bad ≡ span new.start new.end)

-- what a lexer gives that took this and stands at l
abbrev pub item_of : Found → Lexed → Option (Result Token (Range ℕ))
item_of (found.Token c) l = Some (Ok c)
item_of found.Invalid l = Some (Err (span l.start l.end))
item_of found.End l = None
