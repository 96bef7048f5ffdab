-- The words of a text: its tokens and its comments.
use Rattle.std.specs.Prelude.{◌≡◌, ℕ, ◌+◌, ◌-◌, Bool, false, nat_eq, ◌&&◌, if◌then◌else◌, List, [], ◌∷◌, ◌++◌, take, drop, length}
use Rattle.std.specs.Char.{is_ascii_whitespace}
use Rattle.std.specs.List.{prefix_len, suffix_len}
use Rattle.wave_lex.specs.Multiline.{pieces}
use Rattle.wave_lex.specs.Tokenization.{IsWhitespace, IsLongestToken}
use Rattle.wave_grammar.specs.Token.{Token, lexeme_of, text_of, comma, colon, paren_open}

-- a token, or a comment
pub data Word : Type 0 where
  a_token : Token → Word
  a_comment : List ℕ → Word

-- ---- comments

-- the text without white space at its beginning
abbrev pub trimmed_start : List ℕ → List ℕ
trimmed_start s = drop (prefix_len is_ascii_whitespace s) s

-- the text without white space at its end
abbrev pub trimmed_end : List ℕ → List ℕ
trimmed_end s = take (length s - suffix_len is_ascii_whitespace s) s

-- the text without white space at its beginning and its end
abbrev pub trimmed : List ℕ → List ℕ
trimmed s = trimmed_end (trimmed_start s)

-- the text begins with `//`
abbrev pub is_comment : List ℕ → Bool
is_comment (a ∷ b ∷ s) = nat_eq a 47 && nat_eq b 47
is_comment _ = false

-- the comment that a line is, where it is one
abbrev pub comment_of : List ℕ → List Word
comment_of line = if is_comment line then a_comment line ∷ [] else []

-- the comments that the lines are, without the white space around them
abbrev pub comments_of : List (List ℕ) → List Word
comments_of [] = []
comments_of (line ∷ lines) = comment_of (trimmed line) ++ comments_of lines

-- the comments in whitespace
abbrev pub comments_in : List ℕ → List Word
comments_in whitespace = comments_of (pieces whitespace)

-- ---- words

-- s is whitespace, token, whitespace, token, and so on through the last of ts, then r; ws are the tokens, and the comments in the whitespace before each
abbrev pub WordsTo : List ℕ → List Token → List Word → List ℕ → Type 0
WordsTo s [] ws r = (s ≡ r) × (ws ≡ [])
WordsTo s (t ∷ ts) ws r =
    (g : ℕ) × (k : ℕ) × (more : List Word) × IsWhitespace s g × IsLongestToken (drop g s) k (lexeme_of t).0 × (text_of t ≡ take k (drop g s))
    × (ws ≡ comments_in (take g s) ++ a_token t ∷ more) × WordsTo (drop (g + k) s) ts more r

-- the text has these tokens, and with its comments these words
abbrev pub HasWords : List ℕ → List Token → List Word → Type 0
HasWords s ts ws =
    (most : List Word) × (r : List ℕ) × WordsTo s ts most r × IsWhitespace r (length r) × (ws ≡ most ++ comments_in r)

-- the words without commas, colons and opening parentheses
abbrev pub kept : List Word → List Word
kept [] = []
kept (a_token comma ∷ more) = kept more
kept (a_token colon ∷ more) = kept more
kept (a_token paren_open ∷ more) = kept more
kept (word ∷ more) = word ∷ kept more
