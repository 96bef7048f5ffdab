-- What a label is, in plain words.
use Rattle.std.specs.Prelude.{◌≡◌, ◌≢◌, ◌≤◌, ◌↔◌, ◌⊎◌, ◌||◌, ℕ, List, [], ◌∷◌, ◌++◌, IsTrue, length, take, codes}
use Rattle.std.specs.Char.{is_ascii_lowercase, is_ascii_uppercase, is_ascii_alphabetic, is_ascii_digit}
use Rattle.std.specs.List.{join_with_byte}
use Rattle.wave_wasm.specs.Lists.{AllOf}
use Rattle.wave_lex.specs.declared.lex.Token.TheVariants.{LabelOrKeyword}
use Rattle.wave_lex.specs.Labels.{IsLabel}
use Rattle.wave_lex.specs.Tokenization.{IsToken}

-- `-`
abbrev pub hyphen : ℕ
hyphen = 45

-- a to z, or 0 to 9
abbrev pub IsLowerOrDigit : ℕ → Type 0
IsLowerOrDigit c = IsTrue (is_ascii_lowercase c || is_ascii_digit c)

-- A to Z, or 0 to 9
abbrev pub IsUpperOrDigit : ℕ → Type 0
IsUpperOrDigit c = IsTrue (is_ascii_uppercase c || is_ascii_digit c)

-- a word isn't empty, and is of lower-case letters and digits, or of upper-case letters and digits
abbrev pub IsWord : List ℕ → Type 0
IsWord s = (s ≢ []) × (AllOf IsLowerOrDigit s ⊎ AllOf IsUpperOrDigit s)

-- the text begins with a letter
abbrev pub BeginsWithLetter : List ℕ → Type 0
BeginsWithLetter [] = ⊥
BeginsWithLetter (c ∷ more) = IsTrue (is_ascii_alphabetic c)

-- the text is one word, or several with a hyphen between each two, and the first begins with a letter
pub record IsJoinedWords (s : List ℕ) : Type 0 where
  pub first : List ℕ
  pub more : List (List ℕ)
  pub joined : s ≡ join_with_byte hyphen (first ∷ more)
  pub words : AllOf IsWord (first ∷ more)
  pub begins : BeginsWithLetter first

-- a text is a label exactly where it is such words
abbrev pub LabelsAreWords : Type 0
LabelsAreWords = (s : List ℕ) → IsLabel s ↔ IsJoinedWords s

-- the first k bytes of a text are a token of the class of labels exactly where they are a label, or `%` and a label
abbrev pub LabelTokensAreLabels : Type 0
LabelTokensAreLabels = (r : List ℕ) (k : ℕ) → k ≤ length r
    → IsToken r k LabelOrKeyword ↔ (IsLabel (take k r) ⊎ ((s : List ℕ) × (take k r ≡ codes "%" ++ s) × IsLabel s))
