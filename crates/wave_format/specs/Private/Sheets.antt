-- What each step of a layout writes. No public contract needs it.
use Rattle.std.specs.Prelude.{◌≡◌, ◌⊎◌, ℕ, ◌||◌, Bool, true, false, nat_eq, List, [], ◌∷◌, ◌++◌, Option, Some, None}
use Rattle.std.specs.Str.{IsUtf8}
use Rattle.wave_lex.specs.declared.lex.Token as lex
use Rattle.wave_lex.specs.declared.lex.Token.TheVariants as class
use Rattle.wave_lex.specs.Multiline.{pieces}
use Rattle.wave_format.specs.Words.{trimmed, is_comment}
use Rattle.wave_format.specs.Private.Brackets.{ends_item, is_close, brackets_after, HasItems}

-- what is written; of the brackets that are open, the innermost first, whether they have a payload; the class of the last token, and whether that is a comma that isn't written; whether the text ends in a comment
pub record Sheet : Type 0 where
  pub text : List ℕ
  pub payloads : List Bool
  pub last : Option lex.Token
  pub held : Bool
  pub in_comment : Bool

-- spaces and line feeds
abbrev pub AreBlanks : List ℕ → Type 0
AreBlanks [] = Unit {0}
AreBlanks (b ∷ s) = ((nat_eq b 32 || nat_eq b 10) ≡ true) × AreBlanks s

-- a line feed and blanks
abbrev pub IsBreak : List ℕ → Type 0
IsBreak [] = ⊥
IsBreak (b ∷ s) = (b ≡ 10) × AreBlanks s

-- a line feed and blanks where a comment ends, else nothing
abbrev pub EndsComment : Bool → List ℕ → Type 0
EndsComment true v = IsBreak v
EndsComment false v = v ≡ []

-- the text is written, after a comment on a line of its own
pub record Writes (x : List ℕ) (old new : Sheet) : Type 0 where
  pub space : List ℕ
  pub ends : EndsComment old.in_comment space
  pub is : new ≡ record old { text = old.text ++ (space ++ x); in_comment = false }

-- a line begins
pub record BeginsLine (old new : Sheet) : Type 0 where
  pub space : List ℕ
  pub break : IsBreak space
  pub is : new ≡ record old { text = old.text ++ space; in_comment = false }

-- before a comment a line begins; or on the same line a space, or nothing before any token
abbrev pub IsBeforeComment : Sheet → List ℕ → Type 0
IsBeforeComment old v = IsBreak v ⊎ (old.in_comment ≡ false) × ((v ≡ 32 ∷ []) ⊎ (v ≡ []) × (old.last ≡ None))

-- the comment is written
pub record AddsComment (line : List ℕ) (old new : Sheet) : Type 0 where
  pub trim : trimmed line ≡ line
  pub valid : IsUtf8 line
  pub space : List ℕ
  pub before : IsBeforeComment old space
  pub is : new ≡ record old { text = old.text ++ (space ++ line); in_comment = true }

-- the line is written where it is a comment
abbrev pub PutsLine : Bool → List ℕ → Sheet → Sheet → Type 0
PutsLine true line old new = AddsComment line old new
PutsLine false line old new = new ≡ old

-- the comments that the lines are, without the white space around them, are written
abbrev pub PutsLines : List (List ℕ) → Sheet → Sheet → Type 0
PutsLines [] old new = new ≡ old
PutsLines (line ∷ lines) old new = (middle : Sheet) × PutsLine (is_comment (trimmed line)) (trimmed line) old middle × PutsLines lines middle new

-- a token of the class is one that goes on with no other
abbrev pub is_stop : lex.Token → Bool
is_stop class.BraceClose = true
is_stop class.ParenOpen = true
is_stop class.ParenClose = true
is_stop class.BracketClose = true
is_stop class.Colon = true
is_stop class.Comma = true
is_stop _ = false

-- any token may stand right behind one of the class, which is an opening bracket
abbrev pub is_open_end : Option lex.Token → Bool
is_open_end None = true
is_open_end (Some class.BraceOpen) = true
is_open_end (Some class.ParenOpen) = true
is_open_end (Some class.BracketOpen) = true
is_open_end _ = false

-- before a token a line begins; or a space is written; or nothing, where the token may stand right behind the last
abbrev pub IsBeforeToken : lex.Token → Sheet → List ℕ → Type 0
IsBeforeToken c old v =
    IsBreak v ⊎ (old.in_comment ≡ false) × ((v ≡ 32 ∷ []) ⊎ (v ≡ []) × ((is_stop c || is_open_end old.last) ≡ true))

-- the whitespace before a token is written
pub record PutsSpace (c : lex.Token) (old new : Sheet) : Type 0 where
  pub space : List ℕ
  pub before : IsBeforeToken c old space
  pub is : new ≡ record old { text = old.text ++ space; in_comment = false }

-- a comma is held back; or the token is written
abbrev pub PutsToken : lex.Token → List ℕ → Sheet → Sheet → Type 0
PutsToken c x old new =
    (c ≡ class.Comma) × (new ≡ record old { last = Some c; held = true })
    ⊎ ((middle : Sheet) × Writes x old middle × (new ≡ record middle { payloads = brackets_after old.last c old.payloads; last = Some c }))

-- a comma may be added here before a token of the class
abbrev pub MayAdd : lex.Token → Sheet → Type 0
MayAdd c old = (old.held ≡ false) × (is_close c ≡ true) × (ends_item old.last ≡ true) × HasItems old.payloads

-- no comma is written: none is held back, or a close follows; or one is: that which was held back, where no close follows, or one that is added
abbrev pub PutsComma : lex.Token → Sheet → Sheet → Type 0
PutsComma c old new =
    (new ≡ record old { held = false }) × ((old.held ≡ false) ⊎ (is_close c ≡ true))
    ⊎ ((middle : Sheet) × Writes (44 ∷ []) (record old { held = false }) middle × (new ≡ record middle { last = Some class.Comma })
    × ((old.held ≡ true) × (is_close c ≡ false) ⊎ MayAdd c old))

-- a token that is written before the comments before it: a comma, a colon or an opening parenthesis
abbrev pub is_joining : lex.Token → Bool
is_joining class.Comma = true
is_joining class.Colon = true
is_joining class.ParenOpen = true
is_joining _ = false

-- the token is a comma
abbrev pub is_comma : lex.Token → Bool
is_comma class.Comma = true
is_comma _ = false

-- the token of this class and text, and the comments of the whitespace before it
abbrev pub Puts : lex.Token → List ℕ → List ℕ → Sheet → Sheet → Type 0
Puts c gap x old new =
    (begun : Sheet) × PutsComma c old begun
    × ((is_joining c ≡ true) × ((middle : Sheet) × PutsToken c x begun middle × PutsLines (pieces gap) middle new)
    ⊎ (is_comma c ≡ false) × ((middle : Sheet) × (spaced : Sheet) × PutsLines (pieces gap) begun middle × PutsSpace c middle spaced × PutsToken c x spaced new))

-- a token of the class is an opening parenthesis
abbrev pub is_paren : lex.Token → Bool
is_paren class.ParenOpen = true
is_paren _ = false

-- a token of the class opens a bracket
abbrev pub opens : lex.Token → Bool
opens class.BraceOpen = true
opens class.ParenOpen = true
opens class.BracketOpen = true
opens _ = false
