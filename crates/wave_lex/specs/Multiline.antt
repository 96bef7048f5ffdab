-- What a multiline token stands for, and what is wrong with one.
use Rattle.std.specs.Prelude.{◌≡◌, ◌≢◌, ℕ, ◌+◌, ◌⊎◌, zero, suc, nat_eq, if◌then◌else◌, List, [], ◌∷◌, ◌++◌, length}
use Rattle.std.specs.declared.ops.Range.{Range}
use Rattle.wave_lex.specs.declared.error.ParserErrorKind.{ParserErrorKind}
use Rattle.wave_lex.specs.declared.error.ParserErrorKind.TheVariants.{InvalidEscape, InvalidMultilineString}
use Rattle.wave_lex.specs.Tokens.{line_feed, carriage_return}
use Rattle.wave_lex.specs.Tokenization.{three_quotes, span}
use Rattle.wave_lex.specs.Strings.{CharMeans, StringMeans, Decodes, Undecodable, IsBadEscapeAt}

-- ---- lines

-- the byte before the first piece
abbrev pub put_first : ℕ → List (List ℕ) → List (List ℕ)
put_first b [] = (b ∷ []) ∷ []
put_first b (p ∷ ps) = (b ∷ p) ∷ ps

-- the pieces between line feeds
abbrev pub pieces : List ℕ → List (List ℕ)
pieces [] = [] ∷ []
pieces (b ∷ s) = if nat_eq b line_feed then [] ∷ pieces s else put_first b (pieces s)

-- k spaces
abbrev pub spaces : ℕ → List ℕ
spaces zero = []
spaces (suc k) = 32 ∷ spaces k

-- y is x without its one final carriage return, or x where it ends in none
abbrev pub DropsReturn : List ℕ → List ℕ → Type 0
DropsReturn x y = (x ≡ y ++ carriage_return ∷ []) ⊎ ((x ≡ y) × ((z : List ℕ) → x ≢ z ++ carriage_return ∷ []))

-- the line is k spaces and y, and perhaps a carriage return
abbrev pub IsIndented : ℕ → List ℕ → List ℕ → Type 0
IsIndented k line y = (x : List ℕ) × (line ≡ spaces k ++ x) × DropsReturn x y

-- a line between means t, where k spaces are dropped
abbrev pub LineMeans : ℕ → List ℕ → List ℕ → Type 0
LineMeans k line t = (y : List ℕ) × IsIndented k line y × Decodes y t

-- each line means its text
abbrev pub LinesMean : ℕ → List (List ℕ) → List (List ℕ) → Type 0
LinesMean k [] [] = Unit {0}
LinesMean k [] (t ∷ ts) = ⊥
LinesMean k (p ∷ ps) [] = ⊥
LinesMean k (p ∷ ps) (t ∷ ts) = LineMeans k p t × LinesMean k ps ts

-- the texts, joined by line feeds
abbrev pub in_lines : List (List ℕ) → List ℕ
in_lines [] = []
in_lines (t ∷ []) = t
in_lines (t ∷ u ∷ ts) = t ++ line_feed ∷ in_lines (u ∷ ts)

-- the first piece is empty or one carriage return
abbrev pub Opens : List ℕ → Type 0
Opens first = (first ≡ []) ⊎ (first ≡ carriage_return ∷ [])

-- the inside s of a multiline token stands for t: a first piece, lines between, and a last piece of spaces alone
pub record DecodesLines (s t : List ℕ) : Type 0 where
  pub first : List ℕ
  pub between : List (List ℕ)
  pub indent : ℕ
  pub texts : List (List ℕ)
  pub cut : pieces s ≡ first ∷ (between ++ spaces indent ∷ [])
  pub opens : Opens first
  pub lines : LinesMean indent between texts
  pub joins : t ≡ in_lines texts

-- what stands between the quotes of a multiline token
abbrev pub IsInThreeQuotes : List ℕ → List ℕ → Type 0
IsInThreeQuotes token inside = token ≡ three_quotes ++ (inside ++ three_quotes)

-- a multiline token stands for the text t
abbrev pub MultilineMeans : List ℕ → List ℕ → Type 0
MultilineMeans token t = (inside : List ℕ) × IsInThreeQuotes token inside × DecodesLines inside t

-- ---- faults

-- a fault: of the last piece, of the first, of a line's indentation, of an escape; the two at a place of the inside
pub data LineFault : Type 0 where
  closing : LineFault
  opening : LineFault
  indentation : ℕ → LineFault
  escape : ℕ → LineFault

-- only spaces
abbrev pub IsSpaces : List ℕ → Type 0
IsSpaces s = (k : ℕ) × (s ≡ spaces k)

-- the text without one carriage return at its beginning
abbrev pub without_return : List ℕ → List ℕ
without_return [] = []
without_return (b ∷ s) = if nat_eq b carriage_return then s else b ∷ s

-- the last of the pieces
abbrev pub last_of : List (List ℕ) → List ℕ
last_of [] = []
last_of (p ∷ []) = p
last_of (p ∷ q ∷ ps) = last_of (q ∷ ps)

-- what must be spaces: the last piece; of a sole piece what follows one carriage return at its beginning, if there is one
abbrev pub closing_piece : List (List ℕ) → List ℕ
closing_piece [] = []
closing_piece (p ∷ []) = without_return p
closing_piece (p ∷ q ∷ ps) = last_of (q ∷ ps)

-- there are two pieces, and the first is empty or one carriage return
abbrev pub OpensWell : List (List ℕ) → Type 0
OpensWell [] = ⊥
OpensWell (p ∷ []) = ⊥
OpensWell (p ∷ q ∷ ps) = Opens p

-- what is wrong with the line at this place: it is badly indented, or the first escape in it that is none
abbrev pub BadLine : ℕ → ℕ → List ℕ → LineFault → Type 0
BadLine k at line f =
    (((x : List ℕ) → line ≢ spaces k ++ x) × (f ≡ indentation at))
    ⊎ ((y : List ℕ) × (i : ℕ) × IsIndented k line y × IsBadEscapeAt y i × (f ≡ escape (at + k + i)))

-- what is wrong with the first bad one of the lines from this place on
abbrev pub BadLines : ℕ → ℕ → List (List ℕ) → LineFault → Type 0
BadLines k at [] f = ⊥
BadLines k at (p ∷ ps) f = BadLine k at p f ⊎ ((t : List ℕ) × LineMeans k p t × BadLines k (at + length p + 1) ps f)

-- what is wrong with the lines between, where the last piece and the first are right
pub record BadBetween (s : List ℕ) (f : LineFault) : Type 0 where
  pub first : List ℕ
  pub between : List (List ℕ)
  pub indent : ℕ
  pub cut : pieces s ≡ first ∷ (between ++ spaces indent ∷ [])
  pub opens : Opens first
  pub bad : BadLines indent (length first + 1) between f

-- what is wrong with the inside s of a multiline token: the last piece before all others, then the first, then the lines in turn
abbrev pub MultilineFault : List ℕ → LineFault → Type 0
MultilineFault s f =
    ((IsSpaces (closing_piece (pieces s)) → ⊥) × (f ≡ closing))
    ⊎ (IsSpaces (closing_piece (pieces s)) × (OpensWell (pieces s) → ⊥) × (f ≡ opening))
    ⊎ BadBetween s f

-- the kind of a fault
abbrev pub fault_kind : LineFault → ParserErrorKind
fault_kind closing = InvalidMultilineString
fault_kind opening = InvalidMultilineString
fault_kind (indentation at) = InvalidMultilineString
fault_kind (escape at) = InvalidEscape

-- the span of a fault where the inside stands at pos and has n bytes: the closing quotes, or one byte
abbrev pub fault_span : ℕ → ℕ → LineFault → Range ℕ
fault_span pos n closing = span (pos + n) (pos + n + 3)
fault_span pos n opening = span pos (pos + 1)
fault_span pos n (indentation at) = span (pos + at) (pos + at + 1)
fault_span pos n (escape at) = span (pos + at) (pos + at + 1)

-- ---- laws

-- a char token stands for one scalar at most; a string token and a multiline token for one text
abbrev pub DecodingFunctional : Type 0
DecodingFunctional =
    ((token : List ℕ) (c d : ℕ) → CharMeans token c → CharMeans token d → c ≡ d)
    × ((token t u : List ℕ) → StringMeans token t → StringMeans token u → t ≡ u)
    × ((token t u : List ℕ) → MultilineMeans token t → MultilineMeans token u → t ≡ u)

-- where something is wrong nothing is meant
abbrev pub FaultsRefuse : Type 0
FaultsRefuse =
    ((s : List ℕ) (i : ℕ) → IsBadEscapeAt s i → Undecodable s)
    × ((s : List ℕ) (f : LineFault) → MultilineFault s f → (t : List ℕ) → DecodesLines s t → ⊥)
