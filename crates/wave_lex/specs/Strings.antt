-- What a char token and a string token stand for.
use Rattle.std.specs.Prelude.{◌≡◌, ℕ, ◌≤◌, ◌≢◌, ◌⊎◌, nat_eq, if◌then◌else◌, List, [], ◌∷◌, ◌++◌, length, Option, Some, None, encode_utf8}
use Rattle.std.specs.Char.{IsScalar}
use Rattle.std.specs.Str.Parse.{AllDigits, digits_value}
use Rattle.wave_lex.specs.Tokens.{backslash, single_quote, double_quote, tab, line_feed, carriage_return}

-- ---- escapes

-- what `\` and this byte stand for
abbrev pub short_escape : ℕ → Option ℕ
short_escape b =
    if nat_eq b backslash then Some backslash
    else (if nat_eq b single_quote then Some single_quote
    else (if nat_eq b double_quote then Some double_quote
    else (if nat_eq b 116 then Some tab
    else (if nat_eq b 110 then Some line_feed
    else (if nat_eq b 114 then Some carriage_return
    else None)))))

-- `\` and one byte that stands for c
abbrev pub IsShortEscape : List ℕ → ℕ → Type 0
IsShortEscape e c = (b : ℕ) × (e ≡ backslash ∷ b ∷ []) × (short_escape b ≡ Some c)

-- `\u{`, one to six hexadecimal digits and `}`, where their number is a scalar
pub record IsLongEscape (e : List ℕ) (c : ℕ) : Type 0 where
  pub digits : List ℕ
  pub spelled : e ≡ backslash ∷ 117 ∷ 123 ∷ (digits ++ 125 ∷ [])
  pub hexadecimal : AllDigits 16 digits
  pub some : 1 ≤ length digits
  pub few : length digits ≤ 6
  pub value : c ≡ digits_value 16 digits
  pub scalar : IsScalar c

-- the bytes e are an escape of the scalar c
abbrev pub IsEscape : List ℕ → ℕ → Type 0
IsEscape e c = IsShortEscape e c ⊎ IsLongEscape e c

-- what `unescape` answers: the scalar of the escape at the start, and how many bytes it takes
abbrev pub UnescapesTo : List ℕ → Option (ℕ × ℕ) → Type 0
UnescapesTo s None = (e t : List ℕ) (c : ℕ) → IsEscape e c → s ≢ e ++ t
UnescapesTo s (Some r) = (e : List ℕ) × (t : List ℕ) × IsEscape e r.0 × (s ≡ e ++ t) × (r.1 ≡ length e)

-- ---- decoding

-- what an escape stands for, or a byte other than `\` for itself
pub record StringPiece : Type 0 where
  pub source : List ℕ
  pub meaning : List ℕ

-- a piece is a byte other than `\`, or an escape and its scalar
abbrev pub IsPiece : StringPiece → Type 0
IsPiece p = ((b : ℕ) × (b ≢ backslash) × (p ≡ record { source = b ∷ []; meaning = b ∷ [] }))
    ⊎ ((c : ℕ) × IsEscape p.source c × (p.meaning ≡ encode_utf8 c))

-- s is the sources of the pieces, one after the other, and t is their meanings
abbrev pub IsSplitInto : List ℕ → List StringPiece → List ℕ → Type 0
IsSplitInto s [] t = (s ≡ []) × (t ≡ [])
IsSplitInto s (p ∷ ps) t = IsPiece p × (x : List ℕ) × (y : List ℕ) × (s ≡ p.source ++ x) × (t ≡ p.meaning ++ y) × IsSplitInto x ps y

-- the bytes s decode to t
abbrev pub Decodes : List ℕ → List ℕ → Type 0
Decodes s t = (ps : List StringPiece) × IsSplitInto s ps t

-- the bytes s decode to nothing
abbrev pub Undecodable : List ℕ → Type 0
Undecodable s = (t : List ℕ) → Decodes s t → ⊥

-- the first i bytes decode, and after them stands a `\` that begins no escape
abbrev pub IsBadEscapeAt : List ℕ → ℕ → Type 0
IsBadEscapeAt s i =
    (prefix : List ℕ) × (rest : List ℕ) × (t : List ℕ)
    × (s ≡ prefix ++ backslash ∷ rest) × Decodes prefix t × UnescapesTo (backslash ∷ rest) None × (i ≡ length prefix)

-- what stands between the quotes of a char token
abbrev pub IsInCharQuotes : List ℕ → List ℕ → Type 0
IsInCharQuotes token inside = token ≡ single_quote ∷ (inside ++ single_quote ∷ [])

-- what stands between the quotes of a string token
abbrev pub IsInQuotes : List ℕ → List ℕ → Type 0
IsInQuotes token inside = token ≡ double_quote ∷ (inside ++ double_quote ∷ [])

-- a char token stands for the scalar c: it is c itself, or an escape of c
abbrev pub CharMeans : List ℕ → ℕ → Type 0
CharMeans token c =
    (inside : List ℕ) × IsInCharQuotes token inside × IsScalar c
    × ((c ≢ backslash) × (inside ≡ encode_utf8 c) ⊎ IsEscape inside c)

-- a string token stands for the text t
abbrev pub StringMeans : List ℕ → List ℕ → Type 0
StringMeans token t = (inside : List ℕ) × IsInQuotes token inside × Decodes inside t
