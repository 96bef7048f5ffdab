-- Where a byte of a text stands, as people count: in which line, and at which of its scalars.
use Rattle.std.specs.Prelude.{ℕ, suc, ◌≡◌, ◌≢◌, ◌<◌, ◌≤◌, ◌⊎◌, ◌-◌, ◌==◌, List, [], ◌∷◌, ◌++◌, length, take, filter, chars, codes, slice_index}
use Rattle.std.specs.Str.{IsCharBoundary}
use Rattle.std.specs.Fmt.{decimal}
use Rattle.std.specs.declared.ops.Range.{Range}
use Rattle.wave_wasm.specs.Lists.{AllOf}
use Rattle.wave_place.specs.Shown.{shown_lines}

-- how many line feeds are in the text
abbrev pub line_feeds : List ℕ → ℕ
line_feeds s = length (filter (λ b. b == 10) s)

-- the text is in one line
abbrev pub IsInOneLine : List ℕ → Type 0
IsInOneLine s = AllOf (λ b. b ≢ 10) s

-- the text is empty, or ends with a line feed
abbrev pub AreWholeLines : List ℕ → Type 0
AreWholeLines s = (s ≡ []) ⊎ ((lines : List ℕ) × (s ≡ lines ++ 10 ∷ []))

-- the text ends with a CR
abbrev pub EndsWithReturn : List ℕ → Type 0
EndsWithReturn s = (prefix : List ℕ) × (s ≡ prefix ++ 13 ∷ [])

-- what stands behind a line: nothing, or a line end, which is CR LF, or LF alone where the line ends without a CR
abbrev pub IsBehindLine : List ℕ → List ℕ → Type 0
IsBehindLine line behind =
    (behind ≡ [])
    ⊎ ((more : List ℕ) × (behind ≡ 13 ∷ 10 ∷ more))
    ⊎ ((more : List ℕ) × (behind ≡ 10 ∷ more) × (EndsWithReturn line → ⊥))

-- the place stands between the two bytes of a CR LF
abbrev pub PartsLineEnd : List ℕ → ℕ → Type 0
PartsLineEnd s at = (0 < at) × (slice_index s (at - 1) ≡ 13) × (slice_index s at ≡ 10)

-- the place is one of the text's: a scalar begins there, or the text ends, and no CR LF is parted
abbrev pub IsPlaceIn : List ℕ → ℕ → Type 0
IsPlaceIn s at = IsCharBoundary s at × (PartsLineEnd s at → ⊥)

-- the number has the property, and is the greatest up to `most` that has it
pub record IsGreatest (P : ℕ → Type 0) (most n : ℕ) : Type 0 where
  pub bound : n ≤ most
  pub holds : P n
  pub greatest : (k : ℕ) → n < k → k ≤ most → P k → ⊥

-- the source's byte at this place stands in this line, counted from 1, after `prefix` of it and before the rest, which are the line
-- without its end; the column counts the scalars of `prefix`, from 1
pub record IsPlaceOf (source : List ℕ) (at line column : ℕ) (prefix rest : List ℕ) : Type 0 where
  pub before : List ℕ
  pub behind : List ℕ
  pub source_is : source ≡ before ++ (prefix ++ (rest ++ behind))
  pub at_is : length (before ++ prefix) ≡ at
  pub begins : AreWholeLines before
  pub ends : IsBehindLine (prefix ++ rest) behind
  pub prefix_in_line : IsInOneLine prefix
  pub rest_in_line : IsInOneLine rest
  pub line_is : line ≡ suc (line_feeds before)
  pub column_is : column ≡ suc (length (chars prefix))

-- so does the byte at `there`, which is the last place of the source up to `at`
pub record IsPlaceNear (source : List ℕ) (at there line column : ℕ) (prefix rest : List ℕ) : Type 0 where
  pub nearest : IsGreatest (IsPlaceIn source) at there
  pub place : IsPlaceOf source there line column prefix rest

-- what is marked of the line from the place on: the scalars that end within its first `count` bytes
abbrev pub IsMarked : List ℕ → ℕ → List ℕ → Type 0
IsMarked rest count marked = (end : ℕ) × IsGreatest (IsCharBoundary rest) count end × (marked ≡ take end rest)

-- the first two lines of what is shown of a refusal
abbrev pub heading : List ℕ → ℕ → ℕ → List ℕ
heading message line column = message ++ (codes "\n --> line " ++ (decimal line ++ (codes ", column " ++ (decimal column ++ codes "\n"))))

-- the text has the message, the line and the column where the span begins, that line, and a mark below what stands there of the line, up to the span's end
pub record IsExplained (source message : List ℕ) (span : Range ℕ) (text : List ℕ) : Type 0 where
  pub there : ℕ
  pub line : ℕ
  pub column : ℕ
  pub prefix : List ℕ
  pub rest : List ℕ
  pub marked : List ℕ
  pub place : IsPlaceNear source span.start there line column prefix rest
  pub is_marked : IsMarked rest (span.end - there) marked
  pub text_is : text ≡ heading message line column ++ shown_lines prefix rest marked
