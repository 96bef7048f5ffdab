-- The lines of an input that is read chunk by chunk.
use Rattle.std.specs.Prelude.{ℕ, ◌≡◌, ◌+◌, ◌*◌, ◌<◌, ◌≤◌, ◌⊎◌, true, false, List, [], ◌∷◌, ◌++◌, length, take, drop, slice_range, ⊤, Some, None}
use Rattle.std.specs.declared.option.Option.{Option}
use Rattle.std.specs.Io.KnownBytes.{Consumes, IsAtEnd, prepend_known}
use Rattle.std.specs.Str.Lines.{lines}
use Rattle.wave_files.specs.Counts.{CountsOne}
use Rattle.wave.specs.Lines.{IsInOneLine}
use Rattle.wave.specs.declared.input.RunError.{RunError}
use Rattle.wave.specs.declared.input.RunError.TheVariants.{NotUtf8, InputFailed, OutOfMemory}
use Rattle.wave.specs.declared.input.Input.{Input}
use Rattle.wave.specs.declared.lines.Unread.{Unread}

-- the bytes are whole lines, each with its end, and these are their texts: so begin the lines of whatever comes behind them
abbrev pub AreWholeLines : List ℕ → List (List ℕ) → Type 0
AreWholeLines bytes texts = (more : List ℕ) → lines (bytes ++ more) ≡ texts ++ lines more

-- the known bytes begin with these lines, whole ones or all that there are, and lose them
abbrev pub TakesLines : Option (List ℕ) → Option (List ℕ) → List (List ℕ) → Type 0
TakesLines None new texts = ⊤
TakesLines (Some xs) None texts = ⊥
TakesLines (Some xs) (Some ys) texts = (taken : List ℕ) × (xs ≡ taken ++ ys) × (AreWholeLines taken texts ⊎ (ys ≡ []) × (lines taken ≡ texts))

-- so with one line
abbrev pub TakesLine : Option (List ℕ) → Option (List ℕ) → List ℕ → Type 0
TakesLine old new text = TakesLines old new (text ∷ [])

-- the known bytes lose some without a line feed, and then at most n
abbrev pub LosesPart : Option (List ℕ) → Option (List ℕ) → ℕ → Type 0
LosesPart old new n = (begun : List ℕ) × (last : List ℕ) × Consumes old new (begun ++ last) × IsInOneLine begun × (length last ≤ n)

-- a line feed stands at this place, and none before it
abbrev pub EndsFirstLine : List ℕ → ℕ → Type 0
EndsFirstLine bytes place = (place < length bytes) × IsInOneLine (take place bytes) × (bytes ≡ take place bytes ++ 10 ∷ drop (place + 1) bytes)

-- the bytes that were read and not taken yet
abbrev pub unread_bytes : Unread → List ℕ
unread_bytes u = slice_range u.chunk u.start u.end

module _ {R : Type 0} where
  -- the last read failed, or no call of the reader is left, which did not report its end; or there was no memory, and no read failed
  abbrev pub IsCutOff : Input R → Input R → RunError → Type 0
  IsCutOff old new (NotUtf8 place) = ⊥
  IsCutOff old new InputFailed =
      CountsOne old.failures new.failures × (new.has_ended ≡ false)
      ⊎ (new.reads_left ≡ 0) × (new.has_ended ≡ false) × (new.failures ≡ old.failures)
  IsCutOff old new OutOfMemory = new.failures ≡ old.failures

module _ {R : Type 0} (remaining : R → Option (List ℕ)) where
  -- what the input has left, where that is known: what is unread, and then what the reader has left
  abbrev pub left : Input R → Unread → Option (List ℕ)
  left input unread = prepend_known (unread_bytes unread) (remaining input.reader)

  -- where the reader has reported its end, it has nothing left
  abbrev pub IsEndKnown : Input R → Type 0
  IsEndKnown input = input.has_ended ≡ true → IsAtEnd (remaining input.reader)

-- a bound of how many lines can still come
abbrev pub most_lines : {R : Type 0} → Input R → Unread → ℕ
most_lines input unread = input.reads_left * 65537 + length (unread_bytes unread)
