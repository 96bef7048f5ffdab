-- What a refusal says.
use Rattle.std.specs.Prelude.{ℕ, ◌≡◌, ◌⊎◌, ◌-◌, Bool, false, List, ◌++◌, codes}
use Rattle.std.specs.Fmt.{decimal}
use Rattle.wave_tape.specs.declared.error.TapeErrorKind.{TapeErrorKind}
use Rattle.wave_tape.specs.declared.error.TapeErrorKind.TheVariants as kinds
use Rattle.wave_tape.specs.declared.error.Stop.{Stop}
use Rattle.wave_tape.specs.declared.error.Stop.TheVariants as stops

-- what a `TapeError` says: its kind, and how many bytes stand before the part that is refused
pub record Refusal : Type 0 where
  pub kind : TapeErrorKind
  pub place : ℕ

-- the words of a kind
abbrev pub kind_words : TapeErrorKind → List ℕ
kind_words kinds.Version = codes "unknown version"
kind_words kinds.End = codes "unexpected end"
kind_words kinds.Trailing = codes "trailing bytes"
kind_words kinds.Byte = codes "invalid byte"
kind_words kinds.Char = codes "invalid character"
kind_words kinds.Utf8 = codes "invalid UTF-8"
kind_words kinds.Name = codes "unknown name"
kind_words kinds.Unsupported = codes "unsupported type"
kind_words kinds.Value = codes "value refused"
kind_words kinds.OutOfMemory = codes "out of memory"

-- the words of a refusal
abbrev pub error_text : Refusal → List ℕ
error_text e = kind_words e.kind ++ (codes " at " ++ decimal e.place)

-- the kind of why reading stopped
abbrev pub kind_of : Stop → TapeErrorKind
kind_of stops.Memory = kinds.OutOfMemory
kind_of (stops.Refused left) = kinds.Value
kind_of (stops.Fault kind left) = kind

-- how many of this many bytes stand before the place where reading stopped
abbrev pub place_of : ℕ → Stop → ℕ
place_of len stops.Memory = 0
place_of len (stops.Refused left) = len - left
place_of len (stops.Fault kind left) = len - left

-- no tape was made: memory was refused, or a part has no bytes. The place is 0
abbrev pub HasNoTape : Refusal → Bool → Type 0
HasNoTape e has = (e.place ≡ 0) × ((e.kind ≡ kinds.OutOfMemory) ⊎ ((e.kind ≡ kinds.Unsupported) × (has ≡ false)))
