-- What a writer of text took, and what its answers say.
use Rattle.std.specs.Prelude.{ℕ, ◌≡◌, ◌+◌, ◌-◌, ◌^◌, ◌<◌, ◌⊎◌, min, List, ◌++◌, Bool, false}
use Rattle.wave_wasm.specs.Types.{TypeTree}
use Rattle.wave_wasm.specs.Values.{Value}
use Rattle.wave_wasm.specs.HasType.{HasType}
use Rattle.wave_writer.specs.declared.writer.WriterError.{WriterError}

-- the text taken so far, and how often a write failed, up to the greatest `u64`
pub record Output : Type 0 where
  pub written : List ℕ
  pub failures : ℕ

-- the whole text was taken
pub record Appended (whole : List ℕ) (old new : Output) : Type 0 where
  pub written : new.written ≡ old.written ++ whole
  pub failures : new.failures ≡ old.failures

-- a beginning of the text was taken
pub record Began (whole : List ℕ) (old new : Output) : Type 0 where
  pub done : List ℕ
  pub rest : List ℕ
  pub written : new.written ≡ old.written ++ done
  pub whole_is : whole ≡ done ++ rest

-- a failed write counts, and no other refusal does
abbrev pub CountsOnce : WriterError → ℕ → ℕ → Type 0
CountsOnce (WriterError.Io e) old new = new ≡ min (old + 1) (2 ^ 64 - 1)
CountsOnce _ old new = new ≡ old

-- so of a text, which has no third refusal
abbrev pub Counts : WriterError → ℕ → ℕ → Type 0
Counts WriterError.UnsupportedType old new = ⊥
Counts e old new = CountsOnce e old new

-- what a refusal of `write_str` says
pub record TextRefused (whole : List ℕ) (e : WriterError) (old new : Output) : Type 0 where
  pub began : Began whole old new
  pub counts : Counts e old.failures new.failures

-- `Io` stands only where a failure was counted, or none can be counted any more; `UnsupportedType` only where the value has no text
abbrev pub IsGrounded : WriterError → Bool → ℕ → ℕ → Type 0
IsGrounded (WriterError.Io e) writable old new = (old < new) ⊎ (new ≡ 2 ^ 64 - 1)
IsGrounded WriterError.UnsupportedType writable old new = writable ≡ false
IsGrounded (WriterError.Memory e) writable old new = Unit {0}

-- what a refusal of `write_value` says
pub record Refused (whole : List ℕ) (writable : Bool) (e : WriterError) (old new : Output) : Type 0 where
  pub began : Began whole old new
  pub grounded : IsGrounded e writable old.failures new.failures
  pub counts : CountsOnce e old.failures new.failures

-- the writer is refused for lack of memory
abbrev pub IsOutOfMemory : WriterError → Type 0
IsOutOfMemory (WriterError.Memory e) = Unit {0}
IsOutOfMemory _ = ⊥

-- the refusal of a value that is one of a type is out of memory
abbrev pub IsForMemory : Value → WriterError → Type 0
IsForMemory v e = (T : TypeTree) → HasType T v → IsOutOfMemory e
