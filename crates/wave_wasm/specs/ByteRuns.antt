-- Runs of bytes of a set.
use Rattle.std.specs.Prelude.{◌≡◌, ℕ, ◌<◌, ◌≤◌, Bool, true, false, List, length, slice_index}

-- the bytes of the set at the start of s are n
pub record IsRunOf (set : ℕ → Bool) (s : List ℕ) (n : ℕ) : Type 0 where
  pub within : n ≤ length s
  pub all : (i : ℕ) → i < n → set (slice_index s i) ≡ true
  pub stops : n < length s → set (slice_index s n) ≡ false
