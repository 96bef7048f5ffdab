-- The bytes before the first backslash, and whole lines. No public contract needs it.
use Rattle.std.specs.Prelude.{◌≡◌, ◌≢◌, ℕ, ◌<◌, ◌≤◌, Bool, not, nat_eq, List, length, slice_index}
use Rattle.wave_lex.specs.Tokens.{backslash}
use Rattle.wave_lex.specs.Remaining.{ended_lines, lines_size}

-- not a backslash
abbrev pub is_no_backslash : ℕ → Bool
is_no_backslash b = not (nat_eq b backslash)

-- k bytes stand before the first `\`
pub record IsRun (s : List ℕ) (k : ℕ) : Type 0 where
  pub within : k ≤ length s
  pub before : (i : ℕ) → i < k → slice_index s i ≢ backslash
  pub stops : k < length s → slice_index s k ≡ backslash

-- the text is lines that a line feed ends, and nothing after them
abbrev pub HasWholeLines : List ℕ → Type 0
HasWholeLines text = lines_size (ended_lines text) ≡ length text
