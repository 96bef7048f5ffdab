-- Which whole number the text of a number token is.
use Rattle.std.specs.Prelude.{ℕ, ◌≡◌, ◌^◌, ◌<◌, ◌≤◌, List, Option, Some, None}
use Rattle.wave_grammar.specs.NumberText.{all_digits}

-- the digits stand for a number of 64 bits, and this one; or they don't
abbrev pub IsMagnitude : List ℕ → Option ℕ → Type 0
IsMagnitude text (Some n) = (all_digits text ≡ Some n) × (n < 2 ^ 64)
IsMagnitude text None = (n : ℕ) → all_digits text ≡ Some n → 2 ^ 64 ≤ n
