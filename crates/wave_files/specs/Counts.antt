-- How failures are counted.
use Rattle.std.specs.Prelude.{ℕ, ◌≡◌, ◌+◌, ◌-◌, ◌^◌, min}

-- one failure more was counted, unless the count stood at its end, the greatest `u64`
abbrev pub CountsOne : ℕ → ℕ → Type 0
CountsOne old new = new ≡ min (old + 1) (2 ^ 64 - 1)
