-- What is marked where a word is wrong as a whole, as `0512`, of which only a prefix is a token, or a name within a place.
use Rattle.std.specs.Prelude.{ℕ, ◌≡◌, ◌⊎◌, ◌≤◌, ◌<◌, ◌+◌, ◌-◌, List, length, slice_index}
use Rattle.std.specs.declared.ops.Range.{Range}

-- the byte may be of a word, which is meant for a name or a number: an ASCII digit or letter, `_` or `-`
abbrev pub IsOfWord : ℕ → Type 0
IsOfWord b = (48 ≤ b) × (b ≤ 57) ⊎ (65 ≤ b) × (b ≤ 90) ⊎ (97 ≤ b) × (b ≤ 122) ⊎ (b ≡ 95) ⊎ (b ≡ 45)

-- a whole word stands there: some bytes of a word, before which and behind which no other stands
pub record IsWord (source : List ℕ) (start end : ℕ) : Type 0 where
  pub some : start < end
  pub within : end ≤ length source
  pub word : (i : ℕ) → start ≤ i → i < end → IsOfWord (slice_index source i)
  pub begins : 0 < start → IsOfWord (slice_index source (start - 1)) → ⊥
  pub ends : end < length source → IsOfWord (slice_index source end) → ⊥

-- the mark is a whole word, which holds the span
abbrev pub IsWordMark : List ℕ → Range ℕ → Range ℕ → Type 0
IsWordMark source span mark = IsWord source mark.start mark.end × (mark.start ≤ span.start) × (span.end ≤ mark.end)

-- the mark is a whole word, perhaps with the `%` before it
abbrev pub IsName : List ℕ → Range ℕ → Type 0
IsName source mark = IsWord source mark.start mark.end ⊎ (slice_index source mark.start ≡ 37) × IsWord source (mark.start + 1) mark.end
