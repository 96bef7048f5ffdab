use Rattle.std.proofs.Common.{ℕ, ◌≤◌, ◌<◌, slice_index}
use Rattle.wave_hints.specs.WordMarks.{IsOfWord}
use Rattle.wave_hints.proofs.word.word_start.Given as goal

abbrev pub invariant-bytes : goal.invariant-bytes
invariant-bytes l = (l.start ≤ l.at) × ((i : ℕ) → l.start ≤ i → i < l.at → IsOfWord (slice_index l.bytes i))

abbrev pub decreases-bytes : goal.decreases-bytes
decreases-bytes l = l.start
