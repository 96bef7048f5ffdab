use Rattle.std.proofs.Common.{ℕ, ◌≤◌, ◌<◌, slice_index}
use Rattle.wave_hints.specs.WordMarks.{IsOfWord}
use Rattle.wave_hints.proofs.word.word_end.Given as goal

abbrev pub invariant-loop-i : goal.invariant-loop-i
invariant-loop-i l = (k : ℕ) → l.at ≤ k → k < l.i → IsOfWord (slice_index l.bytes k)
