use Rattle.std.proofs.Common.{ℕ, ◌+◌, ◌<◌, slice_index}
use Rattle.wave_wasm.proofs.fingerprints.rise.Given as goal

abbrev pub invariant-loop-i : goal.invariant-loop-i
invariant-loop-i l = (k : ℕ) → k + 1 < l.i → slice_index l.numbers.items k < slice_index l.numbers.items (k + 1)
