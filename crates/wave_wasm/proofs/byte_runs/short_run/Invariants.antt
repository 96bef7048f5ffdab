use Rattle.std.proofs.Common.{◌≡◌, ℕ, ◌<◌, true, slice_index}
use Rattle.wave_wasm.proofs.byte_runs.short_run.Given as goal

abbrev pub invariant-loop-at : goal.invariant-loop-at
invariant-loop-at g l = (i : ℕ) → i < l.at → g.S.ByteSet.holds (slice_index l.bytes i) ≡ true
