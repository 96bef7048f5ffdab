-- The option stands nowhere before the place, and nothing was taken out.
use Rattle.std.proofs.Common.{◌≡◌, ◌-◌, string_bytes, map, length}
use Rattle.wave_files.proofs.TakenOut.{IsLookedForFrom}
use Rattle.wave_files.proofs.options.take_value.Given as goal

abbrev pub invariant-loop-place : goal.invariant-loop-place
invariant-loop-place l = IsLookedForFrom l.option (map string_bytes l.words.items) l.place × (l.words ≡ l.initial.words)

abbrev pub decreases-loop-place : goal.decreases-loop-place
decreases-loop-place l = length l.words.items - l.place
