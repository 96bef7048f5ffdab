use Rattle.std.proofs.Common.{◌≤◌, length}
use Rattle.wave_json.proofs.place.place_of.Given as goal

abbrev pub decreases-loop-left : goal.decreases-loop-left
decreases-loop-left l = l.left

abbrev pub invariant-loop-left : goal.invariant-loop-left
invariant-loop-left l = l.left ≤ length l.places
