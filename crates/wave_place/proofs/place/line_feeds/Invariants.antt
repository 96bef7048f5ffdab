use Rattle.std.proofs.Common.{◌≡◌, ◌≤◌, length}
use Rattle.wave_place.specs.Places.{line_feeds}
use Rattle.wave_place.proofs.place.line_feeds.Given as goal

abbrev pub invariant-loop-byte : goal.invariant-loop-byte
invariant-loop-byte l =
    (l.count ≡ line_feeds l.yielded) ×
    (l.count ≤ length l.yielded)
