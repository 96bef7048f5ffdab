use Rattle.std.proofs.Common.{◌≡◌, ◌-◌, ◌++◌, take, drop, length, string_bytes}
use Rattle.wave_place.specs.Shown.{shown_text}
use Rattle.wave_place.proofs.explain.push_shown.Given as goal

abbrev pub invariant-scalars : goal.invariant-scalars
invariant-scalars l =
    (goal.iterator-scalars).can_next l.scalar-iterator ×
    (goal.iterator-scalars).is_finite l.scalar-iterator ×
    (string_bytes l.to ≡ string_bytes l.initial.to ++ shown_text (take l.most (drop l.skipped l.yielded))) ×
    (l.left_out ≡ l.skipped - length l.yielded) ×
    (l.room ≡ l.most - (length l.yielded - l.skipped))
