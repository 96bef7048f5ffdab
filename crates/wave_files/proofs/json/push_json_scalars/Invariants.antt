-- The scalars so far were added.
use Rattle.std.proofs.Common.{◌≡◌, ◌++◌, string_bytes}
use Rattle.std.specs.List.{flat_map}
use Rattle.wave_files.specs.Json.{json_scalar}
use Rattle.wave_files.proofs.json.push_json_scalars.Given as goal

abbrev pub invariant-scalars : goal.invariant-scalars
invariant-scalars l =
    (goal.iterator-scalars).can_next l.scalar-iterator
    × (goal.iterator-scalars).is_finite l.scalar-iterator
    × (string_bytes l.to ≡ string_bytes l.initial.to ++ flat_map json_scalar l.yielded)
