use Rattle.std.proofs.Common.{◌≡◌, ◌++◌, take}
use Rattle.std.specs.Prelude.{flat_map}
use Rattle.wave_wasm.specs.Borrowed.{texts}
use Rattle.wave_example_settings.specs.Joins.{each_once, all_names}
use Rattle.wave_example_settings.proofs.calls.join.Given as goal

abbrev pub invariant-loop-value : goal.invariant-loop-value
invariant-loop-value l = texts l.names.items ≡ all_names (take l.value-index l.values)

abbrev pub invariant-loop-name : goal.invariant-loop-name
invariant-loop-name l = texts l.names.items ≡ each_once (flat_map (λ names. names) (take l.value-index l.values) ++ texts l.yielded)
