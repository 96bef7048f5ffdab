use Rattle.std.proofs.Common.{◌≡◌}
use Rattle.wave_wasm.specs.Borrowed.{named, denoted_fields}
use Rattle.wave_example_settings.proofs.settings.with_width.Given as goal

abbrev pub invariant-loop-name : goal.invariant-loop-name
invariant-loop-name l = named l.fields.items ≡ denoted_fields (λ w. w) l.yielded
