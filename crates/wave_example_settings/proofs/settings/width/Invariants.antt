use Rattle.std.proofs.Common.{◌≡◌, ℕ}
use Rattle.std.specs.Prelude.{codes}
use Rattle.wave_wasm.specs.Lists.{SomeOf}
use Rattle.wave_wasm.specs.Borrowed.{denoted_fields}
use Rattle.wave_example_settings.specs.Settings.{number}
use Rattle.wave_example_settings.proofs.settings.width.Given as goal

abbrev pub invariant-loop-name : goal.invariant-loop-name
invariant-loop-name l = (n : ℕ) → SomeOf (λ f. f ≡ (codes "width", number n)) (denoted_fields (λ w. w.tree) l.yielded) → ⊥
