use Rattle.std.proofs.Common.{◌≡◌, ℕ, List}
use Rattle.wave_wasm.specs.Borrowed.{named}
use Rattle.wave_value.specs.Private.RecordConstructor.{held}
use Rattle.wave_value.specs.RecordConstructor.{last_under}
use Rattle.wave_value.proofs.value.checked.last_values.Given as goal

abbrev pub invariant-loop-name : goal.invariant-loop-name
invariant-loop-name g l = (name : List ℕ) → held l.given name ≡ last_under (named l.yielded) name
