use Rattle.std.proofs.Common.{◌≡◌, map}
use Rattle.wave_value.proofs.value.checked.values_of.Given as goal

abbrev pub invariant-loop-val : goal.invariant-loop-val
invariant-loop-val g l = l.vals.items ≡ map (λ f. f.1) l.yielded
