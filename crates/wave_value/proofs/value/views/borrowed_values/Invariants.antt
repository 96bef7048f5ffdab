use Rattle.std.proofs.Common.{◌≡◌, take}
use Rattle.wave_wasm.specs.Borrowed.{denoted_all}
use Rattle.wave_value.specs.ValueModel.{trees}
use Rattle.wave_value.proofs.value.views.borrowed_values.Given as goal

abbrev pub invariant-loop-value : goal.invariant-loop-value
invariant-loop-value l =
    (denoted_all (λ w. w.tree) l.answer.items ≡ trees (take l.value-index l.values.items)) × (denoted_all (λ w. w) l.answer.items ≡ take l.value-index l.values.items)
