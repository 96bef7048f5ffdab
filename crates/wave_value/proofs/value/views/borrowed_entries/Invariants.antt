use Rattle.std.proofs.Common.{◌≡◌, map, take}
use Rattle.wave_wasm.specs.Borrowed.{denoted_pairs}
use Rattle.wave_value.proofs.value.views.borrowed_entries.Given as goal

abbrev pub invariant-loop-entry : goal.invariant-loop-entry
invariant-loop-entry l =
    (denoted_pairs (λ w. w.tree) l.answer.items ≡ map (λ e. (e.0.tree, e.1.tree)) (take l.entry-index l.entries.items)) × (denoted_pairs (λ w. w) l.answer.items ≡ take l.entry-index l.entries.items)
