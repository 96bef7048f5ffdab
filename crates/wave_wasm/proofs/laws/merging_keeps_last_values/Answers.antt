use Rattle.std.proofs.Common.{ap, sym, ◌∙◌}
use Rattle.wave_wasm.specs.Merge.{leaf_eq}
use Rattle.wave_wasm.proofs.Merging.LastValues.{leaf_eq-self, leaf_eq-true, merge_of_values}
use Rattle.wave_wasm.proofs.laws.merging_keeps_last_values.Goals as goal

pub returns-clause-keys : goal.returns-clause-keys
returns-clause-keys c = λ a b. (leaf_eq-true a b, λ e. ap (leaf_eq a) (sym e) ∙ leaf_eq-self a)

pub returns-clause-merged : goal.returns-clause-merged
returns-clause-merged c = merge_of_values
