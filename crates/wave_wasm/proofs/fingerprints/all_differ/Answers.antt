use Rattle.std.proofs.lemmas.List.Sorted.{IsNonDecreasingBy-from_sort}
use Rattle.wave_wasm.proofs.Merging.DistinctTexts.{differ_sorted}
use Rattle.wave_wasm.proofs.fingerprints.all_differ.Goals as goal

pub returns : goal.returns
returns c = differ_sorted c.args.numbers.items c.sort_unstable.new.self.items c.rise.result c.sort_unstable.ensures.permutation (IsNonDecreasingBy-from_sort (λ x. x) _ c.sort_unstable.ensures.sorted) c.rise.ensures
