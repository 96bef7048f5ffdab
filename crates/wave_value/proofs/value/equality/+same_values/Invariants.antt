use Rattle.std.proofs.Common.{◌≡◌, ◌+◌, ◌*◌, drop}
use Rattle.wave_wasm.specs.Values.{depth}
use Rattle.wave_value.specs.ValueModel.{boxed}
use Rattle.wave_value.specs.Private.ContentEquality.{same_all, same_pairs}
use Rattle.wave_value.proofs.ValueModel.Depths.{values_depth, pairs_depth, payload_depth, content_depth}
use Rattle.wave_value.proofs.value.equality.+same_values.Given as goal

abbrev pub decreases-ValuePartialEq::eq : goal.decreases-ValuePartialEq::eq
decreases-ValuePartialEq::eq l = 3 * depth l.self.now.tree + 2

abbrev pub decreases-same_content : goal.decreases-same_content
decreases-same_content l = 3 * content_depth l.a.now + 1

abbrev pub decreases-same_values : goal.decreases-same_values
decreases-same_values l = 3 * values_depth l.a.now.items + 3

abbrev pub decreases-same_payload : goal.decreases-same_payload
decreases-same_payload l = 3 * payload_depth (boxed l.a.now) + 3

abbrev pub decreases-same_entries : goal.decreases-same_entries
decreases-same_entries l = 3 * pairs_depth l.a.now.items + 3

abbrev pub invariant-same_values-loop-i : goal.invariant-same_values-loop-i
invariant-same_values-loop-i l = same_all (drop l.i l.a.items) (drop l.i l.b.items) ≡ same_all l.a.items l.b.items

abbrev pub invariant-same_entries-loop-i : goal.invariant-same_entries-loop-i
invariant-same_entries-loop-i l = same_pairs (drop l.i l.a.items) (drop l.i l.b.items) ≡ same_pairs l.a.items l.b.items
