use Rattle.std.proofs.Common.{◌≡◌, ◌+◌, ◌*◌, take}
use Rattle.wave_wasm.specs.Values.{depth}
use Rattle.wave_value.specs.ValueModel.{boxed}
use Rattle.wave_value.proofs.ValueModel.Depths.{values_depth, payload_depth, pairs_depth, content_depth}
use Rattle.wave_value.proofs.value.+clone.Given as goal

abbrev pub decreases-Value::clone : goal.decreases-Value::clone
decreases-Value::clone l = 3 * depth l.self.now.tree + 2

abbrev pub decreases-clone_content : goal.decreases-clone_content
decreases-clone_content l = 3 * content_depth l.content.now + 1

abbrev pub decreases-clone_values : goal.decreases-clone_values
decreases-clone_values l = 3 * values_depth l.values.now.items + 3

abbrev pub decreases-clone_payload : goal.decreases-clone_payload
decreases-clone_payload l = 3 * payload_depth (boxed l.value.now) + 3

abbrev pub decreases-clone_entries : goal.decreases-clone_entries
decreases-clone_entries l = 3 * pairs_depth l.entries.now.items + 3

abbrev pub invariant-clone_values-loop-value : goal.invariant-clone_values-loop-value
invariant-clone_values-loop-value l = l.answer.items ≡ take l.value-index l.values.items

abbrev pub invariant-clone_entries-loop-entry : goal.invariant-clone_entries-loop-entry
invariant-clone_entries-loop-entry l = l.answer.items ≡ take l.entry-index l.entries.items
