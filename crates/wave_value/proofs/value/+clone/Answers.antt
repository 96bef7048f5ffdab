use Rattle.std.proofs.Common.{arith, ap}
use Rattle.wave_wasm.specs.Values.{depth}
use Rattle.wave_value.specs.TypedValue.{TypedValue}
use Rattle.wave_value.proofs.ValueModel.Depths.{values_depth, pairs_depth, content_deep, value_below, pair_below}
use Rattle.wave_value.proofs.value.+clone.Goals as goal

pub Value::clone-clone_content-requires : goal.Value::clone-clone_content-requires
Value::clone-clone_content-requires t c =
    (omega (arith, content_deep c.self.inside.own c.self.inside.content c.self.invariant, ap (λ (v : TypedValue). depth v.tree) c.self.view_is), tt)

pub clone_values-clone-requires : goal.clone_values-clone-requires
clone_values-clone-requires t c =
    (omega (arith, value_below c.deref-value-items.result.now c.loop-value.value-index c.value-item.result c.loop-value-test.true c.value-item.is, ap values_depth c.deref-value-items.ensures.value), tt)

pub clone_entries-clone-requires : goal.clone_entries-clone-requires
clone_entries-clone-requires t c =
    (omega (arith, pair_below c.deref-entry-items.result.now c.loop-entry.entry-index c.entry-item.result c.loop-entry-test.true c.entry-item.is, ap pairs_depth c.deref-entry-items.ensures.value), tt)

pub clone_entries-clone-requires-in-loop-entry : goal.clone_entries-clone-requires-in-loop-entry
clone_entries-clone-requires-in-loop-entry t c =
    (omega (arith, pair_below c.deref-entry-items.result.now c.loop-entry.entry-index c.entry-item.result c.loop-entry-test.true c.entry-item.is, ap pairs_depth c.deref-entry-items.ensures.value), tt)
