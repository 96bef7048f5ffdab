use Rattle.std.proofs.Common.{◌≡◌, map, take}
use Rattle.wave_wasm.specs.Types.{record_parts}
use Rattle.wave_wasm.specs.Borrowed.{denoted_fields}
use Rattle.wave_value.specs.TypedValue.{TypedValue}
use Rattle.wave_value.specs.ValueModel.{trees, beside, first_names}
use Rattle.wave_value.proofs.value.views.borrowed_fields.Given as goal

abbrev pub invariant-loop-i : goal.invariant-loop-i
invariant-loop-i l =
    (denoted_fields (λ w. w.tree) l.answer.items ≡ beside (first_names (record_parts l.own)) (trees (take l.i l.values.items))) × (map {B = TypedValue} (λ f. f.1.now) l.answer.items ≡ take l.i l.values.items)
