use Rattle.std.proofs.Common.{take}
use Rattle.wave_wasm.specs.Lists.{AllOf}
use Rattle.wave_wasm.specs.HasType.{HasType}
use Rattle.wave_example_settings.specs.BareTree.{tree}
use Rattle.wave_example_settings.proofs.bare.+at.Given as goal

abbrev pub invariant-are_at-loop-item : goal.invariant-are_at-loop-item
invariant-are_at-loop-item l = AllOf (λ item. HasType l.ty (tree item)) (take l.item-index l.item-items)
