use Rattle.std.proofs.Common.{◌≡◌, map, take}
use Rattle.wave_wasm.specs.Borrowed.{denoted_all}
use Rattle.wave_example_settings.specs.BareTree.{tree}
use Rattle.wave_example_settings.proofs.bare.borrowed.Given as goal

abbrev pub invariant-loop-item : goal.invariant-loop-item
invariant-loop-item l = denoted_all tree l.answer.items ≡ map tree (take l.item-index l.items.items)
