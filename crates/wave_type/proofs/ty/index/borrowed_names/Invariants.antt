use Rattle.std.proofs.Common.{◌≡◌, map, take}
use Rattle.wave_wasm.specs.Borrowed.{texts}
use Rattle.wave_type.proofs.ty.index.borrowed_names.Given as goal

abbrev pub invariant-loop-item : goal.invariant-loop-item
invariant-loop-item g l = texts l.names.items ≡ map g.N.Named.name_of (take l.item-index l.items.items)
