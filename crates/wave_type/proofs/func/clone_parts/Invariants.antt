use Rattle.std.proofs.Common.{◌≡◌, map, take}
use Rattle.wave_type.specs.TypeModel.{by_bytes}
use Rattle.wave_type.proofs.func.clone_parts.Given as goal

abbrev pub invariant-loop-part : goal.invariant-loop-part
invariant-loop-part l = map by_bytes l.clones.items ≡ map by_bytes (take l.part-index l.parts.items)
