use Rattle.std.proofs.Common.{◌≡◌, map, take}
use Rattle.wave_wasm.specs.Borrowed.{named}
use Rattle.wave_type.specs.TypeModel.{by_bytes}
use Rattle.wave_value.specs.ValueModel.{first_names}
use Rattle.wave_value.proofs.value.checked.stand_in_order.Given as goal

abbrev pub invariant-loop-i : goal.invariant-loop-i
invariant-loop-i g l = first_names (named (take l.i l.fields.items)) ≡ first_names (map by_bytes (take l.i l.stated.items))
