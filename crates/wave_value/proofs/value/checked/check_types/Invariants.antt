use Rattle.std.proofs.Common.{map, take}
use Rattle.wave_type.specs.TypeModel.{by_bytes}
use Rattle.wave_value.specs.Private.ValueModel.{FieldsAt}
use Rattle.wave_value.proofs.value.checked.check_types.Given as goal

abbrev pub invariant-loop-i : goal.invariant-loop-i
invariant-loop-i g l = FieldsAt (map by_bytes (take l.i l.stated.items)) (map (λ f. f.1) (take l.i l.fields.items))
