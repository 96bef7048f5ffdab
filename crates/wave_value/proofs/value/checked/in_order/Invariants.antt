use Rattle.std.proofs.Common.{map, take}
use Rattle.wave_value.specs.Private.RecordConstructor.{held}
use Rattle.wave_type.specs.TypeModel.{by_bytes}
use Rattle.wave_value.proofs.ConstructorAnswers.Records.{Taking}
use Rattle.wave_value.proofs.value.checked.in_order.Given as goal

abbrev pub invariant-loop-field : goal.invariant-loop-field
invariant-loop-field g l = Taking (map by_bytes (take l.field-index l.field-items)) (held l.fn.given) (held l.given) l.vals.items
