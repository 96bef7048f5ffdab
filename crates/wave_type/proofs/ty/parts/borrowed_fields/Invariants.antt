use Rattle.std.proofs.Common.{◌≡◌, map, take}
use Rattle.wave_type.specs.TypeModel.{by_bytes}
use Rattle.wave_wasm.specs.Borrowed.{denoted_fields}
use Rattle.wave_type.proofs.ty.parts.borrowed_fields.Given as goal

abbrev pub invariant-loop-field : goal.invariant-loop-field
invariant-loop-field l = denoted_fields (λ t. t) l.answer.items ≡ map by_bytes (take l.field-index l.fields.items)
