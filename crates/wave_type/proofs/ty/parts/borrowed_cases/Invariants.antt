use Rattle.std.proofs.Common.{◌≡◌, map, take}
use Rattle.wave_type.specs.TypeModel.{by_bytes}
use Rattle.wave_wasm.specs.Borrowed.{denoted_cases}
use Rattle.wave_type.proofs.ty.parts.borrowed_cases.Given as goal

abbrev pub invariant-loop-case : goal.invariant-loop-case
invariant-loop-case l = denoted_cases (λ t. t) l.answer.items ≡ map by_bytes (take l.case-index l.cases.items)
