use Rattle.std.proofs.Common.{◌≡◌, take}
use Rattle.wave_wasm.specs.Borrowed.{denoted_all}
use Rattle.wave_type.proofs.ty.parts.borrowed_types.Given as goal

abbrev pub invariant-loop-ty : goal.invariant-loop-ty
invariant-loop-ty l = denoted_all (λ t. t) l.answer.items ≡ take l.ty-index l.types.items
