use Rattle.std.proofs.Common.{◌≡◌, map, take}
use Rattle.wave_wasm.specs.Borrowed.{denoted_all}
use Rattle.wave_type.specs.TypeModel.{by_bytes}
use Rattle.wave_type.specs.FunctionType.{types_of}
use Rattle.wave_type.proofs.func.wasm_func.borrowed_types.Given as goal

abbrev pub invariant-loop-part : goal.invariant-loop-part
invariant-loop-part l = denoted_all (λ t. t) l.types.items ≡ types_of (map by_bytes (take l.part-index l.parts.items))
