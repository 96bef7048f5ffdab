use Rattle.std.proofs.Common.{take, ◌↔◌, IsTrue}
use Rattle.wave_wasm.specs.Lists.{AllOf}
use Rattle.wave_wasm.specs.Types.{IsRepresentable, HasDistinctNames}
use Rattle.wave_type.proofs.ty.Type.tuple.Given as goal

abbrev pub invariant-loop-ty : goal.invariant-loop-ty
invariant-loop-ty l = AllOf IsRepresentable (take l.ty-index l.ty-items) × (IsTrue l.distinct ↔ AllOf HasDistinctNames (take l.ty-index l.ty-items))
