use Rattle.std.proofs.Common.{◌≡◌, map, ◌↔◌, IsTrue}
use Rattle.wave_wasm.specs.Lists.{AllOf}
use Rattle.wave_wasm.specs.Borrowed.{named}
use Rattle.wave_wasm.specs.Types.{IsRepresentable}
use Rattle.wave_type.specs.TypeModel.{by_bytes}
use Rattle.wave_type.proofs.DistinctNames.WithinTypes.{FieldPasses}
use Rattle.wave_type.proofs.ty.Type.record.Given as goal

abbrev pub invariant-loop-name : goal.invariant-loop-name
invariant-loop-name l =
    (map by_bytes l.owned.items ≡ named l.yielded) × AllOf (λ f. IsRepresentable f.1) l.owned.items × (IsTrue l.distinct ↔ AllOf FieldPasses l.owned.items)
