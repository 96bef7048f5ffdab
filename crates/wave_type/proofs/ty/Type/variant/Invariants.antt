use Rattle.std.proofs.Common.{◌≡◌, map, ◌↔◌, IsTrue}
use Rattle.wave_wasm.specs.Lists.{AllOf}
use Rattle.wave_wasm.specs.Borrowed.{named}
use Rattle.wave_type.specs.TypeModel.{by_bytes}
use Rattle.wave_type.proofs.DistinctNames.WithinTypes.{CasePasses}
use Rattle.wave_type.proofs.TypeTrees.RepresentableParts.{IsRepresentablePayload}
use Rattle.wave_type.proofs.ty.Type.variant.Given as goal

abbrev pub invariant-loop-name : goal.invariant-loop-name
invariant-loop-name l =
    (map by_bytes l.owned.items ≡ named l.yielded) × AllOf (λ c. IsRepresentablePayload c.1) l.owned.items × (IsTrue l.distinct ↔ AllOf CasePasses l.owned.items)
