use Rattle.std.proofs.Common.{inl, refl}
use Rattle.wave_place.proofs.Steps.{ok_so}
use Rattle.wave_explain.proofs.Reported.{reported_again}
use Rattle.wave_explain.proofs.value.explain_part.Goals as goal

pub returns : goal.returns
returns g c =
    ok_so c.fault_explanation.result
    (λ parts explains. inl (c.requires.kind, (c.args.value.now, c.requires.prefix, reported_again _ _ _ _ _ _ _ _ _ c.node.ensures.node refl refl explains.0), explains.1))
    c.fault_explanation.ensures
