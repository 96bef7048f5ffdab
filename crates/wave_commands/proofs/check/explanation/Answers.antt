use Rattle.std.proofs.Common.{inl, refl, sym, ap, subst, ◌∙◌}
use Rattle.std.specs.Prelude.{IfSome}
use Rattle.wave_place.proofs.Steps.{ok_so}
use Rattle.wave_explain.specs.ValueExplained.{is_of_type, IsPrefix}
use Rattle.wave_explain.proofs.Reported.{reported_again}
use Rattle.wave_commands.proofs.check.explanation.Goals as goal

pub returns-in-Some : goal.returns-in-Some
returns-in-Some c =
    let kind = ap is_of_type (sym c.kind.ensures) ∙ (sym c.is_of_type.ensures ∙ c.if-is_of_type.true) in
    let prefix = subst (λ v. IfSome v (IsPrefix c.args.text.now)) c.in-Some.is c.requires in
    ok_so c.fault_explanation.result
    (λ parts explains. inl (kind, (c.in-Some.value, prefix, reported_again _ _ _ _ _ _ _ _ _ c.node.ensures.node refl refl explains.0), explains.1))
    c.fault_explanation.ensures
