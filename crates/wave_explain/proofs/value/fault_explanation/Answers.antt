use Rattle.std.proofs.Common.{◌++◌, sym, refl, ap, ◌∙◌}
use Rattle.wave_explain.proofs.Reported.{reported_again}
use Rattle.wave_explain.proofs.value.fault_explanation.Goals as goal

pub returns : goal.returns
returns g c =
    let reported = c.in_ok-mark.ensures.reported in
    let path = reported.1 ∙ ap (λ x. x ++ reported.0) c.new-path.ensures.bytes in
    (reported_again _ _ _ _ _ _ _ _ _ refl (sym path) refl reported.2, c.in_ok-mark.ensures.mark)
