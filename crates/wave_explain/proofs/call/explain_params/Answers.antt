use Rattle.wave_explain.proofs.call.explain_params.Goals as goal

pub returns : goal.returns
returns g c = c.in_ok-mark.ensures
