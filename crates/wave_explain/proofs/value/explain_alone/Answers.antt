use Rattle.std.proofs.Common.{inr}
use Rattle.wave_place.proofs.Steps.{ok_so}
use Rattle.wave_explain.proofs.value.explain_alone.Goals as goal

pub returns : goal.returns
returns g c =
    ok_so c.syntax_explanation.result
    (λ parts reported. inr (reported.no_path, c.requires, reported.is_mark, reported.reported))
    c.syntax_explanation.ensures
