use Rattle.std.proofs.Common.{List, ℕ, IfErr, ap, subst, ◌∙◌}
use Rattle.wave_wasm.specs.Borrowed.{texts}
use Rattle.wave_value.specs.CaseRules.{RefusesNames}
use Rattle.wave_value.proofs.value.checked.cases.places_of.Goals as goal

pub returns-clause-refused : goal.returns-clause-refused
returns-clause-refused c =
    subst (λ (ns : List (List ℕ)). IfErr c.marked_places.result (RefusesNames ns (texts c.args.names.now))) (ap texts c.deref.ensures.value ∙ c.in_ok-all.ensures) c.marked_places.ensures.refused
