use Rattle.std.proofs.Common.{subst, ◌∙◌}
use Rattle.wave_value.specs.Private.ValueModel.{Fits}
use Rattle.wave_value.proofs.ValueModel.Lists.{map_back}
use Rattle.wave_value.proofs.ViewAnswers.Parts.{entries_taken}
use Rattle.wave_value.proofs.value.Value.unwrap_map.Goals as goal

pub returns-in_ok-shown-in-Map-clause-trees : goal.returns-in_ok-shown-in-Map-clause-trees
returns-in_ok-shown-in-Map-clause-trees c =
    rw (← c.self.view_is) (rw c.in-Map.is (c.in_ok-shown-in-Map.ensures.trees ∙ map_back c.self.inside.own c.in-Map.entries.items (subst (Fits c.self.inside.own) c.in-Map.is c.self.invariant)))

pub returns-in_ok-shown-in-Map-clause-own : goal.returns-in_ok-shown-in-Map-clause-own
returns-in_ok-shown-in-Map-clause-own c =
    rw (← c.self.view_is) (entries_taken c.self.inside.own c.in-Map.entries.items _ (subst (Fits c.self.inside.own) c.in-Map.is c.self.invariant) c.in_ok-shown-in-Map.ensures.entries)
