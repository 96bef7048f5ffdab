use Rattle.std.proofs.Common.{◌≡◌, subst}
use Rattle.std.proofs.lemmas.Result.{IfOk-weaker}
use Rattle.wave_wasm.specs.Borrowed.{denoted_all}
use Rattle.wave_value.specs.ConstructorRules.{TakesList}
use Rattle.wave_value.specs.Private.ValueModel.{Fits}
use Rattle.wave_value.proofs.ViewAnswers.Parts.{items_taken}
use Rattle.wave_value.proofs.value.Value.unwrap_list.Goals as goal

pub returns-in-List-clause-own : goal.returns-in-List-clause-own
returns-in-List-clause-own c =
    let own = c.self.inside.own in
    let vals = c.in-List.vals.items in
    rw (← c.self.view_is) (IfOk-weaker c.borrowed_values.result (λ v. denoted_all (λ w. w) v.items ≡ vals) (λ v. TakesList own (denoted_all (λ w. w) v.items)) (λ v same. items_taken own vals _ (subst (Fits own) c.in-List.is c.self.invariant) same) c.borrowed_values.ensures.values)
