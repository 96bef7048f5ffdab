use Rattle.std.proofs.Common.{◌≡◌, map, subst}
use Rattle.wave_wasm.specs.Borrowed.{denoted_fields}
use Rattle.wave_wasm.specs.Types.{record_parts}
use Rattle.wave_value.specs.TypedValue.{TypedValue}
use Rattle.wave_value.specs.ValueModel.{first_names, trees, beside}
use Rattle.wave_value.specs.RecordConstructor.{TakesRecord}
use Rattle.wave_value.specs.Private.ValueModel.{Fits}
use Rattle.wave_value.proofs.ViewAnswers.Records.{both_ok, fields_taken}
use Rattle.wave_value.proofs.value.Value.unwrap_record.Goals as goal

pub returns-in-Record-clause-own : goal.returns-in-Record-clause-own
returns-in-Record-clause-own c =
    let own = c.self.inside.own in
    let vals = c.in-Record.vals.items in
    rw (← c.self.view_is) (both_ok c.borrowed_fields.result (λ v. denoted_fields (λ w. w.tree) v.items ≡ beside (first_names (record_parts own)) (trees vals)) (λ v. map {B = TypedValue} (λ f. f.1.now) v.items ≡ vals) (λ v. TakesRecord own (denoted_fields (λ w. w) v.items))
    (λ v t same. fields_taken own vals v.items (subst (Fits own) c.in-Record.is c.self.invariant) t same) c.borrowed_fields.ensures.trees c.borrowed_fields.ensures.values)
