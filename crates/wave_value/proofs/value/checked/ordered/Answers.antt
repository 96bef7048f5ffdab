use Rattle.std.proofs.Common.{ℕ, List, Option, map, subst}
use Rattle.std.specs.Prelude.{IfOk, IfErr}
use Rattle.std.proofs.lemmas.Bool.{OnTrue_at}
use Rattle.wave_type.specs.TypeModel.{by_bytes}
use Rattle.wave_value.specs.TypedValue.{TypedValue}
use Rattle.wave_value.specs.RecordConstructor.{RefusesFields}
use Rattle.wave_value.specs.Private.RecordConstructor.{InOrder}
use Rattle.wave_value.proofs.TypedParts.RecordsInTurn.{are_in_order}
use Rattle.wave_value.proofs.value.checked.ordered.Goals as goal

pub returns-clause-given : goal.returns-clause-given
returns-clause-given g c =
    subst (λ (under : List ℕ → Option TypedValue). IfOk c.in_order.result (λ v. InOrder (map by_bytes c.args.stated.now.items) under v.items)) (λ i name. c.in_ok-given.ensures name i) c.in_order.ensures.given

pub returns-clause-refused : goal.returns-clause-refused
returns-clause-refused g c =
    subst (λ (under : List ℕ → Option TypedValue). IfErr c.in_order.result (RefusesFields g.S.ShowsValue.words (map by_bytes c.args.stated.now.items) under)) (λ i name. c.in_ok-given.ensures name i) c.in_order.ensures.refused

pub returns-then-stand_in_order-clause-given : goal.returns-then-stand_in_order-clause-given
returns-then-stand_in_order-clause-given g c =
    are_in_order c.args.stated.now.items c.args.fields.items c.in_ok-values_of.field-0.items (OnTrue_at c.if-stand_in_order.true c.stand_in_order.ensures.turn) c.in_ok-check_types.ensures.taken c.in_ok-values_of.ensures
