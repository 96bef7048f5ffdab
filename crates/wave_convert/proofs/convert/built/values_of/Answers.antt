use Rattle.wave_convert.proofs.IntoValue.Items.{one_more}
use Rattle.wave_convert.proofs.convert.built.values_of.Goals as goal

pub loop-item-preserved : goal.loop-item-preserved
loop-item-preserved g c =
    rw c.in_ok-push.ensures.items (one_more g.T.IntoValue.tree g.T.IntoValue.own c.loop-item.yielded c.in-Some.item c.loop-item.vals.items c.in_ok-into_value.field-0 c.loop-item.invariant c.in_ok-into_value.ensures)
