use Rattle.wave_value.proofs.ConstructorAnswers.Records.{held_more}
use Rattle.wave_value.proofs.value.checked.last_values.Goals as goal

pub loop-name-preserved-in_ok-insert : goal.loop-name-preserved-in_ok-insert
loop-name-preserved-in_ok-insert g c =
    held_more c.loop-name.given c.insert.new.self c.loop-name.yielded c.in-Some.name c.in-Some.val c.loop-name.invariant c.in_ok-insert.ensures.updates

pub loop-name-preserved : goal.loop-name-preserved
loop-name-preserved g c =
    held_more c.loop-name.given c.insert.new.self c.loop-name.yielded c.in-Some.name c.in-Some.val c.loop-name.invariant c.in_ok-insert.ensures.updates
