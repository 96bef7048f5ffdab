use Rattle.wave_value.proofs.ConstructorAnswers.Flags.{key_more}
use Rattle.wave_value.proofs.value.checked.cases.unmarked.Goals as goal

pub loop-name-preserved : goal.loop-name-preserved
loop-name-preserved c = key_more c.loop-name.marks c.insert.new.self c.args.names.now c.loop-name.name-index _ c.loop-name-test.true c.loop-name.invariant c.in_ok-insert.ensures.updates
