use Rattle.wave_example_settings.proofs.EachOnce.{kept, known}
use Rattle.wave_example_settings.proofs.calls.join.Goals as goal

pub loop-name-preserved-in-Continue-branch-2 : goal.loop-name-preserved-in-Continue-branch-2
loop-name-preserved-in-Continue-branch-2 c =
    kept _ c.loop-name.yielded c.in-Some.name c.loop-name.names.items c.push.new.self.items c.deref.result.now c.contains.result c.loop-name.invariant c.deref.ensures.value c.contains.ensures.value c.if-not-contains.true c.in_ok-push.ensures.items

pub loop-name-preserved : goal.loop-name-preserved
loop-name-preserved c =
    known _ c.loop-name.yielded c.in-Some.name c.loop-name.names.items c.deref.result.now c.contains.result c.loop-name.invariant c.deref.ensures.value c.contains.ensures.value c.if-not-contains.false
