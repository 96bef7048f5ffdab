use Rattle.std.proofs.Common.{take}
use Rattle.wave_type_explain.specs.Expected.{AreThose, every_class}
use Rattle.wave_type_explain.proofs.expected.expected_after.Given as goal

abbrev pub invariant-loop-class : goal.invariant-loop-class
invariant-loop-class l = AreThose l.reading l.before (take l.class-index every_class) l.classes.items
