use Rattle.std.proofs.Common.{map}
use Rattle.wave_convert.proofs.IntoValue.Items.{AreBuilt}
use Rattle.wave_convert.proofs.convert.built.values_of.Given as goal

abbrev pub invariant-loop-item : goal.invariant-loop-item
invariant-loop-item g l = AreBuilt (map g.T.IntoValue.tree l.yielded) g.T.IntoValue.own l.vals.items
