use Rattle.wave_place.specs.Private.Steps.{NoneHolds}
use Rattle.wave_place.proofs.path.item_at.Given as goal

abbrev pub invariant-loop-i : goal.invariant-loop-i
invariant-loop-i l = NoneHolds l.nodes l.i l.span
