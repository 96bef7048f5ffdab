use Rattle.std.proofs.Common.{take}
use Rattle.wave_wasm.specs.Borrowed.{texts}
use Rattle.wave_value.specs.Private.CaseRules.{MarksNames}
use Rattle.wave_value.proofs.ConstructorAnswers.Flags.{PlacesSoFar}
use Rattle.wave_value.proofs.value.checked.cases.marked_places.Given as goal

abbrev pub invariant-loop-i : goal.invariant-loop-i
invariant-loop-i l = record {
  marks : MarksNames l.marks (texts l.fn.names) (texts (take l.i l.all));
  places : PlacesSoFar (texts l.fn.names) l.all l.i l.places.items;
}
