use Rattle.std.proofs.Common.{ℕ, List, take}
use Rattle.wave_wasm.specs.Names.{AreAllOf}
use Rattle.wave_wasm.specs.Borrowed.{texts}
use Rattle.wave_value.specs.Private.CaseRules.{MarksNames}
use Rattle.wave_value.proofs.value.checked.cases.check_marked.Given as goal

abbrev pub invariant-loop-name : goal.invariant-loop-name
invariant-loop-name l = (marked : List (List ℕ)) → MarksNames l.marks (texts l.names) marked → AreAllOf marked (texts (take l.name-index l.names))
