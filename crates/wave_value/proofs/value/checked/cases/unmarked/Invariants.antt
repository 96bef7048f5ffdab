use Rattle.std.proofs.Common.{take, []}
use Rattle.wave_wasm.specs.Borrowed.{texts}
use Rattle.wave_value.specs.Private.CaseRules.{MarksNames}
use Rattle.wave_value.proofs.value.checked.cases.unmarked.Given as goal

abbrev pub invariant-loop-name : goal.invariant-loop-name
invariant-loop-name l = MarksNames l.marks (texts (take l.name-index l.names)) []
