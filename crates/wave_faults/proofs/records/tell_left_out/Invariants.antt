use Rattle.std.proofs.Common.{List, [], drop}
use Rattle.wave_wasm.specs.Borrowed.{denoted_fields}
use Rattle.wave_wasm.specs.Types.{fields_of}
use Rattle.wave_grammar.specs.NodeTree.{place_of}
use Rattle.wave_grammar.specs.SpannedTree.{PlacedEntry}
use Rattle.wave_faults.specs.AllFaults.{EachLeftOut}
use Rattle.wave_faults.specs.Private.RecordFaults.{HasNames, names_behind}
use Rattle.wave_faults.proofs.Walk.Adding.{Leads}
use Rattle.wave_faults.proofs.records.tell_left_out.Given as goal

abbrev pub invariant-loop-i : goal.invariant-loop-i
invariant-loop-i g l =
    (es : List PlacedEntry) → HasNames l.seen (names_behind [] es)
    → Leads (EachLeftOut (fields_of (denoted_fields g.T.WasmType.tree l.fields)) es (place_of l.node)) (EachLeftOut (fields_of (drop l.i (denoted_fields g.T.WasmType.tree l.fields))) es (place_of l.node)) l.fn.told.items l.told.items
