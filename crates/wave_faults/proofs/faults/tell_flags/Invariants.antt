use Rattle.wave_wasm.specs.Types.{flags_names}
use Rattle.wave_grammar.specs.NodeTree.{place_of, children_of}
use Rattle.wave_grammar.specs.NodeFlags.{names_at}
use Rattle.wave_faults.specs.AllFaults.{InTurn}
use Rattle.wave_faults.proofs.Walk.Adding.{Leads}
use Rattle.wave_faults.proofs.Walk.Cases.{OfFlag}
use Rattle.wave_faults.proofs.faults.tell_flags.Given as goal

abbrev pub invariant-loop-name : goal.invariant-loop-name
invariant-loop-name g l =
    Leads (InTurn (OfFlag (flags_names (g.T.WasmType.tree l.ty)) (place_of l.node)) (names_at l.source (children_of l.node)))
    (InTurn (OfFlag (flags_names (g.T.WasmType.tree l.ty)) (place_of l.node)) l.labels) l.fn.told.items l.told.items
