use Rattle.std.proofs.Common.{◌+◌, ◌*◌, ◌≡◌, ◌⊎◌, drop, max}
use Rattle.wave_wasm.specs.Lists.{AllOf}
use Rattle.wave_wasm.specs.Types as type
use Rattle.wave_wasm.specs.Types.{Fields, Simple, depth, depth_of_maybe, maybe_type, types_of}
use Rattle.wave_wasm.specs.Borrowed.{denoted, denoted_all}
use Rattle.wave_grammar.specs.SpannedTree.{SpannedTree, entry_list, span_of}
use Rattle.wave_grammar.specs.NodeTree.{type_of}
use Rattle.wave_grammar.specs.NodeAccessors.{IsEntryOf}
use Rattle.wave_grammar.specs.Nodes.{IsNodeOf}
use Rattle.wave_grammar.specs.declared.form.NodeType.TheVariants as kind
use Rattle.wave_grammar.proofs.ByKind.Lists.{list_nodes}
use Rattle.wave_grammar.proofs.ByKind.Tuples.{tuple_nodes}
use Rattle.wave_grammar.proofs.ChildNodes.Entries.{map_nodes}
use Rattle.wave_grammar.proofs.Fields.Entries.{record_nodes}
use Rattle.wave_faults.specs.AllFaults.{InTurn, AreFaults, AreFaultsOfItems}
use Rattle.wave_faults.proofs.Walk.Adding.{Leads}
use Rattle.wave_faults.proofs.Walk.Records.{EntriesLeft, PairsLeft}
use Rattle.wave_faults.proofs.faults.+telling.Given as goal

abbrev pub decreases-tell : goal.decreases-tell
decreases-tell g l = 3 * depth (g.T.WasmType.tree l.ty.now) + 2

abbrev pub decreases-tell_list : goal.decreases-tell_list
decreases-tell_list g l = 3 * depth (g.T.WasmType.tree l.element.now) + 4

abbrev pub decreases-tell_tuple : goal.decreases-tell_tuple
decreases-tell_tuple g l = 3 * depth (g.T.WasmType.tree l.ty.now) + 1

abbrev pub decreases-tell_variant : goal.decreases-tell_variant
decreases-tell_variant g l = 3 * depth (g.T.WasmType.tree l.ty.now) + 1

abbrev pub decreases-tell_option : goal.decreases-tell_option
decreases-tell_option g l = 3 * depth (g.T.WasmType.tree l.payload.now) + 4

abbrev pub decreases-tell_result : goal.decreases-tell_result
decreases-tell_result g l = 3 * max (depth_of_maybe (maybe_type (denoted g.T.WasmType.tree l.ok))) (depth_of_maybe (maybe_type (denoted g.T.WasmType.tree l.err))) + 4

abbrev pub decreases-tell_payload : goal.decreases-tell_payload
decreases-tell_payload g l = 3 * depth_of_maybe (maybe_type (denoted g.T.WasmType.tree l.expected)) + 3

abbrev pub decreases-tell_map : goal.decreases-tell_map
decreases-tell_map g l = 3 * depth (g.T.WasmType.tree l.value_type.now) + 4

abbrev pub decreases-tell_record : goal.decreases-tell_record
decreases-tell_record g l = 3 * depth (g.T.WasmType.tree l.ty.now) + 1

abbrev pub decreases-tell_entries : goal.decreases-tell_entries
decreases-tell_entries g l = 3 * depth (g.T.WasmType.tree l.ty.now)

abbrev pub invariant-tell_list-loop-i : goal.invariant-tell_list-loop-i
invariant-tell_list-loop-i g l =
    (t : SpannedTree) (h : IsNodeOf l.source l.node t) (ty : type_of l.node ≡ kind.List)
    → Leads (InTurn (λ item. AreFaults (g.T.WasmType.tree l.element) item) (list_nodes l.source l.node t h ty).items)
    (InTurn (λ item. AreFaults (g.T.WasmType.tree l.element) item) (drop l.i (list_nodes l.source l.node t h ty).items)) l.fn.told.items l.told.items

abbrev pub invariant-tell_tuple-loop-i : goal.invariant-tell_tuple-loop-i
invariant-tell_tuple-loop-i g l =
    (t : SpannedTree) (h : IsNodeOf l.source l.node t) (ty : type_of l.node ≡ kind.Tuple)
    → Leads (AreFaultsOfItems (types_of (denoted_all g.T.WasmType.tree l.types.items)) (tuple_nodes l.source l.node t h ty).items)
    (AreFaultsOfItems (types_of (drop l.i (denoted_all g.T.WasmType.tree l.types.items))) (drop l.i (tuple_nodes l.source l.node t h ty).items)) l.fn.told.items l.told.items

abbrev pub invariant-tell_map-loop-key : goal.invariant-tell_map-loop-key
invariant-tell_map-loop-key g l = record {
  parsed : AllOf (IsEntryOf l.source) l.entries;
  left : (t : SpannedTree) (h : IsNodeOf l.source l.node t) (ty : (type_of l.node ≡ kind.TupleSet) ⊎ (type_of l.node ≡ kind.EmptySet)) (K : Simple) → g.T.WasmType.tree l.key_type ≡ type.simple K
      → PairsLeft K (g.T.WasmType.tree l.value_type) l.source (entry_list (map_nodes l.source l.node t h ty).given) l.entries l.fn.told.items l.told.items;
}

abbrev pub invariant-tell_entries-loop-key : goal.invariant-tell_entries-loop-key
invariant-tell_entries-loop-key g l = record {
  parsed : AllOf (IsEntryOf l.source) l.entries;
  left : (t : SpannedTree) (fs : Fields) (h : IsNodeOf l.source l.node t) (ty : type_of l.node ≡ kind.TupleSet) → g.T.WasmType.tree l.ty ≡ type.record_type fs
      → EntriesLeft fs l.source (entry_list (record_nodes l.source l.node t h ty).given) (span_of t) l.entries l.seen l.unknown l.fn.told.items l.told.items;
}
