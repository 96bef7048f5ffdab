use Rattle.std.proofs.Common.{ℕ, List, ◌≡◌, ◌++◌, ◌+◌, ◌-◌, ◌*◌, length, map, take, drop}
use denote.Text.{Utf8}
use denote.Shadow.{shadow}
use Rattle.std.specs.Fmt.{HasWritten, IsPlainFormatter}
use Rattle.wave_wasm.specs.Commas.{joined}
use Rattle.wave_grammar.specs.NodeTree.{depth, nodes_depth, node_trees}
use Rattle.wave_tree.specs.NodeDisplay.{display_at}
use Rattle.wave_tree.specs.Private.NodeDisplay.{entries_at, AreEntriesOf}
use Rattle.wave_wasm.proofs.Displays.JoinedTexts.{separator, left}
use Rattle.wave_tree.proofs.untyped.display.+display.Given as goal

abbrev pub decreases-write_node : goal.decreases-write_node
decreases-write_node g l = 4 * depth l.node.now + 3

abbrev pub decreases-write_listed : goal.decreases-write_listed
decreases-write_listed g l = 4 * nodes_depth (node_trees l.nodes.now) + 2

abbrev pub decreases-write_items : goal.decreases-write_items
decreases-write_items g l = 4 * nodes_depth (node_trees l.nodes.now) + 1

abbrev pub decreases-write_fields : goal.decreases-write_fields
decreases-write_fields g l = 4 * nodes_depth (node_trees l.nodes.now) + 2

abbrev pub decreases-write_entries : goal.decreases-write_entries
decreases-write_entries g l = 4 * nodes_depth (node_trees l.nodes.now) + 1

abbrev pub decreases-write_entry : goal.decreases-write_entry
decreases-write_entry g l = 4 * depth l.value.now + 4

abbrev pub decreases-write_payload : goal.decreases-write_payload
decreases-write_payload g l = 4 * nodes_depth (node_trees l.nodes.now) + 2

abbrev pub decreases-write_case : goal.decreases-write_case
decreases-write_case g l = 4 * depth l.node.now + 2

abbrev pub invariant-write_items-loop-node : goal.invariant-write_items-loop-node
invariant-write_items-loop-node g l =
    (l.separator ≡ separator (map (display_at l.src) (take l.node-index l.nodes))) × (IsPlainFormatter l.initial.f → HasWritten g.W.Write.write_str_gives l.initial.f (joined (map (display_at l.src) (take l.node-index l.nodes))) l.f)

abbrev pub decreases-write_entries-loop-i : goal.decreases-write_entries-loop-i
decreases-write_entries-loop-i g l = length l.nodes - l.i

abbrev pub invariant-write_entries-loop-i : goal.invariant-write_entries-loop-i
invariant-write_entries-loop-i g l =
    shadow (Utf8 l.separator) × AreEntriesOf l.src (drop l.i l.nodes)
    × (IsPlainFormatter l.initial.f → (w : List ℕ) × HasWritten g.W.Write.write_str_gives l.initial.f w l.f × (w ++ left l.separator (entries_at l.src (drop l.i l.nodes)) ≡ joined (entries_at l.src l.nodes)))
