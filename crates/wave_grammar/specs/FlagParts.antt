-- Flags by their names, each with its place.
use Rattle.std.specs.Prelude.{ℕ, ◌≡◌, List, map}
use Rattle.std.specs.Borrow.{Bor}
use Rattle.std.specs.BTreeMap.{BTreeMap, values}
use Rattle.std.specs.declared.ops.Range.{Range}
use Rattle.wave_wasm.specs.Lists.{AllOf}
use Rattle.wave_grammar.specs.LeafTokens.{name_of}
use Rattle.wave_grammar.specs.SpannedTree.{slice}
use Rattle.wave_grammar.specs.NodeTree.{NodeTree, NodeTrees, node, no_nodes, node_trees}
use Rattle.wave_grammar.specs.declared.form.NodeType.TheVariants as kind

-- the node of the label at this place
abbrev pub label_at : Range ℕ → NodeTree
label_at p = node kind.Label p no_nodes

-- the nodes of the flags, in the order of their names
abbrev pub flag_nodes : BTreeMap (Bor (List ℕ)) (Range ℕ) → NodeTrees
flag_nodes flags = node_trees (map label_at (values flags))

-- each flag is held by the name of the label at its place in the source
abbrev pub AreFlagsOf : List ℕ → BTreeMap (Bor (List ℕ)) (Range ℕ) → Type 0
AreFlagsOf source flags = AllOf (λ e. e.0.now ≡ name_of (slice source e.1)) flags.entries
