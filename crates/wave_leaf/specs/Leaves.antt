-- Values of one token, without a node.
use Rattle.std.specs.Prelude.{ℕ, ◌≡◌, ◌++◌, List}
use Rattle.wave_wasm.specs.Types as type
use Rattle.wave_wasm.specs.Types.{TypeTree}
use Rattle.wave_grammar.specs.SpannedTree.{slice}
use Rattle.wave_grammar.specs.NodeTree.{NodeTree, node, no_nodes}
use Rattle.wave_grammar.specs.NodeAccessors.{quotes_of}
use Rattle.wave_leaf.specs.declared.leaf.LeafToken.{LeafToken}

-- the node that it would be
abbrev pub leaf_node : LeafToken → NodeTree
leaf_node l = node l.ty l.span no_nodes

-- its text stands at its place
abbrev pub IsLeafIn : List ℕ → LeafToken → Type 0
IsLeafIn source l = l.text.now ≡ slice source l.span

-- its text stands between the quotes of its type
abbrev pub HasQuotes : LeafToken → Type 0
HasQuotes l = (inside : List ℕ) × (l.text.now ≡ quotes_of l.ty ++ (inside ++ quotes_of l.ty))

-- a simple type, or a type that has no values
abbrev pub IsSimpleOrUnreadable : TypeTree → Type 0
IsSimpleOrUnreadable (type.simple S) = Unit {0}
IsSimpleOrUnreadable (type.unreadable u) = Unit {0}
IsSimpleOrUnreadable _ = ⊥
