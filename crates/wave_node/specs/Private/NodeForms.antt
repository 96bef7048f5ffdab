-- The forms of nodes that builders make values of. Only private contracts and proofs cite it.
use Rattle.std.specs.Prelude.{◌≡◌}
use Rattle.wave_grammar.specs.NodeTree.{NodeTree, node, no_nodes, type_of, place_of}
use Rattle.wave_grammar.specs.NodeParts.{IsOneToken}

-- the node has no children
abbrev pub IsAlone : NodeTree → Type 0
IsAlone n = n ≡ node (type_of n) (place_of n) no_nodes

-- the node is of one token
abbrev pub IsOfOneToken : NodeTree → Type 0
IsOfOneToken n = IsOneToken (type_of n) × IsAlone n
