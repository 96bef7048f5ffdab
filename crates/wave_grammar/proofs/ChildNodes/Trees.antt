-- How deep the nodes of a list nest.
use Rattle.std.proofs.Common.{ℕ, zero, suc, ◌<◌, ◌≡◌, List, [], ◌∷◌, length, get_or, ap, refl, arith}
use Rattle.wave_grammar.specs.NodeTree.{NodeTree, node_trees, node_list, depth, nodes_depth}

-- each node nests less deep than all of them together
pub node_below : (ns : List NodeTree) (i : ℕ) (n : NodeTree) → i < length ns → n ≡ get_or ns i n → depth n < nodes_depth (node_trees ns)
node_below [] i n lt is = absurd (omega (arith, lt))
node_below (m ∷ ns) zero n lt is = omega (arith, ap depth is)
node_below (m ∷ ns) (suc i) n lt is = omega (arith, node_below ns i n (omega (arith, lt)) is)

-- a list of nodes in the tree's form is that list
pub list_of_trees : (ns : List NodeTree) → node_list (node_trees ns) ≡ ns
list_of_trees [] = refl
list_of_trees (n ∷ ns) = ap (λ (more : List NodeTree). n ∷ more) (list_of_trees ns)
