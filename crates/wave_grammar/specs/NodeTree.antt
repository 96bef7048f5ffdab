-- What a `Node` is: its type, its place in the source and its children.
use Rattle.std.specs.Prelude.{ℕ, List, [], ◌∷◌, suc, max}
use Rattle.std.specs.declared.ops.Range.{Range}
use Rattle.wave_grammar.specs.declared.form.NodeType.{NodeType}

mutual
  -- a node
  pub data NodeTree : Type 0 where
    node : NodeType → Range ℕ → NodeTrees → NodeTree

  -- the children of a node
  pub data NodeTrees : Type 0 where
    no_nodes : NodeTrees
    node_and : NodeTree → NodeTrees → NodeTrees

-- the type of a node
abbrev pub type_of : NodeTree → NodeType
type_of (node ty p children) = ty

-- where a node stands
abbrev pub place_of : NodeTree → Range ℕ
place_of (node ty p children) = p

-- the nodes, as a list
abbrev pub node_list : NodeTrees → List NodeTree
node_list no_nodes = []
node_list (node_and n more) = n ∷ node_list more

-- the children of a node
abbrev pub children_of : NodeTree → List NodeTree
children_of (node ty p children) = node_list children

-- the nodes in this list
abbrev pub node_trees : List NodeTree → NodeTrees
node_trees [] = no_nodes
node_trees (n ∷ ns) = node_and n (node_trees ns)

-- how deep nodes nest below a node
abbrev mutual
  pub depth : NodeTree → ℕ
  depth (node ty p children) = nodes_depth children

  -- how many of these nodes stand in one another
  pub nodes_depth : NodeTrees → ℕ
  nodes_depth no_nodes = 0
  nodes_depth (node_and n more) = max (suc (depth n)) (nodes_depth more)
