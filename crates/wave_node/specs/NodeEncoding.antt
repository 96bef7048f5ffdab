-- A node as a value that can be stored, by which two nodes are told apart.
use Rattle.std.specs.Prelude.{◌≡◌, ℕ, List, [], ◌∷◌, refl, slice_index_or}
use Rattle.std.proofs.Common.{sym, ap, ◌∙◌}
use Rattle.std.specs.Coded.{Coded}
use base.Stored.{Gv, gnil, gnum, gcons, num}
use Rattle.wave_grammar.specs.declared.form.NodeType.{NodeType}
use Rattle.wave_grammar.specs.declared.form.NodeType.TheVariants as kind
use Rattle.wave_grammar.specs.NodeTree.{NodeTree, NodeTrees, node, no_nodes, node_and}

-- the number of a type of nodes
abbrev pub type_number : NodeType → ℕ
type_number kind.BoolTrue = 0
type_number kind.BoolFalse = 1
type_number kind.Number = 2
type_number kind.Char = 3
type_number kind.String = 4
type_number kind.MultilineString = 5
type_number kind.Tuple = 6
type_number kind.List = 7
type_number kind.TupleSet = 8
type_number kind.EmptySet = 9
type_number kind.Label = 10
type_number kind.VariantWithPayload = 11
type_number kind.OptionSome = 12
type_number kind.OptionNone = 13
type_number kind.ResultOk = 14
type_number kind.ResultErr = 15
type_number kind.Flags = 16

-- the types of nodes in the order of their numbers
abbrev all_types : List NodeType
all_types =
    kind.BoolTrue ∷ kind.BoolFalse ∷ kind.Number ∷ kind.Char ∷ kind.String ∷ kind.MultilineString ∷ kind.Tuple ∷ kind.List ∷ kind.TupleSet
    ∷ kind.EmptySet ∷ kind.Label ∷ kind.VariantWithPayload ∷ kind.OptionSome ∷ kind.OptionNone ∷ kind.ResultOk ∷ kind.ResultErr ∷ kind.Flags ∷ []

-- the type of nodes of this number
abbrev numbered_type : ℕ → NodeType
numbered_type n = slice_index_or all_types n kind.BoolTrue

type_back : (t : NodeType) → numbered_type (type_number t) ≡ t
type_back kind.BoolTrue = refl
type_back kind.BoolFalse = refl
type_back kind.Number = refl
type_back kind.Char = refl
type_back kind.String = refl
type_back kind.MultilineString = refl
type_back kind.Tuple = refl
type_back kind.List = refl
type_back kind.TupleSet = refl
type_back kind.EmptySet = refl
type_back kind.Label = refl
type_back kind.VariantWithPayload = refl
type_back kind.OptionSome = refl
type_back kind.OptionNone = refl
type_back kind.ResultOk = refl
type_back kind.ResultErr = refl
type_back kind.Flags = refl

-- a node, stored
abbrev mutual
  pub stored_node : NodeTree → Gv
  stored_node (node t p children) = gcons (gnum (type_number t)) (gcons (gnum p.start) (gcons (gnum p.end) (stored_nodes children)))

  -- nodes, stored
  pub stored_nodes : NodeTrees → Gv
  stored_nodes no_nodes = gnil
  stored_nodes (node_and n more) = gcons (stored_node n) (stored_nodes more)

-- the node that is stored so
abbrev mutual
  node_in : Gv → NodeTree
  node_in (gcons t (gcons from (gcons to children))) = node (numbered_type (num t)) (record { start = num from; end = num to }) (nodes_in children)
  node_in _ = node kind.BoolTrue (record { start = 0; end = 0 }) no_nodes

  nodes_in : Gv → NodeTrees
  nodes_in (gcons n more) = node_and (node_in n) (nodes_in more)
  nodes_in _ = no_nodes

mutual
  node_back : (n : NodeTree) → node_in (stored_node n) ≡ n
  node_back (node t p children) = λ i. node (type_back t i) p (nodes_back children i)

  nodes_back : (ns : NodeTrees) → nodes_in (stored_nodes ns) ≡ ns
  nodes_back no_nodes = refl
  nodes_back (node_and n more) = λ i. node_and (node_back n i) (nodes_back more i)

-- two nodes that are stored alike are one
pub stored_apart : (m n : NodeTree) → stored_node m ≡ stored_node n → m ≡ n
stored_apart m n e = sym (node_back m) ∙ (ap node_in e ∙ node_back n)

-- how nodes are stored
abbrev pub node_code : Coded NodeTree
node_code = record { code = stored_node; inj = stored_apart }
