-- The node of a flag.
use Rattle.wave_grammar.specs.NodeTree.{NodeTree, node, no_nodes}
use Rattle.wave_grammar.specs.declared.form.NodeType.TheVariants as kind
use Rattle.wave_grammar.specs.FlagOrder.{Flag}

-- the flag's node
abbrev pub flag_node : Flag → NodeTree
flag_node f = node kind.Label f.0 no_nodes
