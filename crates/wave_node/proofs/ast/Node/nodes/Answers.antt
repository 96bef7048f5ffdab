use Rattle.std.proofs.Common.{sym, ap, ◌∙◌}
use Rattle.wave_grammar.specs.NodeTree.{children_of}
use Rattle.wave_grammar.proofs.ChildNodes.Trees.{list_of_trees}
use Rattle.wave_node.proofs.ast.Node.nodes.Goals as goal

pub returns : goal.returns
returns c = c.as_slice.ensures.value ∙ (sym (list_of_trees c.self.inside.children.items) ∙ ap children_of c.self.view_is)
