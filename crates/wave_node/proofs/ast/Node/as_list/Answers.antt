use Rattle.wave_grammar.proofs.ChildNodes.Parts.{list_within}
use Rattle.wave_node.proofs.ast.Node.as_list.Goals as goal

pub returns : goal.returns
returns c = (c.in_ok-ensure_type.ensures, c.nodes.ensures, list_within c.args.self.now c.nodes.result.now c.in_ok-ensure_type.ensures c.nodes.ensures)
