use Rattle.wave_grammar.proofs.ChildNodes.Parts.{tuple_within}
use Rattle.wave_node.proofs.ast.Node.as_tuple.Goals as goal

pub returns : goal.returns
returns c = (c.in_ok-ensure_type.ensures, c.nodes.ensures, tuple_within c.args.self.now c.nodes.result.now c.in_ok-ensure_type.ensures c.nodes.ensures)
