use Rattle.wave_grammar.proofs.ChildNodes.Inside.{stands_at}
use Rattle.wave_faults.proofs.leaves.text_of.Goals as goal

pub range-requires-clause-start_le_end : goal.range-requires-clause-start_le_end
range-requires-clause-start_le_end c = (stands_at c.args.source.now c.args.node.now c.span.result c.span.ensures c.requires).ordered

pub range-requires-clause-start_boundary : goal.range-requires-clause-start_boundary
range-requires-clause-start_boundary c = λ _. (stands_at c.args.source.now c.args.node.now c.span.result c.span.ensures c.requires).first

pub range-requires-clause-end_boundary : goal.range-requires-clause-end_boundary
range-requires-clause-end_boundary c = (stands_at c.args.source.now c.args.node.now c.span.result c.span.ensures c.requires).last
