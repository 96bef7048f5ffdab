use Rattle.std.proofs.Common.{ap, ◌∙◌, length}
use Rattle.wave_grammar.proofs.ChildNodes.Entries.{pairs_count}
use Rattle.wave_node.proofs.ast.MapEntriesExactSizeIterator.len.Goals as goal

pub returns-clause-value : goal.returns-clause-value
returns-clause-value c = pairs_count c.self.inside.nodes.now ∙ ap length c.self.view_is
