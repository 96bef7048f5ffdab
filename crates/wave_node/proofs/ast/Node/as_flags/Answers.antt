use Rattle.std.proofs.Common.{sym, ap, ◌∙◌, subst}
use Rattle.wave_grammar.specs.NodeFlags.{AreAllParsed, AreInOrder, names_at}
use Rattle.wave_grammar.proofs.NodeMeaning.Flags.{labels_of, labels_ordered}
use Rattle.wave_node.proofs.ast.Node.as_flags.Goals as goal

pub new-requires : goal.new-requires
new-requires c = subst (AreAllParsed c.args.src.now) (sym c.in_ok-nodes.ensures.1) (labels_of c.args.src.now c.args.self.now c.requires c.in_ok-nodes.ensures.0)

pub returns-clause-ordered : goal.returns-clause-ordered
returns-clause-ordered c = subst AreInOrder (sym (c.new.ensures ∙ ap (names_at c.args.src.now) c.in_ok-nodes.ensures.1)) (labels_ordered c.args.src.now c.args.self.now c.requires c.in_ok-nodes.ensures.0)
