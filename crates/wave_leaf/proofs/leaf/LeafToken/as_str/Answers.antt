use Rattle.std.proofs.Common.{inl}
use Rattle.wave_grammar.proofs.NodeTexts.Nodes.{parts_given, parts_refused_on}
use Rattle.wave_leaf.specs.Leaves.{leaf_node}
use Rattle.wave_leaf.proofs.leaf.LeafToken.as_str.Goals as goal

pub returns-in_err-parts-clause-gives : goal.returns-in_err-parts-clause-gives
returns-in_err-parts-clause-gives c = λ source here quoted.
    inl (parts_refused_on source (leaf_node c.args.self.now) c.in_err-parts.field-0.0 c.from_residual.result c.from_residual.ensures.1 (c.in_err-parts.ensures source here quoted))

pub returns-clause-gives : goal.returns-clause-gives
returns-clause-gives c = λ source here quoted.
    inl (parts_given source (leaf_node c.args.self.now) c.in_ok-parts.parts c.joined.result (c.in_ok-parts.ensures source here quoted) c.joined.ensures)
