use Rattle.std.proofs.Common.{arith, inr, refl}
use Rattle.wave_grammar.proofs.ChildNodes.Cases.{two_nodes, label_parsed, case_given}
use Rattle.wave_node.proofs.ast.Node.as_variant.Goals as goal

pub bounds-nodes-0 : goal.bounds-nodes-0
bounds-nodes-0 c = omega (arith, two_nodes c.args.src.now c.args.self.now c.nodes-nodes.result.now c.requires (c.if-is_of.ensures.0 refl) c.nodes-nodes.ensures)

pub bounds-nodes-1 : goal.bounds-nodes-1
bounds-nodes-1 c = two_nodes c.args.src.now c.args.self.now c.nodes-nodes.result.now c.requires (c.if-is_of.ensures.0 refl) c.nodes-nodes.ensures

pub slice-requires : goal.slice-requires
slice-requires c = label_parsed c.args.src.now c.args.self.now c.nodes-nodes.result.now c.index-nodes-0.result c.requires (c.if-is_of.ensures.0 refl) c.nodes-nodes.ensures c.index-nodes-0.is

pub returns-then-is_of : goal.returns-then-is_of
returns-then-is_of c =
    inr (case_given c.args.src.now c.args.self.now c.nodes-nodes.result.now c.index-nodes-0.result c.index-nodes-1.result c.label_name.result.now c.slice.result.now c.requires (c.if-is_of.ensures.0 refl) c.nodes-nodes.ensures c.index-nodes-0.is c.index-nodes-1.is c.slice.ensures c.label_name.ensures)
