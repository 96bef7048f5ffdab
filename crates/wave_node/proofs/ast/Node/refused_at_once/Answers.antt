use Rattle.std.proofs.Common.{List, Err, length, refl, sym, ap, subst}
use Rattle.wave_grammar.specs.FaultOrder.{by_type}
use Rattle.wave_grammar.specs.NodeTree.{NodeTree, type_of, children_of}
use Rattle.wave_leaf.specs.PlainReading.{IsReadSparing}
use Rattle.wave_read.specs.Flat.{IsCounted}
use Rattle.wave_node.proofs.NodeReading.Children.{whole_at}
use Rattle.wave_node.proofs.NodeReading.BuilderAnswers.{where_some, where_none}
use Rattle.wave_node.proofs.ast.Node.refused_at_once.Goals as goal

pub returns-clause-refused : goal.returns-clause-refused
returns-clause-refused g c =
    where_some _ _ c.refused.result (λ error read w expected source form begun rejected.
    subst (λ (n : NodeTree). IsReadSparing g.V.WasmValue.tree g.V.WasmValue.is_of g.V.WasmValue.is_full by_type w expected source n (Err error)) (whole_at c.args.self.now (type_of c.args.self.now) c.span.result refl c.span.ensures)
    (read w expected source (type_of c.args.self.now) (children_of c.args.self.now) form (ap length (sym c.nodes.ensures)) begun rejected)) c.refused.ensures.refused

pub returns-clause-counted : goal.returns-clause-counted
returns-clause-counted g c =
    where_none c.refused.result (λ counted w T source form begun rejected.
    subst (λ (ns : List NodeTree). IsCounted T (type_of c.args.self.now) (length ns)) c.nodes.ensures (counted w T source (type_of c.args.self.now) form begun rejected)) c.refused.ensures.counted
