use Rattle.std.proofs.Common.{rules, ◌≡◌, ◌⊎◌}
use Rattle.wave_grammar.specs.NodeTree.{type_of, children_of}
use Rattle.wave_grammar.specs.NodeAccessors.{node_pairs}
use Rattle.wave_grammar.specs.declared.form.NodeType.TheVariants as kind
use Rattle.wave_grammar.proofs.ChildNodes.Parts.{entries_within}
use Rattle.wave_node.proofs.ast.Node.as_map.Goals as goal

pub returns-in-TupleSet : goal.returns-in-TupleSet
returns-in-TupleSet c =
    let ty : (type_of c.args.self.now ≡ kind.TupleSet) ⊎ (type_of c.args.self.now ≡ kind.EmptySet) = search rules in
    let is : c.new.result ≡ node_pairs (children_of c.args.self.now) = search rules in
    (ty, is, entries_within c.args.self.now c.new.result ty is)
