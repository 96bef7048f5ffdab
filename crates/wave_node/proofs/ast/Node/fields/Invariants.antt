use Rattle.std.proofs.Common.{take, map}
use Rattle.wave_grammar.specs.NodeAccessors.{node_pairs}
use Rattle.wave_grammar.specs.NodeFields.{field_of, HoldsFields}
use Rattle.wave_grammar.proofs.Fields.Lookup.{FieldsSoFar}
use Rattle.wave_node.proofs.ast.Node.fields.Given as goal

abbrev pub invariant-loop-i : goal.invariant-loop-i
invariant-loop-i l = record {
  so_far : FieldsSoFar l.src (take l.i (node_pairs l.nodes));
  holds : HoldsFields l.by_name (map (field_of l.src) (take l.i (node_pairs l.nodes)));
}
