use Rattle.std.proofs.Common.{◌≡◌, string_bytes}
use Rattle.wave_grammar.specs.NodeTree.{children_of}
use Rattle.wave_grammar.specs.NodeAccessors.{node_pairs}
use Rattle.wave_place.proofs.Steps.{IsSearch, NoField}
use Rattle.wave_place.proofs.path.step_to_field.Given as goal

abbrev pub invariant-loop-key : goal.invariant-loop-key
invariant-loop-key g l =
    IsSearch (NoField l.source l.span (g.T.WasmType.tree l.ty)) (node_pairs (children_of l.node)) l.entries
    × (string_bytes l.path ≡ string_bytes l.fn.path)
