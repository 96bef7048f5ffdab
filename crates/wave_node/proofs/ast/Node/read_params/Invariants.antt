use Rattle.std.proofs.Common.{List, ◌≡◌, ◌≤◌, length, map, take}
use Rattle.wave_grammar.specs.SpannedTree.{SpannedTree}
use Rattle.wave_grammar.specs.NodeParams.{AreRead}
use Rattle.wave_grammar.proofs.ByKind.Lists.{AreNodesOf}
use Rattle.wave_node.proofs.ast.Node.read_params.Given as goal

abbrev pub invariant-loop-i : goal.invariant-loop-i
invariant-loop-i g l =
    (l.i ≤ length l.types)
    × (length l.vals.items ≡ l.i)
    × ((ts : List SpannedTree) → AreNodesOf l.src l.nodes ts → AreRead g.V.WasmValue.tree g.V.WasmValue.is_of (take l.i (map g.P.ParamType.denoted l.types)) (take l.i ts) l.vals.items)
