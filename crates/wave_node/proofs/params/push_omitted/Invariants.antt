use Rattle.std.proofs.Common.{List, ◌≡◌, ◌++◌, map, take}
use Rattle.wave_grammar.specs.NodeParams.{AreOmitted}
use Rattle.wave_node.proofs.params.push_omitted.Given as goal

abbrev pub invariant-loop-ty : goal.invariant-loop-ty
invariant-loop-ty g l =
    (others : List _) × (l.vals.items ≡ l.initial.vals.items ++ others)
    × AreOmitted g.V.WasmValue.tree g.V.WasmValue.is_of (take l.ty-index (map g.P.ParamType.denoted l.types)) others
