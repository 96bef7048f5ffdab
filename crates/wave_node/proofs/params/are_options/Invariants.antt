use Rattle.std.proofs.Common.{map, take}
use Rattle.wave_wasm.specs.Lists.{AllOf}
use Rattle.wave_grammar.specs.TypedGrammar.{IsOption}
use Rattle.wave_node.proofs.params.are_options.Given as goal

abbrev pub invariant-loop-ty : goal.invariant-loop-ty
invariant-loop-ty g l = AllOf IsOption (take l.ty-index (map g.P.ParamType.denoted l.types))
