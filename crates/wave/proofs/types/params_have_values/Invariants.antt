-- Each type has a value where each that is left has one.
use Rattle.std.proofs.Common.{drop}
use Rattle.wave_type.specs.FunctionType.{types_of}
use Rattle.wave.proofs.HavingValue.{Tested}
use Rattle.wave.proofs.types.params_have_values.Given as goal

abbrev pub invariant-loop-ty : goal.invariant-loop-ty
invariant-loop-ty l = Tested (drop l.ty-index l.ty-items) (types_of l.function.params)
