-- What a `FuncTypeHandle` holds.
use mathlib.Core.Option.{none}
use Rattle.std.specs.Prelude.{◌≡◌, ⊤, Option}
use Rattle.std.specs.Borrow.{follows_so, MutBor, Fml}
use Rattle.wave_type.specs.FunctionType.{FunctionType}
use Rattle.wave_handle.specs.declared.func.FuncTypeHandle.{FuncTypeHandle}
use Rattle.wave_handle.specs.contracts.func.FuncTypeHandle.{the_row}

-- what an open handle holds
abbrev pub held_function_type : FuncTypeHandle → Option FunctionType
held_function_type h = h.slot.value

-- while what it holds is lent, the handle is not changed
abbrev pub KeepsFunctionType : MutBor FuncTypeHandle → Fml
KeepsFunctionType h = follows_so the_row the_row h.ghost_name none (λ _ _. ⊤) (λ last. held_function_type last ≡ held_function_type h.now)
