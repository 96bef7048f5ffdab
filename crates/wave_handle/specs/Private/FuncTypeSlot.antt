-- What is lent of a `FuncTypeSlot`.
use Rattle.std.specs.Prelude.{Some}
use Rattle.std.specs.Borrow.{Lends, MutBor, Fml}
use Rattle.wave_type.specs.FunctionType.{FunctionType}
use Rattle.wave_type.specs.contracts.func.FuncType as content
use Rattle.wave_handle.specs.declared.func.slot.FuncTypeSlot.{FuncTypeSlot}
use Rattle.wave_handle.specs.contracts.func.slot.FuncTypeSlot.{the_row}

-- the slot with this in its box
abbrev pub with_function_type : FuncTypeSlot → FunctionType → FuncTypeSlot
with_function_type s x = record s { value = Some x }

-- s ends with the last value behind r in its box
abbrev pub LendsFunctionType : MutBor FuncTypeSlot → MutBor FunctionType → Fml
LendsFunctionType s r = Lends the_row content.the_row s r (with_function_type s.now)
