-- What is lent of a `TypeSlot`.
use Rattle.std.specs.Prelude.{Some}
use Rattle.std.specs.Borrow.{Lends, MutBor, Fml}
use Rattle.wave_wasm.specs.Types.{TypeTree}
use Rattle.wave_type.specs.contracts.ty.Type as content
use Rattle.wave_handle.specs.declared.ty.slot.TypeSlot.{TypeSlot}
use Rattle.wave_handle.specs.contracts.ty.slot.TypeSlot.{the_row}

-- the slot with this in its box
abbrev pub with_type : TypeSlot → TypeTree → TypeSlot
with_type s x = record s { value = Some x }

-- s ends with the last value behind r in its box
abbrev pub LendsType : MutBor TypeSlot → MutBor TypeTree → Fml
LendsType s r = Lends the_row content.the_row s r (with_type s.now)
