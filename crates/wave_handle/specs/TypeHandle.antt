-- What a `TypeHandle` holds.
use mathlib.Core.Option.{none}
use Rattle.std.specs.Prelude.{◌≡◌, ⊤, Option}
use Rattle.std.specs.Borrow.{follows_so, MutBor, Fml}
use Rattle.wave_wasm.specs.Types.{TypeTree}
use Rattle.wave_handle.specs.declared.ty.TypeHandle.{TypeHandle}
use Rattle.wave_handle.specs.contracts.ty.TypeHandle.{the_row}

-- what an open handle holds
abbrev pub held_type : TypeHandle → Option TypeTree
held_type h = h.slot.value

-- while what it holds is lent, the handle is not changed
abbrev pub KeepsType : MutBor TypeHandle → Fml
KeepsType h = follows_so the_row the_row h.ghost_name none (λ _ _. ⊤) (λ last. held_type last ≡ held_type h.now)
