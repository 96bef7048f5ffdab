-- What the slots of handles own, and how what they hold is stored.
use base.Fml.{Fml, ftrue}
use denote.RattleType.{RattleType}
use denote.RawPtr.{Ptr}
use Rattle.std.specs.Prelude.{Option, Some, None}
use Rattle.std.specs.Box.Ownership.{box_owns}
use Rattle.std.specs.Coded.{Coded, coded_option}
use Rattle.std.specs.Global.{Global}
use Rattle.std_heap.specs.contracts.GlobalAllocator.TheImpl.{ghosts}
use Rattle.wave_type.specs.contracts.func.FuncType as func
use Rattle.wave_type.specs.contracts.ty.Type as ty

-- a box of this row's value at the pointer, or nothing
abbrev pub slot_owns : (R : RattleType) → Global → Ptr → Option R.Denot → Fml
slot_owns R alloc at (Some x) = box_owns (ghosts.dealloc_token alloc) R at x
slot_owns R alloc at None = ftrue

abbrev pub type_slot_owns : Global → Ptr → Option ty.the_row.Denot → Fml
type_slot_owns = slot_owns ty.the_row

abbrev pub function_type_slot_owns : Global → Ptr → Option func.the_row.Denot → Fml
function_type_slot_owns = slot_owns func.the_row

abbrev pub stored_type : Coded (Option ty.the_row.Denot)
stored_type = coded_option ty.the_row.coded

abbrev pub stored_function_type : Coded (Option func.the_row.Denot)
stored_function_type = coded_option func.the_row.coded
