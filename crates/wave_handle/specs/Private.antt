pub mod FuncTypeSlot
pub mod Slots
pub mod TypeSlot
