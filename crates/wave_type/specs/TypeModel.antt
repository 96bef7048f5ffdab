-- The tree that a `Type` stands for, and what holds of its shape.
use Rattle.std.specs.Prelude.{ℕ, List, String, Option, Some, None, string_bytes}
use Rattle.std.specs.declared.alloc.Global.{Global}
use Rattle.wave_wasm.specs.Types as type
use Rattle.wave_wasm.specs.Types.{Simple, TypeTree, Types, Fields}
use Rattle.wave_type.specs.declared.ty.SimpleType.{SimpleType}
use Rattle.wave_type.specs.declared.ty.SimpleType.TheVariants as simples

-- the simple type of a tree
abbrev pub simple_of : SimpleType → Simple
simple_of simples.Bool = type.bool
simple_of simples.S8 = type.whole type.s8
simple_of simples.S16 = type.whole type.s16
simple_of simples.S32 = type.whole type.s32
simple_of simples.S64 = type.whole type.s64
simple_of simples.U8 = type.whole type.u8
simple_of simples.U16 = type.whole type.u16
simple_of simples.U32 = type.whole type.u32
simple_of simples.U64 = type.whole type.u64
simple_of simples.Char = type.char
simple_of simples.String = type.string

module _ {A : Type 0} where
  -- a field or a case by its name's bytes
  abbrev pub by_bytes : String Global × A → List ℕ × A
  by_bytes f = (string_bytes f.0, f.1)

-- the types of a tuple
abbrev pub tuple_part : TypeTree → Option Types
tuple_part (type.tuple Ts) = Some Ts
tuple_part _ = None

-- the fields of a record
abbrev pub record_part : TypeTree → Option Fields
record_part (type.record_type fs) = Some fs
record_part _ = None
