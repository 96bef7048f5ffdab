-- What the constructors of types answer: none where there are no parts, or where the key of a map isn't simple.
use Rattle.std.specs.Prelude.{ℕ, List, [], ◌∷◌, Option, Some, None}
use Rattle.wave_wasm.specs.declared.wasm.WasmTypeKind.{WasmTypeKind}
use Rattle.wave_wasm.specs.declared.wasm.WasmTypeKind.TheVariants as kinds
use Rattle.wave_wasm.specs.Types as type
use Rattle.wave_wasm.specs.Types.{TypeTree, types_of, fields_of, cases_of}

-- the record type of these fields
abbrev pub record_type : List (List ℕ × TypeTree) → Option TypeTree
record_type [] = None
record_type (f ∷ fs) = Some (type.record_type (fields_of (f ∷ fs)))

-- the tuple type of these types
abbrev pub tuple_type : List TypeTree → Option TypeTree
tuple_type [] = None
tuple_type (T ∷ Ts) = Some (type.tuple (types_of (T ∷ Ts)))

-- the variant type of these cases
abbrev pub variant_type : List (List ℕ × Option TypeTree) → Option TypeTree
variant_type [] = None
variant_type (c ∷ cs) = Some (type.variant (cases_of (c ∷ cs)))

-- the enum type of these names
abbrev pub enum_type : List (List ℕ) → Option TypeTree
enum_type [] = None
enum_type (n ∷ ns) = Some (type.enum (n ∷ ns))

-- the type of flags of these names
abbrev pub flags_type : List (List ℕ) → Option TypeTree
flags_type [] = None
flags_type (n ∷ ns) = Some (type.flags (n ∷ ns))

-- the map type of these key and value types
abbrev pub map_type : TypeTree → TypeTree → Option TypeTree
map_type (type.simple K) V = Some (type.map K V)
map_type _ V = None

-- the type without parts of this kind
abbrev pub simple_type : WasmTypeKind → Option TypeTree
simple_type kinds.Bool = Some (type.simple type.bool)
simple_type kinds.S8 = Some (type.simple (type.whole type.s8))
simple_type kinds.S16 = Some (type.simple (type.whole type.s16))
simple_type kinds.S32 = Some (type.simple (type.whole type.s32))
simple_type kinds.S64 = Some (type.simple (type.whole type.s64))
simple_type kinds.U8 = Some (type.simple (type.whole type.u8))
simple_type kinds.U16 = Some (type.simple (type.whole type.u16))
simple_type kinds.U32 = Some (type.simple (type.whole type.u32))
simple_type kinds.U64 = Some (type.simple (type.whole type.u64))
simple_type kinds.F32 = Some (type.unreadable type.f32)
simple_type kinds.F64 = Some (type.unreadable type.f64)
simple_type kinds.Char = Some (type.simple type.char)
simple_type kinds.String = Some (type.simple type.string)
simple_type kinds.List = None
simple_type kinds.FixedLengthList = None
simple_type kinds.Record = None
simple_type kinds.Tuple = None
simple_type kinds.Variant = None
simple_type kinds.Enum = None
simple_type kinds.Option = None
simple_type kinds.Result = None
simple_type kinds.Flags = None
simple_type kinds.Map = None
simple_type kinds.Unsupported = None
