-- The types of values, and their parts.
use Rattle.std.specs.Prelude.{ℕ, suc, ◌≡◌, ◌^◌, nat_lt, Bool, true, false, ◌&&◌, List, [], ◌∷◌, Option, Some, None, max}
use Rattle.wave_wasm.specs.Names.{AreDistinct}
use Rattle.wave_wasm.specs.declared.wasm.WasmTypeKind.{WasmTypeKind}
use Rattle.wave_wasm.specs.declared.wasm.WasmTypeKind.TheVariants as kinds

-- the eight whole-number types
pub data Whole : Type 0 where
  s8 s16 s32 s64 u8 u16 u32 u64 : Whole

-- the types whose values are one token, which are also the types of keys
pub data Simple : Type 0 where
  bool : Simple
  whole : Whole → Simple
  char : Simple
  string : Simple

-- the kinds that have no value here
pub data Unreadable : Type 0 where
  f32 f64 unsupported : Unreadable

mutual
  -- a type
  pub data TypeTree : Type 0 where
    simple : Simple → TypeTree
    unreadable : Unreadable → TypeTree
    list : TypeTree → TypeTree
    fixed : TypeTree → ℕ → TypeTree
    record_type : Fields → TypeTree
    tuple : Types → TypeTree
    variant : Cases → TypeTree
    enum : List (List ℕ) → TypeTree
    option : TypeTree → TypeTree
    result : MaybeType → MaybeType → TypeTree
    flags : List (List ℕ) → TypeTree
    map : Simple → TypeTree → TypeTree

  -- a type, or nothing: the payload of a case, of `ok` or of `err`
  pub data MaybeType : Type 0 where
    no_type : MaybeType
    a_type : TypeTree → MaybeType

  -- the types of a tuple
  pub data Types : Type 0 where
    no_types : Types
    type_and : TypeTree → Types → Types

  -- the fields of a record
  pub data Fields : Type 0 where
    no_fields : Fields
    field : List ℕ → TypeTree → Fields → Fields

  -- the cases of a variant
  pub data Cases : Type 0 where
    no_cases : Cases
    case_of : List ℕ → MaybeType → Cases → Cases

-- ---- the families as lists, and back

-- a payload's type, as an option
abbrev pub type_option : MaybeType → Option TypeTree
type_option no_type = None
type_option (a_type T) = Some T

-- the types of a tuple, as a list
abbrev pub type_list : Types → List TypeTree
type_list no_types = []
type_list (type_and T more) = T ∷ type_list more

-- the fields, as a list of names and types
abbrev pub field_list : Fields → List (List ℕ × TypeTree)
field_list no_fields = []
field_list (field name T more) = (name, T) ∷ field_list more

-- the cases, as a list of names and payloads
abbrev pub case_list : Cases → List (List ℕ × Option TypeTree)
case_list no_cases = []
case_list (case_of name payload more) = (name, type_option payload) ∷ case_list more

-- the payload of this type, or none
abbrev pub maybe_type : Option TypeTree → MaybeType
maybe_type None = no_type
maybe_type (Some T) = a_type T

-- the types in this list
abbrev pub types_of : List TypeTree → Types
types_of [] = no_types
types_of (T ∷ more) = type_and T (types_of more)

-- the fields in this list
abbrev pub fields_of : List (List ℕ × TypeTree) → Fields
fields_of [] = no_fields
fields_of (f ∷ more) = field f.0 f.1 (fields_of more)

-- the cases in this list
abbrev pub cases_of : List (List ℕ × Option TypeTree) → Cases
cases_of [] = no_cases
cases_of (c ∷ more) = case_of c.0 (maybe_type c.1) (cases_of more)

-- the names of the fields, in their order
abbrev pub field_names : Fields → List (List ℕ)
field_names no_fields = []
field_names (field name T more) = name ∷ field_names more

-- the names of the cases, in their order
abbrev pub case_names : Cases → List (List ℕ)
case_names no_cases = []
case_names (case_of name payload more) = name ∷ case_names more

-- how many types a tuple has
abbrev pub count_of : Types → ℕ
count_of no_types = 0
count_of (type_and T more) = suc (count_of more)

-- ---- the parts of a type; none for a type of another kind

-- the element type of a list or fixed-length list
abbrev pub list_part : TypeTree → Option TypeTree
list_part (list E) = Some E
list_part (fixed E n) = Some E
list_part _ = None

-- the length of a fixed-length list
abbrev pub list_length : TypeTree → Option ℕ
list_length (fixed E n) = Some n
list_length _ = None

-- the fields of a record
abbrev pub record_parts : TypeTree → List (List ℕ × TypeTree)
record_parts (record_type fs) = field_list fs
record_parts _ = []

-- the types of a tuple
abbrev pub tuple_parts : TypeTree → List TypeTree
tuple_parts (tuple Ts) = type_list Ts
tuple_parts _ = []

-- the cases of a variant
abbrev pub variant_parts : TypeTree → List (List ℕ × Option TypeTree)
variant_parts (variant cs) = case_list cs
variant_parts _ = []

-- the names of an enum
abbrev pub enum_names : TypeTree → List (List ℕ)
enum_names (enum names) = names
enum_names _ = []

-- the payload type of an option
abbrev pub option_part : TypeTree → Option TypeTree
option_part (option P) = Some P
option_part _ = None

-- the payload types of a result
abbrev pub result_parts : TypeTree → Option (Option TypeTree × Option TypeTree)
result_parts (result A B) = Some (type_option A, type_option B)
result_parts _ = None

-- the names of flags
abbrev pub flags_names : TypeTree → List (List ℕ)
flags_names (flags names) = names
flags_names _ = []

-- the key type and the value type of a map
abbrev pub map_parts : TypeTree → Option (TypeTree × TypeTree)
map_parts (map K V) = Some (simple K, V)
map_parts _ = None

-- ---- kinds and depth

-- the kind of a whole-number type
abbrev pub whole_kind : Whole → WasmTypeKind
whole_kind s8 = kinds.S8
whole_kind s16 = kinds.S16
whole_kind s32 = kinds.S32
whole_kind s64 = kinds.S64
whole_kind u8 = kinds.U8
whole_kind u16 = kinds.U16
whole_kind u32 = kinds.U32
whole_kind u64 = kinds.U64

-- the kind of a simple type
abbrev pub simple_kind : Simple → WasmTypeKind
simple_kind bool = kinds.Bool
simple_kind (whole kind) = whole_kind kind
simple_kind char = kinds.Char
simple_kind string = kinds.String

-- the kind of a type that has no value
abbrev pub unreadable_kind : Unreadable → WasmTypeKind
unreadable_kind f32 = kinds.F32
unreadable_kind f64 = kinds.F64
unreadable_kind unsupported = kinds.Unsupported

-- the kind of a type
abbrev pub kind_of : TypeTree → WasmTypeKind
kind_of (simple S) = simple_kind S
kind_of (unreadable kind) = unreadable_kind kind
kind_of (list E) = kinds.List
kind_of (fixed E n) = kinds.FixedLengthList
kind_of (record_type fs) = kinds.Record
kind_of (tuple Ts) = kinds.Tuple
kind_of (variant cs) = kinds.Variant
kind_of (enum names) = kinds.Enum
kind_of (option P) = kinds.Option
kind_of (result A B) = kinds.Result
kind_of (flags names) = kinds.Flags
kind_of (map K V) = kinds.Map

-- ---- the names within a type

-- the names of each record, variant, enum and flags pass, as a list
abbrev mutual
  pub EachNames : (List (List ℕ) → Type 0) → TypeTree → Type 0
  EachNames Pass (simple S) = Unit {0}
  EachNames Pass (unreadable kind) = Unit {0}
  EachNames Pass (list E) = EachNames Pass E
  EachNames Pass (fixed E n) = EachNames Pass E
  EachNames Pass (record_type fs) = Pass (field_names fs) × EachNamesOfFields Pass fs
  EachNames Pass (tuple Ts) = EachNamesOfTypes Pass Ts
  EachNames Pass (variant cs) = Pass (case_names cs) × EachNamesOfCases Pass cs
  EachNames Pass (enum names) = Pass names
  EachNames Pass (option P) = EachNames Pass P
  EachNames Pass (result A B) = EachNamesOfMaybe Pass A × EachNamesOfMaybe Pass B
  EachNames Pass (flags names) = Pass names
  EachNames Pass (map K V) = EachNames Pass V

  -- so in a payload's type
  pub EachNamesOfMaybe : (List (List ℕ) → Type 0) → MaybeType → Type 0
  EachNamesOfMaybe Pass no_type = Unit {0}
  EachNamesOfMaybe Pass (a_type T) = EachNames Pass T

  -- so in each type of a tuple
  pub EachNamesOfTypes : (List (List ℕ) → Type 0) → Types → Type 0
  EachNamesOfTypes Pass no_types = Unit {0}
  EachNamesOfTypes Pass (type_and T more) = EachNames Pass T × EachNamesOfTypes Pass more

  -- so in each field's type
  pub EachNamesOfFields : (List (List ℕ) → Type 0) → Fields → Type 0
  EachNamesOfFields Pass no_fields = Unit {0}
  EachNamesOfFields Pass (field name T more) = EachNames Pass T × EachNamesOfFields Pass more

  -- so in each case's payload
  pub EachNamesOfCases : (List (List ℕ) → Type 0) → Cases → Type 0
  EachNamesOfCases Pass no_cases = Unit {0}
  EachNamesOfCases Pass (case_of name payload more) = EachNamesOfMaybe Pass payload × EachNamesOfCases Pass more

-- within each record, variant, enum and flags no name stands twice
abbrev pub HasDistinctNames : TypeTree → Type 0
HasDistinctNames T = EachNames AreDistinct T

-- ---- the types that `Type` has

-- the type and each part of it pass the test
abbrev mutual
  pub every : (TypeTree → Bool) → TypeTree → Bool
  every test (simple S) = test (simple S)
  every test (unreadable kind) = test (unreadable kind)
  every test (list E) = test (list E) && every test E
  every test (fixed E n) = test (fixed E n) && every test E
  every test (record_type fs) = test (record_type fs) && every_field test fs
  every test (tuple Ts) = test (tuple Ts) && every_type test Ts
  every test (variant cs) = test (variant cs) && every_case test cs
  every test (enum names) = test (enum names)
  every test (option P) = test (option P) && every test P
  every test (result A B) = test (result A B) && (every_maybe test A && every_maybe test B)
  every test (flags names) = test (flags names)
  every test (map K V) = test (map K V) && every test V

  -- so does a payload's type, where there is one
  pub every_maybe : (TypeTree → Bool) → MaybeType → Bool
  every_maybe test no_type = true
  every_maybe test (a_type T) = every test T

  -- so does each type of a tuple
  pub every_type : (TypeTree → Bool) → Types → Bool
  every_type test no_types = true
  every_type test (type_and T more) = every test T && every_type test more

  -- so does each field's type
  pub every_field : (TypeTree → Bool) → Fields → Bool
  every_field test no_fields = true
  every_field test (field name T more) = every test T && every_field test more

  -- so does each case's payload
  pub every_case : (TypeTree → Bool) → Cases → Bool
  every_case test no_cases = true
  every_case test (case_of name payload more) = every_maybe test payload && every_case test more

-- there is a name
abbrev pub has_names : List (List ℕ) → Bool
has_names [] = false
has_names (name ∷ more) = true

-- neither unsupported, nor a record, tuple, variant, enum or flags without parts, nor longer than a u32 can say
abbrev pub can_be_built : TypeTree → Bool
can_be_built (simple S) = true
can_be_built (unreadable f32) = true
can_be_built (unreadable f64) = true
can_be_built (unreadable unsupported) = false
can_be_built (list E) = true
can_be_built (fixed E n) = nat_lt n (2 ^ 32)
can_be_built (record_type no_fields) = false
can_be_built (record_type (field name T more)) = true
can_be_built (tuple no_types) = false
can_be_built (tuple (type_and T more)) = true
can_be_built (variant no_cases) = false
can_be_built (variant (case_of name payload more)) = true
can_be_built (enum names) = has_names names
can_be_built (option P) = true
can_be_built (result A B) = true
can_be_built (flags names) = has_names names
can_be_built (map K V) = true

-- `Type` can have this tree
abbrev pub is_representable : TypeTree → Bool
is_representable T = every can_be_built T

-- T is a tree of `Type`
abbrev pub IsRepresentable : TypeTree → Type 0
IsRepresentable T = is_representable T ≡ true

-- how deep a type nests
abbrev mutual
  pub depth : TypeTree → ℕ
  depth (simple S) = 0
  depth (unreadable kind) = 0
  depth (list E) = suc (depth E)
  depth (fixed E n) = suc (depth E)
  depth (record_type fs) = suc (depth_of_fields fs)
  depth (tuple Ts) = suc (depth_of_types Ts)
  depth (variant cs) = suc (depth_of_cases cs)
  depth (enum names) = 0
  depth (option P) = suc (depth P)
  depth (result A B) = suc (max (depth_of_maybe A) (depth_of_maybe B))
  depth (flags names) = 0
  depth (map K V) = suc (depth V)

  -- how deep a payload's type nests
  pub depth_of_maybe : MaybeType → ℕ
  depth_of_maybe no_type = 0
  depth_of_maybe (a_type T) = depth T

  -- how deep the deepest type of a tuple nests
  pub depth_of_types : Types → ℕ
  depth_of_types no_types = 0
  depth_of_types (type_and T more) = max (depth T) (depth_of_types more)

  -- how deep the deepest field nests
  pub depth_of_fields : Fields → ℕ
  depth_of_fields no_fields = 0
  depth_of_fields (field name T more) = max (depth T) (depth_of_fields more)

  -- how deep the deepest payload nests
  pub depth_of_cases : Cases → ℕ
  depth_of_cases no_cases = 0
  depth_of_cases (case_of name payload more) = max (depth_of_maybe payload) (depth_of_cases more)
