-- The values, without their types.
use Rattle.std.specs.Prelude.{ℕ, ℤ, ◌≡◌, Bool, List, [], ◌∷◌, Option, Some, None, suc, max}
use Rattle.wave_wasm.specs.Lists.{AllOf}
use Rattle.std.specs.Char.{IsScalar}
use Rattle.std.specs.Str.{IsUtf8}
use Rattle.wave_wasm.specs.Types as type
use Rattle.wave_wasm.specs.Types.{Whole, Simple, Unreadable, simple_kind, unreadable_kind}
use Rattle.wave_wasm.specs.Numbers.{IsInRange}
use Rattle.wave_wasm.specs.declared.wasm.WasmTypeKind.{WasmTypeKind}
use Rattle.wave_wasm.specs.declared.wasm.WasmTypeKind.TheVariants as kinds

-- a value of one token, which is also a key of a map: a bool, a whole number marked with its type, a scalar, a text
pub data Leaf : Type 0 where
  bool : Bool → Leaf
  whole : Whole → ℤ → Leaf
  char : ℕ → Leaf
  string : List ℕ → Leaf

mutual
  -- a value
  pub data Value : Type 0 where
    leaf : Leaf → Value
    unreadable : Unreadable → Value
    list : Values → Value
    fixed : Values → Value
    record_value : FieldValues → Value
    tuple : Values → Value
    variant : List ℕ → MaybeValue → Value
    enum : List ℕ → Value
    option : MaybeValue → Value
    ok : MaybeValue → Value
    err : MaybeValue → Value
    flags : List (List ℕ) → Value
    map : Entries → Value

  -- a value, or nothing: the payload of a case, of `some`, of `ok` or of `err`
  pub data MaybeValue : Type 0 where
    no_value : MaybeValue
    a_value : Value → MaybeValue

  -- the items of a list or tuple
  pub data Values : Type 0 where
    no_values : Values
    value_and : Value → Values → Values

  -- the fields of a record
  pub data FieldValues : Type 0 where
    no_fields : FieldValues
    field : List ℕ → Value → FieldValues → FieldValues

  -- the entries of a map
  pub data Entries : Type 0 where
    no_entries : Entries
    entry : Leaf → Value → Entries → Entries

-- ---- the families as lists, and back

-- the items, as a list
abbrev pub value_list : Values → List Value
value_list no_values = []
value_list (value_and v more) = v ∷ value_list more

-- the fields, as a list of names and values
abbrev pub field_list : FieldValues → List (List ℕ × Value)
field_list no_fields = []
field_list (field name v more) = (name, v) ∷ field_list more

-- the entries, as a list of keys and values
abbrev pub entry_list : Entries → List (Leaf × Value)
entry_list no_entries = []
entry_list (entry key v more) = (key, v) ∷ entry_list more

-- this payload, or none
abbrev pub maybe_value : Option Value → MaybeValue
maybe_value None = no_value
maybe_value (Some v) = a_value v

-- the items in this list
abbrev pub values : List Value → Values
values [] = no_values
values (v ∷ vs) = value_and v (values vs)

-- the fields in this list
abbrev pub field_values : List (List ℕ × Value) → FieldValues
field_values [] = no_fields
field_values (f ∷ fs) = field f.0 f.1 (field_values fs)

-- the entries in this list
abbrev pub entries : List (Leaf × Value) → Entries
entries [] = no_entries
entries (e ∷ es) = entry e.0 e.1 (entries es)

-- ---- the parts of a value; none for a value of another kind

-- the items of a list or fixed-length list
abbrev pub list_items : Value → List Value
list_items (list vs) = value_list vs
list_items (fixed vs) = value_list vs
list_items _ = []

-- the items of a tuple
abbrev pub tuple_items : Value → List Value
tuple_items (tuple vs) = value_list vs
tuple_items _ = []

-- the fields of a record
abbrev pub record_fields : Value → List (List ℕ × Value)
record_fields (record_value fs) = field_list fs
record_fields _ = []

-- the entries of a map
abbrev pub map_entries : Value → List (Leaf × Value)
map_entries (map es) = entry_list es
map_entries _ = []

-- the names of flags
abbrev pub flags_names : Value → List (List ℕ)
flags_names (flags names) = names
flags_names _ = []

-- ---- kinds and depth

-- the type of a value of one token
abbrev pub leaf_type : Leaf → Simple
leaf_type (bool b) = type.bool
leaf_type (whole kind z) = type.whole kind
leaf_type (char c) = type.char
leaf_type (string s) = type.string

-- the kind of a value
abbrev pub kind_of : Value → WasmTypeKind
kind_of (leaf one) = simple_kind (leaf_type one)
kind_of (unreadable kind) = unreadable_kind kind
kind_of (list vs) = kinds.List
kind_of (fixed vs) = kinds.FixedLengthList
kind_of (record_value fs) = kinds.Record
kind_of (tuple vs) = kinds.Tuple
kind_of (variant name payload) = kinds.Variant
kind_of (enum name) = kinds.Enum
kind_of (option payload) = kinds.Option
kind_of (ok payload) = kinds.Result
kind_of (err payload) = kinds.Result
kind_of (flags names) = kinds.Flags
kind_of (map es) = kinds.Map

-- ---- what a tree must keep to be a value of some type

-- the number is in its type's range, the scalar is one, the text is one
abbrev pub IsSound : Leaf → Type 0
IsSound (bool b) = Unit {0}
IsSound (whole kind z) = IsInRange kind z
IsSound (char c) = IsScalar c
IsSound (string s) = IsUtf8 s

-- the keys are of one kind: each later one of the kind of the first
abbrev pub AreOfOneKind : List (Leaf × Value) → Type 0
AreOfOneKind [] = Unit {0}
AreOfOneKind (e ∷ es) = AllOf (λ other. leaf_type other.0 ≡ leaf_type e.0) es

-- the numbers, scalars and texts of the value are sound, and in each map of it, inner ones too, all keys are of one kind
abbrev mutual
  pub IsWellFormed : Value → Type 0
  IsWellFormed (leaf one) = IsSound one
  IsWellFormed (unreadable kind) = Unit {0}
  IsWellFormed (list vs) = AreWellFormed vs
  IsWellFormed (fixed vs) = AreWellFormed vs
  IsWellFormed (record_value fs) = AreWellFormedFields fs
  IsWellFormed (tuple vs) = AreWellFormed vs
  IsWellFormed (variant name payload) = IsWellFormedMaybe payload
  IsWellFormed (enum name) = Unit {0}
  IsWellFormed (option payload) = IsWellFormedMaybe payload
  IsWellFormed (ok payload) = IsWellFormedMaybe payload
  IsWellFormed (err payload) = IsWellFormedMaybe payload
  IsWellFormed (flags names) = Unit {0}
  IsWellFormed (map es) = AreOfOneKind (entry_list es) × AreWellFormedEntries es

  -- so is a payload
  pub IsWellFormedMaybe : MaybeValue → Type 0
  IsWellFormedMaybe no_value = Unit {0}
  IsWellFormedMaybe (a_value v) = IsWellFormed v

  -- so is each item
  pub AreWellFormed : Values → Type 0
  AreWellFormed no_values = Unit {0}
  AreWellFormed (value_and v more) = IsWellFormed v × AreWellFormed more

  -- so is each field's value
  pub AreWellFormedFields : FieldValues → Type 0
  AreWellFormedFields no_fields = Unit {0}
  AreWellFormedFields (field name v more) = IsWellFormed v × AreWellFormedFields more

  -- so is each key and each entry's value
  pub AreWellFormedEntries : Entries → Type 0
  AreWellFormedEntries no_entries = Unit {0}
  AreWellFormedEntries (entry key v more) = IsSound key × IsWellFormed v × AreWellFormedEntries more

-- a payload, as an option
abbrev pub value_option : MaybeValue → Option Value
value_option no_value = None
value_option (a_value v) = Some v

-- how deep a value nests
abbrev mutual
  pub depth : Value → ℕ
  depth (leaf one) = 0
  depth (unreadable kind) = 0
  depth (list vs) = suc (depth_of_values vs)
  depth (fixed vs) = suc (depth_of_values vs)
  depth (record_value fs) = suc (depth_of_fields fs)
  depth (tuple vs) = suc (depth_of_values vs)
  depth (variant name payload) = suc (depth_of_maybe payload)
  depth (enum name) = 0
  depth (option payload) = suc (depth_of_maybe payload)
  depth (ok payload) = suc (depth_of_maybe payload)
  depth (err payload) = suc (depth_of_maybe payload)
  depth (flags names) = 0
  depth (map es) = suc (depth_of_entries es)

  -- how deep a payload nests
  pub depth_of_maybe : MaybeValue → ℕ
  depth_of_maybe no_value = 0
  depth_of_maybe (a_value v) = depth v

  -- how deep the deepest item nests
  pub depth_of_values : Values → ℕ
  depth_of_values no_values = 0
  depth_of_values (value_and v more) = max (depth v) (depth_of_values more)

  -- how deep the deepest field nests
  pub depth_of_fields : FieldValues → ℕ
  depth_of_fields no_fields = 0
  depth_of_fields (field name v more) = max (depth v) (depth_of_fields more)

  -- how deep the deepest entry nests; a key is no level
  pub depth_of_entries : Entries → ℕ
  depth_of_entries no_entries = 0
  depth_of_entries (entry key v more) = max (depth v) (depth_of_entries more)
