-- The tape of a value: the bytes by which it crosses to another language. Writer and reader know its type, so nothing of the type is told.
-- Numbers have their lowest byte first, and nothing is aligned. A count is a number of 8 bytes. A name or a text is the count of its bytes, and these.
use Rattle.std.specs.Prelude.{ℕ, List, [], ◌∷◌, ◌++◌, length}
use Rattle.std.specs.List.{flat_map}
use Rattle.std.specs.Int.{Width, w8, w16, w32, w64, to_le_bytes, cast_unsigned, from_bool}
use Rattle.wave_wasm.specs.Types.{Whole, s8, s16, s32, s64, u8, u16, u32, u64}
use Rattle.wave_wasm.specs.Values as value
use Rattle.wave_wasm.specs.Values.{Value, MaybeValue, Values, FieldValues, Entries, Leaf, no_value, a_value, no_values, value_and, no_fields, field, no_entries, entry, value_list, entry_list}

-- a count
abbrev pub count_bytes : ℕ → List ℕ
count_bytes n = to_le_bytes w64 n

-- a name or a text
abbrev pub text_bytes : List ℕ → List ℕ
text_bytes s = count_bytes (length s) ++ s

-- how wide a whole-number type is
abbrev pub width_of : Whole → Width
width_of s8 = w8
width_of s16 = w16
width_of s32 = w32
width_of s64 = w64
width_of u8 = w8
width_of u16 = w16
width_of u32 = w32
width_of u64 = w64

-- a value of one token: a bool is 0 or 1, a whole number has as many bytes as its type is wide, a negative one in two's complement, a scalar has 4
abbrev pub leaf_bytes : Leaf → List ℕ
leaf_bytes (value.bool b) = from_bool b ∷ []
leaf_bytes (value.whole kind z) = to_le_bytes (width_of kind) (cast_unsigned (width_of kind) z)
leaf_bytes (value.char c) = to_le_bytes w32 c
leaf_bytes (value.string s) = text_bytes s

-- names, one behind the other
abbrev pub name_bytes : List (List ℕ) → List ℕ
name_bytes [] = []
name_bytes (name ∷ names) = text_bytes name ++ name_bytes names

abbrev mutual
  -- a value within a tape. A list is the count of its items, and these; a fixed-length list and a tuple are their items, a record the values of its fields,
  -- a variant the name of its case and the payload, an enum a name, an option 0, or 1 and the payload, a result 0 for ok, 1 for err, and the payload;
  -- flags are the count of their names, and these; a map is the count of its entries, and these, each a key and a value
  pub bytes_of : Value → List ℕ
  bytes_of (value.leaf one) = leaf_bytes one
  bytes_of (value.unreadable kind) = []
  bytes_of (value.list vs) = count_bytes (length (value_list vs)) ++ item_bytes vs
  bytes_of (value.fixed vs) = row_bytes vs
  bytes_of (value.tuple vs) = row_bytes vs
  bytes_of (value.record_value fs) = field_row_bytes fs
  bytes_of (value.variant name payload) = text_bytes name ++ payload_bytes payload
  bytes_of (value.enum name) = text_bytes name
  bytes_of (value.option no_value) = 0 ∷ []
  bytes_of (value.option (a_value v)) = 1 ∷ bytes_of v
  bytes_of (value.ok payload) = 0 ∷ payload_bytes payload
  bytes_of (value.err payload) = 1 ∷ payload_bytes payload
  bytes_of (value.flags names) = count_bytes (length names) ++ name_bytes names
  bytes_of (value.map es) = count_bytes (length (entry_list es)) ++ entry_bytes es

  -- a payload, where there is one
  pub payload_bytes : MaybeValue → List ℕ
  payload_bytes no_value = []
  payload_bytes (a_value v) = bytes_of v

  -- the items, one behind the other
  pub item_bytes : Values → List ℕ
  item_bytes no_values = []
  item_bytes (value_and v more) = bytes_of v ++ item_bytes more

  -- so of a fixed-length list or a tuple; 0 where there are none, so that each value has a byte
  pub row_bytes : Values → List ℕ
  row_bytes no_values = 0 ∷ []
  row_bytes (value_and v more) = bytes_of v ++ item_bytes more

  -- the values of the fields, one behind the other
  pub field_bytes : FieldValues → List ℕ
  field_bytes no_fields = []
  field_bytes (field name v more) = bytes_of v ++ field_bytes more

  -- so of a record; 0 where there are none
  pub field_row_bytes : FieldValues → List ℕ
  field_row_bytes no_fields = 0 ∷ []
  field_row_bytes (field name v more) = bytes_of v ++ field_bytes more

  -- the keys, each with its value
  pub entry_bytes : Entries → List ℕ
  entry_bytes no_entries = []
  entry_bytes (entry key v more) = leaf_bytes key ++ (bytes_of v ++ entry_bytes more)

-- the tape of a value: the version, 1, and the value
abbrev pub tape : Value → List ℕ
tape v = 1 ∷ bytes_of v

-- the tape of a call: the version, 1, the name of the function, and the arguments, one behind the other
abbrev pub call_tape : List ℕ → List Value → List ℕ
call_tape name vs = 1 ∷ (text_bytes name ++ flat_map bytes_of vs)
