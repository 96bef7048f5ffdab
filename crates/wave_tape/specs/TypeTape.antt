-- The tape of a type and of a function's type: the bytes by which they cross to another language. Counts and names are those of a value's tape.
use Rattle.std.specs.Prelude.{ℕ, ◌^◌, nat_lt, Bool, true, false, ◌&&◌, List, [], ◌∷◌, ◌++◌, length}
use Rattle.std.specs.List.{list_all}
use Rattle.wave_wasm.specs.Types.{Simple, bool, whole, char, string, s8, s16, s32, s64, u8, u16, u32, u64}
use Rattle.wave_wasm.specs.Types.{f32, f64, unsupported}
use Rattle.wave_wasm.specs.Types.{TypeTree, simple, unreadable, list, fixed, record_type, tuple, variant, enum, option, result, flags, map}
use Rattle.wave_wasm.specs.Types.{MaybeType, no_type, a_type, Types, no_types, type_and, Fields, no_fields, field, Cases, no_cases, case_of}
use Rattle.wave_wasm.specs.Types.{type_list, field_list, case_list, every}
use Rattle.wave_wasm.specs.TypeText.{Func}
use Rattle.wave_tape.specs.Tape.{count_bytes, text_bytes, name_bytes}

-- the byte of a type whose values are one token
abbrev pub simple_byte : Simple → ℕ
simple_byte bool = 1
simple_byte (whole u8) = 2
simple_byte (whole u16) = 3
simple_byte (whole u32) = 4
simple_byte (whole u64) = 5
simple_byte (whole s8) = 6
simple_byte (whole s16) = 7
simple_byte (whole s32) = 8
simple_byte (whole s64) = 9
simple_byte char = 10
simple_byte string = 11

abbrev mutual
  -- a type within a tape: a byte for its kind, which is never given to another, and its parts.
  -- Parts that are many have their count before them; a field has its name before its type, a case its name before its payload;
  -- a fixed-length list has its length before its items' type. What is unsupported has no bytes
  pub type_bytes : TypeTree → List ℕ
  type_bytes (simple S) = simple_byte S ∷ []
  type_bytes (list E) = 12 ∷ type_bytes E
  type_bytes (tuple Ts) = 13 ∷ (count_bytes (length (type_list Ts)) ++ item_type_bytes Ts)
  type_bytes (record_type fs) = 14 ∷ (count_bytes (length (field_list fs)) ++ field_type_bytes fs)
  type_bytes (variant cs) = 15 ∷ (count_bytes (length (case_list cs)) ++ case_type_bytes cs)
  type_bytes (enum names) = 16 ∷ (count_bytes (length names) ++ name_bytes names)
  type_bytes (option P) = 17 ∷ type_bytes P
  type_bytes (result A B) = 18 ∷ (payload_type_bytes A ++ payload_type_bytes B)
  type_bytes (flags names) = 19 ∷ (count_bytes (length names) ++ name_bytes names)
  type_bytes (map K V) = 20 ∷ (simple_byte K ∷ type_bytes V)
  type_bytes (fixed E n) = 21 ∷ (count_bytes n ++ type_bytes E)
  type_bytes (unreadable f32) = 22 ∷ []
  type_bytes (unreadable f64) = 23 ∷ []
  type_bytes (unreadable unsupported) = []

  -- a payload's type: 0 where there is none, or 1 and the type
  pub payload_type_bytes : MaybeType → List ℕ
  payload_type_bytes no_type = 0 ∷ []
  payload_type_bytes (a_type T) = 1 ∷ type_bytes T

  -- the types of a tuple, one behind the other
  pub item_type_bytes : Types → List ℕ
  item_type_bytes no_types = []
  item_type_bytes (type_and T more) = type_bytes T ++ item_type_bytes more

  -- the fields, each its name and its type
  pub field_type_bytes : Fields → List ℕ
  field_type_bytes no_fields = []
  field_type_bytes (field name T more) = text_bytes name ++ (type_bytes T ++ field_type_bytes more)

  -- the cases, each its name and its payload
  pub case_type_bytes : Cases → List ℕ
  case_type_bytes no_cases = []
  case_type_bytes (case_of name payload more) = text_bytes name ++ (payload_type_bytes payload ++ case_type_bytes more)

-- the tape of a type: the version, 1, and the type
abbrev pub type_tape : TypeTree → List ℕ
type_tape T = 1 ∷ type_bytes T

-- neither unsupported nor longer than a u32 can say
abbrev pub is_told : TypeTree → Bool
is_told (unreadable unsupported) = false
is_told (fixed E n) = nat_lt n (2 ^ 32)
is_told _ = true

-- so is each part of the type
abbrev pub has_type_tape : TypeTree → Bool
has_type_tape T = every is_told T

-- ---- functions

-- each type behind its name, which is empty where there is none
abbrev pub named_type_bytes : List (List ℕ) → List TypeTree → List ℕ
named_type_bytes names [] = []
named_type_bytes [] (T ∷ Ts) = text_bytes [] ++ (type_bytes T ++ named_type_bytes [] Ts)
named_type_bytes (name ∷ names) (T ∷ Ts) = text_bytes name ++ (type_bytes T ++ named_type_bytes names Ts)

-- the count of the types, and each behind its name
abbrev pub counted_type_bytes : List (List ℕ) → List TypeTree → List ℕ
counted_type_bytes names Ts = count_bytes (length Ts) ++ named_type_bytes names Ts

-- the tape of a function's type: the version, 1, the parameters and the results
abbrev pub func_tape : Func → List ℕ
func_tape f = 1 ∷ (counted_type_bytes f.param_names f.params ++ counted_type_bytes f.result_names f.results)

-- each of its types has a tape
abbrev pub has_func_tape : Func → Bool
has_func_tape f = list_all has_type_tape f.params && list_all has_type_tape f.results
