-- Reading a tape from left to right at a type, with the first fault that is met.
use Rattle.std.specs.Prelude.{ℕ, zero, suc, ℤ, pos, Bool, true, false, List, [], ◌∷◌, length, take, drop, Option, Some, None, Result, Ok, Err, nat_lt, ◌==◌, if◌then◌else◌}
use Rattle.std.specs.Int.{Width, w8, w32, w64, byte_len, from_le_bytes, cast_signed}
use Rattle.std.specs.Str.{bytes_eq, is_utf8}
use lib.Utf8.{scalar}
use Rattle.wave_wasm.specs.Names.{is_one_of}
use Rattle.wave_wasm.specs.Numbers.{is_signed}
use Rattle.wave_wasm.specs.Types as type
use Rattle.wave_wasm.specs.Types.{TypeTree, MaybeType, Types, Fields, Cases, Simple, Whole, no_type, a_type, no_types, type_and, no_cases, case_of}
use Rattle.wave_wasm.specs.Values as value
use Rattle.wave_wasm.specs.Values.{Value, MaybeValue, FieldValues, Leaf, no_value, a_value, values, entries}
use Rattle.wave_tape.specs.Tape.{width_of}
use Rattle.wave_tape.specs.declared.error.TapeErrorKind.{TapeErrorKind}
use Rattle.wave_tape.specs.declared.error.TapeErrorKind.TheVariants as kinds

-- a fault in the bytes: its kind, and how many bytes are left where it is
pub record Fault : Type 0 where
  pub kind : TapeErrorKind
  pub left : ℕ

-- what is read of the bytes: a part and the bytes behind it, or the first fault
abbrev pub Reading : Type 0 → Type 0
Reading A = Result (A × List ℕ) Fault

-- a fault of this kind, where these bytes are left
abbrev pub fault : TapeErrorKind → List ℕ → Fault
fault kind bytes = record { kind = kind; left = length bytes }

infixl 10 ◌>>=◌
abbrev pub ◌>>=◌ : {A B : Type 0} → Result A Fault → (A → Result B Fault) → Result B Fault
(Ok x) >>= f = f x
(Err e) >>= f = Err e

-- ---- parts of one token

-- a number of this width; `End` where fewer bytes are left
unfoldable pub number_at : Width → List ℕ → Reading ℕ
number_at w bytes = if nat_lt (length bytes) (byte_len w) then Err (fault kinds.End bytes) else Ok (from_le_bytes w (take (byte_len w) bytes), drop (byte_len w) bytes)

-- 0 or 1; another is `Byte`
unfoldable pub choice_at : List ℕ → Reading Bool
choice_at [] = Err (fault kinds.End [])
choice_at (zero ∷ rest) = Ok (false, rest)
choice_at (suc zero ∷ rest) = Ok (true, rest)
choice_at (suc (suc b) ∷ rest) = Err (fault kinds.Byte (suc (suc b) ∷ rest))

-- the byte 0, which stands for no parts; what is behind it
unfoldable pub zero_at : List ℕ → Result (List ℕ) Fault
zero_at [] = Err (fault kinds.End [])
zero_at (zero ∷ rest) = Ok rest
zero_at (suc b ∷ rest) = Err (fault kinds.Byte (suc b ∷ rest))

-- a name; `End` where fewer bytes are left than its count says
unfoldable pub name_at : List ℕ → Reading (List ℕ)
name_at bytes = do
  n ← number_at w64 bytes
  if nat_lt (length n.1) n.0 then Err (fault kinds.End n.1) else Ok (take n.0 n.1, drop n.0 n.1)

-- a text; bytes that are none are `Utf8`
unfoldable pub text_at : List ℕ → Reading (List ℕ)
text_at bytes = do
  s ← name_at bytes
  if is_utf8 s.0 then Ok s else Err (fault kinds.Utf8 bytes)

-- a scalar; another number is `Char`
unfoldable pub char_at : List ℕ → Reading ℕ
char_at bytes = do
  n ← number_at w32 bytes
  if scalar n.0 then Ok n else Err (fault kinds.Char bytes)

-- the number of a whole-number type that these bits stand for
abbrev pub whole_of : Whole → ℕ → ℤ
whole_of kind n = if is_signed kind then cast_signed (width_of kind) n else pos n

-- a value of one token
abbrev pub leaf_at : Simple → List ℕ → Reading Leaf
leaf_at type.bool bytes = choice_at bytes >>= λ x. Ok (value.bool x.0, x.1)
leaf_at (type.whole kind) bytes = number_at (width_of kind) bytes >>= λ x. Ok (value.whole kind (whole_of kind x.0), x.1)
leaf_at type.char bytes = char_at bytes >>= λ x. Ok (value.char x.0, x.1)
leaf_at type.string bytes = text_at bytes >>= λ x. Ok (value.string x.0, x.1)

-- ---- parts in turn

-- this many parts, one behind the other
abbrev pub times : {A : Type 0} → (List ℕ → Reading A) → ℕ → List ℕ → Reading (List A)
times read zero bytes = Ok ([], bytes)
times read (suc n) bytes = read bytes >>= λ first. times read n first.1 >>= λ others. Ok (first.0 ∷ others.0, others.1)

-- so of a fixed-length list, where 0 stands for none
abbrev pub row_at : (List ℕ → Reading Value) → ℕ → List ℕ → Reading (List Value)
row_at read zero bytes = zero_at bytes >>= λ rest. Ok ([], rest)
row_at read (suc n) bytes = times read (suc n) bytes

-- the names behind the first that is this one
abbrev pub names_behind : List (List ℕ) → List ℕ → Option (List (List ℕ))
names_behind [] name = None
names_behind (other ∷ names) name = if bytes_eq name other then Some names else names_behind names name

-- what there is, or else the fault
abbrev pub or_fault : {A : Type 0} → Option A → Fault → Result A Fault
or_fault None f = Err f
or_fault (Some x) f = Ok x

-- this many of the names, in their order; one that is none of those behind the one before it is `Name`
abbrev pub flags_at : List (List ℕ) → ℕ → List ℕ → Reading (List (List ℕ))
flags_at names zero bytes = Ok ([], bytes)
flags_at names (suc n) bytes =
    name_at bytes >>= λ name. or_fault (names_behind names name.0) (fault kinds.Name bytes)
    >>= λ later. flags_at later n name.1 >>= λ others. Ok (name.0 ∷ others.0, others.1)

-- a pair of parts
abbrev pub pair_at : {A B : Type 0} → (List ℕ → Reading A) → (List ℕ → Reading B) → List ℕ → Reading (A × B)
pair_at first second bytes = first bytes >>= λ a. second a.1 >>= λ b. Ok ((a.0, b.0), b.1)

-- ---- a value

abbrev mutual
  -- a value at the type
  pub value_at : TypeTree → List ℕ → Reading Value
  value_at (type.simple S) bytes = leaf_at S bytes >>= λ x. Ok (value.leaf x.0, x.1)
  value_at (type.unreadable kind) bytes = Err (fault kinds.Unsupported bytes)
  value_at (type.list E) bytes = number_at w64 bytes >>= λ n. times (value_at E) n.0 n.1 >>= λ x. Ok (value.list (values x.0), x.1)
  value_at (type.fixed E n) bytes = row_at (value_at E) n bytes >>= λ x. Ok (value.fixed (values x.0), x.1)
  value_at (type.record_type fs) bytes = field_row_at fs bytes >>= λ x. Ok (value.record_value x.0, x.1)
  value_at (type.tuple Ts) bytes = type_row_at Ts bytes >>= λ x. Ok (value.tuple (values x.0), x.1)
  value_at (type.variant cs) bytes = name_at bytes >>= λ name. case_at cs bytes name.0 name.1
  value_at (type.enum names) bytes = name_at bytes >>= λ name. if is_one_of names name.0 then Ok (value.enum name.0, name.1) else Err (fault kinds.Name bytes)
  value_at (type.option P) bytes = choice_at bytes >>= λ some. if some.0 then (value_at P some.1 >>= λ x. Ok (value.option (a_value x.0), x.1)) else Ok (value.option no_value, some.1)
  value_at (type.result A B) bytes = choice_at bytes >>= λ err. if err.0 then (payload_at B err.1 >>= λ x. Ok (value.err x.0, x.1)) else (payload_at A err.1 >>= λ x. Ok (value.ok x.0, x.1))
  value_at (type.flags names) bytes = number_at w64 bytes >>= λ n. flags_at names n.0 n.1 >>= λ x. Ok (value.flags x.0, x.1)
  value_at (type.map K V) bytes = number_at w64 bytes >>= λ n. times (pair_at (leaf_at K) (value_at V)) n.0 n.1 >>= λ x. Ok (value.map (entries x.0), x.1)

  -- a payload, where it has a type
  pub payload_at : MaybeType → List ℕ → Reading MaybeValue
  payload_at no_type bytes = Ok (no_value, bytes)
  payload_at (a_type T) bytes = value_at T bytes >>= λ x. Ok (a_value x.0, x.1)

  -- a value of each type
  pub types_at : Types → List ℕ → Reading (List Value)
  types_at no_types bytes = Ok ([], bytes)
  types_at (type_and T more) bytes = value_at T bytes >>= λ first. types_at more first.1 >>= λ others. Ok (first.0 ∷ others.0, others.1)

  -- so of a tuple, where 0 stands for none
  pub type_row_at : Types → List ℕ → Reading (List Value)
  type_row_at no_types bytes = zero_at bytes >>= λ rest. Ok ([], rest)
  type_row_at (type_and T more) bytes = value_at T bytes >>= λ first. types_at more first.1 >>= λ others. Ok (first.0 ∷ others.0, others.1)

  -- a value of each field
  pub fields_at : Fields → List ℕ → Reading FieldValues
  fields_at type.no_fields bytes = Ok (value.no_fields, bytes)
  fields_at (type.field name T more) bytes = value_at T bytes >>= λ first. fields_at more first.1 >>= λ others. Ok (value.field name first.0 others.0, others.1)

  -- so of a record, where 0 stands for none
  pub field_row_at : Fields → List ℕ → Reading FieldValues
  field_row_at type.no_fields bytes = zero_at bytes >>= λ rest. Ok (value.no_fields, rest)
  field_row_at (type.field name T more) bytes = value_at T bytes >>= λ first. fields_at more first.1 >>= λ others. Ok (value.field name first.0 others.0, others.1)

  -- the payload of the case of this name, which was read where `bytes` begin; `Name` where there is none
  pub case_at : Cases → List ℕ → List ℕ → List ℕ → Reading Value
  case_at no_cases bytes name rest = Err (fault kinds.Name bytes)
  case_at (case_of other P more) bytes name rest = if bytes_eq name other then (payload_at P rest >>= λ x. Ok (value.variant name x.0, x.1)) else case_at more bytes name rest

-- nothing is left
abbrev pub end_at : Value → List ℕ → Result Value Fault
end_at v [] = Ok v
end_at v (b ∷ rest) = Err (fault kinds.Trailing (b ∷ rest))

-- all of the bytes: the version, and a value at the type
abbrev pub tape_at : TypeTree → List ℕ → Result Value Fault
tape_at T bytes =
    number_at w8 bytes
    >>= λ version. if version.0 == 1 then (value_at T version.1 >>= λ x. end_at x.0 x.1) else Err (fault kinds.Version bytes)
