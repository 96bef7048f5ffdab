-- Reading JSON at a type, with the first fault that is met.
use Rattle.std.specs.Prelude.{ℕ, suc, ℤ, pos, negsuc, Bool, true, false, List, [], ◌∷◌, ◌++◌, map, codes, ◌^◌, Option, Some, None, option_map, option_and_then, Result, Ok, Err, nat_lt, ◌==◌, if◌then◌else◌}
use Rattle.std.specs.Fmt.{decimal}
use Rattle.std.specs.Str.{bytes_eq, chars}
use Rattle.json.specs.Json as json
use Rattle.json.specs.Json.{Json, Items, Members, no_items, item, no_members, member, document}
use Rattle.json.specs.Find.{is_null, as_bool, as_number, as_str, as_array, as_object}
use Rattle.wave_grammar.specs.NumberText.{whole_text}
use Rattle.wave_wasm.specs.Names.{is_one_of, found_in}
use Rattle.wave_wasm.specs.Text.{leaf_text}
use Rattle.wave_wasm.specs.Types as type
use Rattle.wave_wasm.specs.Types.{TypeTree, MaybeType, Types, Fields, Cases, Simple, Whole, no_type, a_type, no_types, type_and, no_cases, case_of, count_of, field_names}
use Rattle.wave_wasm.specs.Values as value
use Rattle.wave_wasm.specs.Values.{Value, MaybeValue, FieldValues, Leaf, no_value, a_value, values, entries}
use Rattle.wave_json.specs.declared.error.JsonErrorKind.{JsonErrorKind}
use Rattle.wave_json.specs.declared.error.JsonErrorKind.TheVariants as kinds

-- a fault: its kind, and the path to the part that has it
pub record Fault : Type 0 where
  pub kind : JsonErrorKind
  pub path : List ℕ

-- what is read: a part, or the first fault
abbrev pub Reading : Type 0 → Type 0
Reading A = Result A Fault

-- a fault of this kind in the part itself
abbrev pub here : JsonErrorKind → Fault
here kind = record { kind = kind; path = [] }

infixl 10 ◌>>=◌
abbrev pub ◌>>=◌ : {A B : Type 0} → Reading A → (A → Reading B) → Reading B
(Ok x) >>= f = f x
(Err e) >>= f = Err e

-- what there is, or else a fault of this kind
abbrev pub or_fault : {A : Type 0} → Option A → JsonErrorKind → Reading A
or_fault None kind = Err (here kind)
or_fault (Some x) kind = Ok x

-- ---- paths

-- `[n]`, the path to an item of an array
abbrev pub item_step : ℕ → List ℕ
item_step n = codes "[" ++ (decimal n ++ codes "]")

-- `.name`, the path to a member of an object
abbrev pub member_step : List ℕ → List ℕ
member_step name = codes "." ++ name

-- what is read of a part to which this step leads
abbrev pub under : {A : Type 0} → List ℕ → Reading A → Reading A
under step (Ok x) = Ok x
under step (Err e) = Err (record { kind = e.kind; path = step ++ e.path })

-- ---- values of one token

-- from minus half up to, but without, half
abbrev pub is_signed_within : ℕ → ℤ → Bool
is_signed_within half (pos n) = nat_lt n half
is_signed_within half (negsuc n) = nat_lt n half

-- from zero up to, but without, the end
abbrev pub is_unsigned_within : ℕ → ℤ → Bool
is_unsigned_within end (pos n) = nat_lt n end
is_unsigned_within end (negsuc n) = false

-- the number is one of the type's
abbrev pub is_in_range : Whole → ℤ → Bool
is_in_range type.s8 z = is_signed_within (2 ^ 7) z
is_in_range type.s16 z = is_signed_within (2 ^ 15) z
is_in_range type.s32 z = is_signed_within (2 ^ 31) z
is_in_range type.s64 z = is_signed_within (2 ^ 63) z
is_in_range type.u8 z = is_unsigned_within (2 ^ 8) z
is_in_range type.u16 z = is_unsigned_within (2 ^ 16) z
is_in_range type.u32 z = is_unsigned_within (2 ^ 32) z
is_in_range type.u64 z = is_unsigned_within (2 ^ 64) z

-- the number of the type that a number's text is: without point and exponent, and a minus only where the type is signed
abbrev pub whole_of : Whole → List ℕ → Option ℤ
whole_of kind s = option_and_then (λ z. if is_in_range kind z then Some z else None) (whole_text kind s)

-- the scalar that a text is, where it is one
abbrev pub only_scalar : List ℕ → Option ℕ
only_scalar [] = None
only_scalar (c ∷ []) = Some c
only_scalar (c ∷ d ∷ cs) = None

-- a whole number of the type
abbrev pub whole_at : Whole → Json → Reading ℤ
whole_at kind j = or_fault (as_number j) kinds.Mismatch >>= λ s. or_fault (whole_of kind s) kinds.Number

-- a value of one token
abbrev pub leaf_at : Simple → Json → Reading Leaf
leaf_at type.bool j = or_fault (as_bool j) kinds.Mismatch >>= λ b. Ok (value.bool b)
leaf_at (type.whole kind) j = whole_at kind j >>= λ z. Ok (value.whole kind z)
leaf_at type.char j = or_fault (as_str j) kinds.Mismatch >>= λ s. or_fault (only_scalar (chars s)) kinds.Char >>= λ c. Ok (value.char c)
leaf_at type.string j = or_fault (as_str j) kinds.Mismatch >>= λ s. Ok (value.string s)

-- ---- arrays

-- how many items there are
abbrev pub items_count : Items → ℕ
items_count no_items = 0
items_count (item j js) = suc (items_count js)

-- each item in turn, from place n on
abbrev pub each_at : {A : Type 0} → (Json → Reading A) → ℕ → Items → Reading (List A)
each_at read n no_items = Ok []
each_at read n (item j js) = under (item_step n) (read j) >>= λ x. each_at read (suc n) js >>= λ xs. Ok (x ∷ xs)

-- a text
abbrev pub text_at : Json → Reading (List ℕ)
text_at j = or_fault (as_str j) kinds.Mismatch

-- a name, one of these
abbrev pub name_at : List (List ℕ) → Json → Reading (List ℕ)
name_at names j = text_at j >>= λ name. if is_one_of names name then Ok name else Err (here kinds.Unknown)

-- two parts, of an array of two items
abbrev pub both_at : {A B : Type 0} → (Json → Reading A) → (Json → Reading B) → Items → Reading (A × B)
both_at first second (item j (item k no_items)) = under (item_step 0) (first j) >>= λ a. under (item_step 1) (second k) >>= λ b. Ok (a, b)
both_at first second _ = Err (here kinds.Length)

-- so of JSON that is such an array
abbrev pub pair_at : {A B : Type 0} → (Json → Reading A) → (Json → Reading B) → Json → Reading (A × B)
pair_at first second j = or_fault (as_array j) kinds.Mismatch >>= both_at first second

-- ---- names that stand once

-- the place of the first of the names that stood before, from place n on, where these stood
abbrev pub repeated_behind : List (List ℕ) → ℕ → List (List ℕ) → Option (ℕ × List ℕ)
repeated_behind before n [] = None
repeated_behind before n (name ∷ names) = if is_one_of before name then Some (n, name) else repeated_behind (name ∷ before) (suc n) names

-- the first name that stood before, and its place
abbrev pub first_repeated : List (List ℕ) → Option (ℕ × List ℕ)
first_repeated names = repeated_behind [] 0 names

-- a fault of this kind at the step to the part, where there is such a part
abbrev pub unless_found : {A B : Type 0} → JsonErrorKind → (A → List ℕ) → Option A → B → Reading B
unless_found kind step None x = Ok x
unless_found kind step (Some a) x = under (step a) (Err (here kind))

-- ---- objects

-- the names of the members, in their order
abbrev pub member_names : Members → List (List ℕ)
member_names no_members = []
member_names (member k j ms) = k ∷ member_names ms

-- the members, none of which has the name of another
abbrev pub distinct_members : Members → Reading Members
distinct_members ms = unless_found kinds.Repeated (λ r. member_step r.1) (first_repeated (member_names ms)) ms

-- the first of the second names that is none of the first
abbrev pub first_unknown : List (List ℕ) → List (List ℕ) → Option (List ℕ)
first_unknown names [] = None
first_unknown names (k ∷ ks) = if is_one_of names k then first_unknown names ks else Some k

-- the members, each of which has one of the names
abbrev pub known_members : List (List ℕ) → Members → Reading Members
known_members names ms = unless_found kinds.Unknown member_step (first_unknown names (member_names ms)) ms

-- the first member of this name
abbrev pub member_of : List ℕ → Members → Option Json
member_of name no_members = None
member_of name (member k j ms) = if bytes_eq name k then Some j else member_of name ms

-- each member's value, with its name
abbrev pub members_at : (Json → Reading Value) → Members → Reading (List (Leaf × Value))
members_at read no_members = Ok []
members_at read (member k j ms) = under (member_step k) (read j) >>= λ v. members_at read ms >>= λ es. Ok ((value.string k, v) ∷ es)

-- the name and the value of the only member
abbrev pub sole_member : Members → Option (List ℕ × Json)
sole_member no_members = None
sole_member (member name j no_members) = Some (name, j)
sole_member (member name j (member other k ms)) = None

-- a case: its name, with the payload where it has one
abbrev pub json_case : Json → Option (List ℕ × Option Json)
json_case (json.string name) = Some (name, None)
json_case (json.object ms) = option_map (λ m. (m.0, Some m.1)) (sole_member ms)
json_case _ = None

-- the payload of `{"some": ..}`
abbrev pub json_some : Json → Option Json
json_some (json.object ms) = option_and_then (λ m. if bytes_eq m.0 (codes "some") then Some m.1 else None) (sole_member ms)
json_some _ = None

-- the payload of `some`: in an object where it is an option
abbrev pub some_at : Bool → (Json → Reading Value) → Json → Reading Value
some_at true read j = or_fault (json_some j) kinds.Mismatch >>= λ k. under (member_step (codes "some")) (read k)
some_at false read j = read j

-- the type is an option
abbrev pub is_option_type : TypeTree → Bool
is_option_type (type.option P) = true
is_option_type _ = false

-- a field that is left out
abbrev pub left_out : TypeTree → List ℕ → Reading Value
left_out (type.option P) name = Ok (value.option no_value)
left_out _ name = under (member_step name) (Err (here kinds.Missing))

-- a field: its member, read, or what stands for it where it is left out
abbrev pub field_at : (Json → Reading Value) → Reading Value → List ℕ → Option Json → Reading Value
field_at read otherwise name None = otherwise
field_at read otherwise name (Some j) = under (member_step name) (read j)

-- ---- maps

-- the entries, none of which has the key of another
abbrev pub distinct_entries : List (Leaf × Value) → Reading (List (Leaf × Value))
distinct_entries es = unless_found kinds.Repeated (λ r. item_step r.0) (first_repeated (map (λ e. leaf_text e.0) es)) es

-- a map's array of pairs, or an object without members
abbrev pub pairs_of : Json → Reading Items
pairs_of (json.object no_members) = Ok no_items
pairs_of j = or_fault (as_array j) kinds.Mismatch

-- the entries of a map: an object at string keys, else pairs
abbrev pub entries_at : Simple → (Json → Reading Value) → Json → Reading (List (Leaf × Value))
entries_at type.string read j = or_fault (as_object j) kinds.Mismatch >>= distinct_members >>= members_at read
entries_at K read j = pairs_of j >>= each_at (pair_at (leaf_at K) read) 0 >>= distinct_entries

-- ---- a value

abbrev mutual
  -- a value at the type
  pub value_at : TypeTree → Json → Reading Value
  value_at (type.simple S) j = leaf_at S j >>= λ one. Ok (value.leaf one)
  value_at (type.unreadable kind) j = Err (here kinds.Unsupported)
  value_at (type.list E) j = or_fault (as_array j) kinds.Mismatch >>= λ js. each_at (value_at E) 0 js >>= λ vs. Ok (value.list (values vs))
  value_at (type.fixed E n) j =
      or_fault (as_array j) kinds.Mismatch
      >>= λ js. if items_count js == n then (each_at (value_at E) 0 js >>= λ vs. Ok (value.fixed (values vs))) else Err (here kinds.Length)
  value_at (type.tuple Ts) j =
      or_fault (as_array j) kinds.Mismatch
      >>= λ js. if items_count js == count_of Ts then (types_at Ts 0 js >>= λ vs. Ok (value.tuple (values vs))) else Err (here kinds.Length)
  value_at (type.record_type fs) j =
      or_fault (as_object j) kinds.Mismatch >>= distinct_members >>= known_members (field_names fs)
      >>= λ ms. fields_at fs ms >>= λ all. Ok (value.record_value all)
  value_at (type.variant cs) j = or_fault (json_case j) kinds.Mismatch >>= λ c. case_at cs c.0 c.1
  value_at (type.enum names) j = name_at names j >>= λ name. Ok (value.enum name)
  value_at (type.option P) j =
      if is_null j then Ok (value.option no_value)
      else (some_at (is_option_type P) (value_at P) j >>= λ v. Ok (value.option (a_value v)))
  value_at (type.result A B) j =
      or_fault (json_case j) kinds.Mismatch
      >>= λ c. if bytes_eq c.0 (codes "ok") then (payload_at A (codes "ok") c.1 >>= λ p. Ok (value.ok p))
      else (if bytes_eq c.0 (codes "err") then (payload_at B (codes "err") c.1 >>= λ p. Ok (value.err p)) else Err (here kinds.Unknown))
  value_at (type.flags names) j =
      or_fault (as_array j) kinds.Mismatch >>= each_at (name_at names) 0
      >>= λ given. unless_found kinds.Repeated (λ r. item_step r.0) (first_repeated given) (value.flags (found_in given names))
  value_at (type.map K V) j = entries_at K (value_at V) j >>= λ es. Ok (value.map (entries es))

  -- a value of each type, from place n on
  pub types_at : Types → ℕ → Items → Reading (List Value)
  types_at no_types n js = Ok []
  types_at (type_and T more) n no_items = Err (here kinds.Length)
  types_at (type_and T more) n (item j js) = under (item_step n) (value_at T j) >>= λ v. types_at more (suc n) js >>= λ vs. Ok (v ∷ vs)

  -- a value of each field
  pub fields_at : Fields → Members → Reading FieldValues
  fields_at type.no_fields ms = Ok value.no_fields
  fields_at (type.field name T more) ms =
      field_at (value_at T) (left_out T name) name (member_of name ms) >>= λ v. fields_at more ms >>= λ others. Ok (value.field name v others)

  -- the case of this name
  pub case_at : Cases → List ℕ → Option Json → Reading Value
  case_at no_cases name payload = Err (here kinds.Unknown)
  case_at (case_of other P more) name payload = if bytes_eq name other then (payload_at P name payload >>= λ p. Ok (value.variant name p)) else case_at more name payload

  -- a payload, which is there exactly where it has a type
  pub payload_at : MaybeType → List ℕ → Option Json → Reading MaybeValue
  payload_at no_type name None = Ok no_value
  payload_at no_type name (Some j) = Err (here kinds.Payload)
  payload_at (a_type T) name None = Err (here kinds.Payload)
  payload_at (a_type T) name (Some j) = under (member_step name) (value_at T j) >>= λ v. Ok (a_value v)

-- the value at the type that a text is
abbrev pub json_at : TypeTree → List ℕ → Reading Value
json_at T text = or_fault (document text) kinds.Syntax >>= value_at T
