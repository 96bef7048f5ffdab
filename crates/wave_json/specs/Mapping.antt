-- The JSON of a value.
use Rattle.std.specs.Prelude.{ℕ, Bool, true, false, List, [], ◌∷◌, codes, if◌then◌else◌}
use Rattle.std.specs.Char.{encode_utf8}
use Rattle.std.specs.Fmt.{signed_decimal}
use Rattle.json.specs.Json as json
use Rattle.json.specs.Json.{Json, Items, Members, no_items, item, no_members, member}
use Rattle.json.specs.Print.{print}
use Rattle.json.specs.Tree.{json_tokens}
use Rattle.wave_wasm.specs.Values as value
use Rattle.wave_wasm.specs.Values.{Value, MaybeValue, Values, FieldValues, Entries, Leaf, no_value, a_value, no_values, value_and, no_fields, field, no_entries, entry}
use Rattle.wave_wasm.specs.Merge.{merged}
use Rattle.wave_wasm.specs.Text.{is_no_option}

-- a value of one token: a bool, a whole number in decimal, a scalar and a text as strings
abbrev pub leaf_json : Leaf → Json
leaf_json (value.bool b) = json.boolean b
leaf_json (value.whole kind z) = json.number (signed_decimal z)
leaf_json (value.char c) = json.string (encode_utf8 c)
leaf_json (value.string s) = json.string s

-- names, as strings
abbrev pub name_items : List (List ℕ) → Items
name_items [] = no_items
name_items (name ∷ names) = item (json.string name) (name_items names)

-- an object of one member
abbrev pub one_member : List ℕ → Json → Json
one_member name j = json.object (member name j no_members)

-- an array of a key and its value
abbrev pub pair_json : Json → Json → Json
pair_json key j = json.array (item key (item j no_items))

-- the value is an option
abbrev pub is_option : Value → Bool
is_option (value.option payload) = true
is_option _ = false

-- the text of a key that is a string
abbrev pub key_name : Leaf → List ℕ
key_name (value.string s) = s
key_name _ = []

abbrev mutual
  -- A value whose maps are merged. What has no text has no JSON, and stands here as `null`.
  pub plain_json : Value → Json
  plain_json (value.leaf one) = leaf_json one
  plain_json (value.unreadable kind) = json.null
  plain_json (value.list vs) = json.array (value_items vs)
  plain_json (value.fixed vs) = json.array (value_items vs)
  plain_json (value.tuple vs) = json.array (value_items vs)
  plain_json (value.record_value fs) = json.object (field_members fs)
  plain_json (value.variant name payload) = case_json name payload
  plain_json (value.enum name) = json.string name
  plain_json (value.option payload) = option_json payload
  plain_json (value.ok payload) = case_json (codes "ok") payload
  plain_json (value.err payload) = case_json (codes "err") payload
  plain_json (value.flags names) = json.array (name_items names)
  plain_json (value.map es) = map_json es

  -- the items of an array
  pub value_items : Values → Items
  value_items no_values = no_items
  value_items (value_and v more) = item (plain_json v) (value_items more)

  -- a member for each field whose value isn't `none`
  pub field_members : FieldValues → Members
  field_members no_fields = no_members
  field_members (field name v more) = if is_no_option v then field_members more else member name (plain_json v) (field_members more)

  -- the name of a case; with its payload an object of that one member
  pub case_json : List ℕ → MaybeValue → Json
  case_json name no_value = json.string name
  case_json name (a_value v) = one_member name (plain_json v)

  -- `null` or the payload, which stands in an object where it is an option too
  pub option_json : MaybeValue → Json
  option_json no_value = json.null
  option_json (a_value v) = if is_option v then one_member (codes "some") (plain_json v) else plain_json v

  -- an object where the first key is a string or there is none, else an array of pairs
  pub map_json : Entries → Json
  map_json no_entries = json.object no_members
  map_json (entry (value.string s) v more) = json.object (member s (plain_json v) (entry_members more))
  map_json (entry key v more) = json.array (item (pair_json (leaf_json key) (plain_json v)) (entry_items more))

  -- a member for each entry
  pub entry_members : Entries → Members
  entry_members no_entries = no_members
  entry_members (entry key v more) = member (key_name key) (plain_json v) (entry_members more)

  -- a pair for each entry
  pub entry_items : Entries → Items
  entry_items no_entries = no_items
  entry_items (entry key v more) = item (pair_json (leaf_json key) (plain_json v)) (entry_items more)

-- the JSON of a value: its maps are merged first
abbrev pub json_of : Value → Json
json_of v = plain_json (merged v)

-- its text, without spaces
abbrev pub json_text : Value → List ℕ
json_text v = print (json_tokens (json_of v))
