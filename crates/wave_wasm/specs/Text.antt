-- The canonical text of a value.
use Rattle.std.specs.Prelude.{ℕ, List, [], ◌∷◌, ◌++◌, Bool, true, false, not, ◌&&◌, ◌==◌, if◌then◌else◌, codes, map}
use Rattle.std.specs.Char.{encode_utf8}
use Rattle.std.specs.Fmt.{digits, signed_decimal}
use Rattle.std.specs.List.{flat_map}
use Rattle.std.specs.Str.{chars}
use Rattle.ucd_category.specs.GeneralCategory.{general_category}
use Rattle.ucd_category.specs.declared.GeneralCategory.{GeneralCategory}
use Rattle.ucd_category.specs.declared.GeneralCategory.TheVariants.{NonspacingMark, EnclosingMark, SpaceSeparator, LineSeparator}
use Rattle.ucd_category.specs.declared.GeneralCategory.TheVariants.{ParagraphSeparator, Control, Format, PrivateUse, Unassigned}
use Rattle.wave_wasm.specs.Values as value
use Rattle.wave_wasm.specs.Values.{Leaf, Value, MaybeValue, Values, FieldValues, Entries}
use Rattle.wave_wasm.specs.Values.{no_value, a_value, no_values, value_and, no_fields, field, no_entries, entry}
use Rattle.wave_wasm.specs.Merge.{merged}
use Rattle.wave_wasm.specs.Keywords.{case_label}
use Rattle.wave_wasm.specs.Commas.{joined, behind_name, in_parens, in_brackets, in_braces}

-- ---- chars and strings

-- the general categories Cc, Cf, Co, Cn, Zl, Zp, Mn, Me and Zs
abbrev pub is_hidden : GeneralCategory → Bool
is_hidden Control = true
is_hidden Format = true
is_hidden PrivateUse = true
is_hidden Unassigned = true
is_hidden LineSeparator = true
is_hidden ParagraphSeparator = true
is_hidden NonspacingMark = true
is_hidden EnclosingMark = true
is_hidden SpaceSeparator = true
is_hidden _ = false

-- a scalar that is written by its number: of those categories, and not the space
abbrev pub is_escaped : ℕ → Bool
is_escaped c = is_hidden (general_category c) && not (c == 0x20)

-- how a scalar stands in a char or string: `\\`, `\"`, `\'`, `\t`, `\r`, `\n`, `\u{h}`, or itself
unfoldable pub escaped : ℕ → List ℕ
escaped c =
    if c == 0x5c then codes "\\\\"
    else (if c == 0x22 then codes "\\\""
    else (if c == 0x27 then codes "\\'"
    else (if c == 0x09 then codes "\\t"
    else (if c == 0x0d then codes "\\r"
    else (if c == 0x0a then codes "\\n"
    else (if is_escaped c then codes "\\u{" ++ (digits 16 false c ++ codes "}")
    else encode_utf8 c))))))

-- a scalar between single quotes
abbrev pub quoted_char : ℕ → List ℕ
quoted_char c = codes "'" ++ (escaped c ++ codes "'")

-- a text between double quotes
abbrev pub quoted : List ℕ → List ℕ
quoted s = codes "\"" ++ (flat_map escaped (chars s) ++ codes "\"")

-- the text of a bool
abbrev pub bool_text : Bool → List ℕ
bool_text true = codes "true"
bool_text false = codes "false"

-- the text of a value of one token
abbrev pub leaf_text : Leaf → List ℕ
leaf_text (value.bool b) = bool_text b
leaf_text (value.whole kind z) = signed_decimal z
leaf_text (value.char c) = quoted_char c
leaf_text (value.string s) = quoted s

-- ---- values

-- the value is `none`
abbrev pub is_no_option : Value → Bool
is_no_option (value.option no_value) = true
is_no_option _ = false

-- a record's fields in braces; `{:}` where none is left
abbrev pub record_text : List (List ℕ) → List ℕ
record_text [] = codes "{:}"
record_text (s ∷ ss) = in_braces (joined (s ∷ ss))

-- The text of a value as it stands, without merging. A leaf that has no text stands here as nothing: `is_writable` is false of such a value.
abbrev mutual
  pub printed : Value → List ℕ
  printed (value.leaf one) = leaf_text one
  printed (value.unreadable kind) = []
  printed (value.list vs) = in_brackets (joined (printed_items vs))
  printed (value.fixed vs) = in_brackets (joined (printed_items vs))
  printed (value.record_value fs) = record_text (printed_fields fs)
  printed (value.tuple vs) = in_parens (joined (printed_items vs))
  printed (value.variant name payload) = case_label name ++ printed_payload payload
  printed (value.enum name) = case_label name
  printed (value.option payload) = printed_option payload
  printed (value.ok payload) = codes "ok" ++ printed_payload payload
  printed (value.err payload) = codes "err" ++ printed_payload payload
  printed (value.flags names) = in_braces (joined names)
  printed (value.map es) = in_braces (joined (printed_entries es))

  -- the texts of the items
  pub printed_items : Values → List (List ℕ)
  printed_items no_values = []
  printed_items (value_and v more) = printed v ∷ printed_items more

  -- `f: a` for each field whose value isn't `none`
  pub printed_fields : FieldValues → List (List ℕ)
  printed_fields no_fields = []
  printed_fields (field name v more) = if is_no_option v then printed_fields more else behind_name name (printed v) ∷ printed_fields more

  -- `some(a)` or `none`
  pub printed_option : MaybeValue → List ℕ
  printed_option no_value = codes "none"
  printed_option (a_value v) = codes "some" ++ in_parens (printed v)

  -- `(a)`, or nothing
  pub printed_payload : MaybeValue → List ℕ
  printed_payload no_value = []
  printed_payload (a_value v) = in_parens (printed v)

  -- `k: a` for each entry
  pub printed_entries : Entries → List (List ℕ)
  printed_entries no_entries = []
  printed_entries (entry key v more) = behind_name (leaf_text key) (printed v) ∷ printed_entries more

-- no part of the value is f32, f64 or unsupported
abbrev mutual
  pub is_writable : Value → Bool
  is_writable (value.leaf one) = true
  is_writable (value.unreadable kind) = false
  is_writable (value.list vs) = are_writable vs
  is_writable (value.fixed vs) = are_writable vs
  is_writable (value.record_value fs) = are_writable_fields fs
  is_writable (value.tuple vs) = are_writable vs
  is_writable (value.variant name payload) = is_writable_maybe payload
  is_writable (value.enum name) = true
  is_writable (value.option payload) = is_writable_maybe payload
  is_writable (value.ok payload) = is_writable_maybe payload
  is_writable (value.err payload) = is_writable_maybe payload
  is_writable (value.flags names) = true
  is_writable (value.map es) = are_writable_entries es

  -- so is a payload
  pub is_writable_maybe : MaybeValue → Bool
  is_writable_maybe no_value = true
  is_writable_maybe (a_value v) = is_writable v

  -- so is each item
  pub are_writable : Values → Bool
  are_writable no_values = true
  are_writable (value_and v more) = is_writable v && are_writable more

  -- so is each field's value
  pub are_writable_fields : FieldValues → Bool
  are_writable_fields no_fields = true
  are_writable_fields (field name v more) = is_writable v && are_writable_fields more

  -- so is each entry's value
  pub are_writable_entries : Entries → Bool
  are_writable_entries no_entries = true
  are_writable_entries (entry key v more) = is_writable v && are_writable_entries more

-- the canonical text, which the value has where `has_text` holds
abbrev pub text : Value → List ℕ
text v = printed (merged v)

-- the value has a canonical text
abbrev pub has_text : Value → Bool
has_text v = is_writable (merged v)

-- ---- several values

-- the arguments of a call: `(v, w)`, and `()` for none
abbrev pub arguments_text : List Value → List ℕ
arguments_text vs = in_parens (joined (map text vs))

-- the results of a call: one bare value, or else as arguments
abbrev pub results_text : List Value → List ℕ
results_text (v ∷ []) = text v
results_text vs = arguments_text vs
