-- The canonical text of a value.
use Rattle.std.specs.Prelude.{ℕ, nat_eq, nat_lt, List, [], ◌++◌, Bool, true, false, not, ◌&&◌, ◌||◌, if◌then◌else◌, codes, Option, Some, None}
use Rattle.std.specs.Fmt.{decimal, digits}
use Rattle.wave_wasm.specs.Values.{Value}
use Rattle.wave_wasm.specs.Commas.{in_parens}
use Rattle.wave_wasm.specs.Text.{has_text, text}

-- the escape of a scalar by its number: `\u{h}`, in lower-case digits without a leading zero
abbrev pub number_escape : ℕ → List ℕ
number_escape c = codes "\\u{" ++ (digits 16 false c ++ codes "}")

-- a whole number by its sign and its distance from zero
abbrev pub whole_text : Bool → ℕ → List ℕ
whole_text is_negative distance = if is_negative then codes "-" ++ decimal distance else decimal distance

-- a byte of ASCII that stands for itself between quotes
abbrev pub is_plain_byte : ℕ → Bool
is_plain_byte b = nat_lt 31 b && nat_lt b 127 && not (nat_eq b 34 || nat_eq b 39 || nat_eq b 92)

-- the canonical text of a payload: `(a)`, or nothing
abbrev pub payload_text : Option Value → List ℕ
payload_text None = []
payload_text (Some v) = in_parens (text v)

-- the payload has a canonical text
abbrev pub has_payload_text : Option Value → Bool
has_payload_text None = true
has_payload_text (Some v) = has_text v
