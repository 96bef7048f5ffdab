-- What a writer of JSON answers.
use Rattle.std.specs.Prelude.{ℕ, ◌≡◌, ◌≢◌, Bool, true, if◌then◌else◌, List, [], ◌∷◌, ◌++◌, Result, OnOk, IfErr}
use Rattle.json.specs.Token.{Token}
use Rattle.json.specs.Tree.{json_tokens}
use Rattle.json.specs.Written.{Written}
use Rattle.wave_wasm.specs.Text.{has_text, is_no_option}
use Rattle.wave_wasm.specs.Values as value
use Rattle.wave_wasm.specs.Values.{Leaf, Value, kind_of}
use Rattle.wave_wasm.specs.declared.wasm.WasmTypeKind.TheVariants as kinds
use Rattle.wave_writer.specs.declared.writer.WriterError.{WriterError}
use Rattle.wave_writer.specs.WriterState.{IsGrounded}
use Rattle.wave_json.specs.Mapping.{json_of}

-- the answer of a call that writes tokens: `Ok` where all were written and each part has a text, else why not
pub record Puts (ts : List Token) (has : Bool) (result : Result (Unit {0}) WriterError) (old new : Written) : Type 0 where
  pub ok : OnOk result ((new.tokens ≡ old.tokens ++ ts) × (has ≡ true))
  pub err : IfErr result (λ e. IsGrounded e has 0 0)
  pub before : new.before ≡ old.before

-- the value is one token
abbrev pub IsLeaf : Value → Type 0
IsLeaf v = (one : Leaf) × (v ≡ value.leaf one)

-- the tokens of an array of these items' tokens
abbrev pub array_tokens : List Token → List Token
array_tokens parts = Token.begin_array ∷ (parts ++ Token.end_array ∷ [])

-- the tokens of an object of these members' tokens
abbrev pub object_tokens : List Token → List Token
object_tokens parts = Token.begin_object ∷ (parts ++ Token.end_object ∷ [])

-- the tokens of a value
abbrev pub value_tokens : Value → List Token
value_tokens v = json_tokens (json_of v)

-- the text of a value that is a string
abbrev pub string_of : Value → List ℕ
string_of (value.leaf (value.string s)) = s
string_of _ = []

-- the tokens of an entry as a member
abbrev pub member_tokens : Value × Value → List Token
member_tokens e = Token.key (string_of e.0) ∷ value_tokens e.1

-- the tokens of an entry as a pair
abbrev pub entry_tokens : Value × Value → List Token
entry_tokens e = array_tokens (value_tokens e.0 ++ value_tokens e.1)

-- the entry's value has a text
abbrev pub has_entry : Value × Value → Bool
has_entry e = has_text e.1

-- the tokens of a field: none where it is left out
abbrev pub field_tokens : List ℕ × Value → List Token
field_tokens f = if is_no_option f.1 then [] else Token.key f.0 ∷ value_tokens f.1

-- the first key is a string, or there is none
abbrev pub BeginsNamed : List (Value × Value) → Type 0
BeginsNamed [] = Unit {0}
BeginsNamed (e ∷ es) = kind_of e.0 ≡ kinds.String

-- the first key is no string
abbrev pub BeginsUnnamed : List (Value × Value) → Type 0
BeginsUnnamed [] = ⊥
BeginsUnnamed (e ∷ es) = kind_of e.0 ≢ kinds.String
