-- Why a value can't be made, and the words of it.
use Rattle.std.specs.Prelude.{ℕ, ◌++◌, List, codes}
use Rattle.std.specs.Fmt.{decimal}
use Rattle.std.specs.String.{string_bytes}
use Rattle.wave_wasm.specs.TypeText.{kind_word}
use Rattle.wave_wasm.specs.declared.wasm.WasmTypeKind.{WasmTypeKind}
use Rattle.wave_wasm.specs.declared.wasm.WasmValueError.{WasmValueError}
use Rattle.wave_wasm.specs.declared.wasm.WasmValueError.TheVariants as error

-- a cause: what a `WasmValueError` says, its texts as texts
pub data Cause : Type 0 where
  missing_field missing_payload unexpected_payload unknown_case unknown_field unsupported_type : List ℕ → Cause
  wrong_number wrong_length : ℕ → ℕ → Cause
  wrong_kind : WasmTypeKind → List ℕ → Cause
  wrong_value : List ℕ → List ℕ → Cause
  other : List ℕ → Cause
  memory : Cause

-- what a `WasmValueError` says
abbrev pub cause_of : WasmValueError → Cause
cause_of (error.MissingField s) = missing_field (string_bytes s)
cause_of (error.MissingPayload s) = missing_payload (string_bytes s)
cause_of (error.UnexpectedPayload s) = unexpected_payload (string_bytes s)
cause_of (error.UnknownCase s) = unknown_case (string_bytes s)
cause_of (error.UnknownField s) = unknown_field (string_bytes s)
cause_of (error.UnsupportedType s) = unsupported_type (string_bytes s)
cause_of (error.WrongNumberOfElements want got) = wrong_length want got
cause_of (error.WrongNumberOfTupleValues want got) = wrong_number want got
cause_of (error.WrongTypeKind kind ty) = wrong_kind kind (string_bytes ty)
cause_of (error.WrongValueType ty val) = wrong_value (string_bytes ty) (string_bytes val)
cause_of (error.Other s) = other (string_bytes s)
cause_of (error.Memory e) = memory

-- a name in double quotes
abbrev pub quoted_name : List ℕ → List ℕ
quoted_name name = codes "\"" ++ (name ++ codes "\"")

-- the words of a cause, whose names are labels
abbrev pub cause_text : Cause → List ℕ
cause_text (missing_field name) = codes "missing field " ++ quoted_name name
cause_text (missing_payload name) = codes "missing payload for " ++ (quoted_name name ++ codes " case")
cause_text (unexpected_payload name) = codes "unexpected payload for " ++ (quoted_name name ++ codes " case")
cause_text (unknown_case name) = codes "unknown case " ++ quoted_name name
cause_text (unknown_field name) = codes "unknown field " ++ quoted_name name
cause_text (unsupported_type word) = codes "unsupported type " ++ word
cause_text (wrong_number want got) = codes "expected " ++ (decimal want ++ (codes " tuple elements; got " ++ decimal got))
cause_text (wrong_length want got) = codes "expected " ++ (decimal want ++ (codes " list elements; got " ++ decimal got))
cause_text (wrong_kind kind ty) = codes "expected a " ++ (kind_word kind ++ (codes "; got " ++ ty))
cause_text (wrong_value ty val) = codes "expected a " ++ (ty ++ (codes "; got " ++ val))
cause_text (other message) = message
cause_text memory = codes "out of memory"
