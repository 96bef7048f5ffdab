-- What a refusal says.
use Rattle.std.specs.Prelude.{ℕ, List, ◌++◌, codes}
use Rattle.std.specs.Fmt.{decimal}
use Rattle.wave_json.specs.declared.error.JsonErrorKind.{JsonErrorKind}
use Rattle.wave_json.specs.declared.error.JsonErrorKind.TheVariants as kinds

-- what a `JsonError` says: its kind, the path to the part that is refused, and how many bytes of the text stand before it
pub record Refusal : Type 0 where
  pub kind : JsonErrorKind
  pub path : List ℕ
  pub place : ℕ

-- the words of a kind
abbrev pub kind_words : JsonErrorKind → List ℕ
kind_words kinds.Syntax = codes "invalid JSON"
kind_words kinds.Mismatch = codes "unexpected kind of JSON"
kind_words kinds.Number = codes "no whole number in range"
kind_words kinds.Char = codes "not one character"
kind_words kinds.Length = codes "wrong number of items"
kind_words kinds.Unknown = codes "unknown name"
kind_words kinds.Repeated = codes "repeated name or key"
kind_words kinds.Missing = codes "missing field"
kind_words kinds.Payload = codes "missing or unexpected payload"
kind_words kinds.Unsupported = codes "unsupported type"
kind_words kinds.Value = codes "value refused"
kind_words kinds.OutOfMemory = codes "out of memory"

-- the words of a refusal: kind, place and path
abbrev pub error_text : Refusal → List ℕ
error_text e = kind_words e.kind ++ (codes " at " ++ (decimal e.place ++ (codes ": " ++ e.path)))
