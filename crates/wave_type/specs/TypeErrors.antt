-- What a refusal of a text that spells no type says.
use Rattle.std.specs.Prelude.{ℕ, ◌++◌, List, codes}
use Rattle.std.specs.declared.ops.Range.{Range}
use Rattle.wave_lex.specs.Errors.{place_words}
use Rattle.wave_type.specs.declared.error.TypeErrorKind.{TypeErrorKind}
use Rattle.wave_type.specs.declared.error.TypeErrorKind.TheVariants as kind

-- its kind, and the bytes of the text where it arose
pub record TypeRefusal : Type 0 where
  pub kind : TypeErrorKind
  pub span : Range ℕ

-- the words of a kind
abbrev pub type_error_words : TypeErrorKind → List ℕ
type_error_words kind.UnexpectedToken = codes "unexpected token in a type"
type_error_words kind.UnexpectedEnd = codes "unexpected end of a type"
type_error_words kind.InvalidToken = codes "invalid token in a type"
type_error_words kind.DuplicateName = codes "duplicate name in a type"
type_error_words kind.InvalidKeyType = codes "invalid type of a map's keys"
type_error_words kind.InvalidCount = codes "invalid length of a list"
type_error_words kind.NestingTooDeep = codes "type nesting too deep"
type_error_words kind.OutOfMemory = codes "out of memory"

-- the text of a `TypeError`
abbrev pub type_error_text : TypeRefusal → List ℕ
type_error_text e = type_error_words e.kind ++ place_words e.span
