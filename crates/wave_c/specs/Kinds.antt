-- The numbers of kinds.
use Rattle.std.specs.Prelude.{ℕ}
use Rattle.wave_lex.specs.declared.error.ParserErrorKind.{ParserErrorKind}
use Rattle.wave_lex.specs.declared.error.ParserErrorKind.TheVariants as kind
use Rattle.wave_type.specs.declared.error.TypeErrorKind.{TypeErrorKind}
use Rattle.wave_type.specs.declared.error.TypeErrorKind.TheVariants as type_kind
use Rattle.wave_tape.specs.declared.error.TapeErrorKind.{TapeErrorKind}
use Rattle.wave_tape.specs.declared.error.TapeErrorKind.TheVariants as tape_kind
use Rattle.wave_c.specs.declared.ended.Argument.{Argument}
use Rattle.wave_c.specs.declared.ended.Argument.TheVariants.{TypeText, ValueText}

-- that of an argument that is no UTF-8
abbrev pub argument_number : Argument → ℕ
argument_number TypeText = 1
argument_number ValueText = 2

-- that of a kind of refusals of types' texts
abbrev pub type_kind_number : TypeErrorKind → ℕ
type_kind_number type_kind.UnexpectedToken = 101
type_kind_number type_kind.UnexpectedEnd = 102
type_kind_number type_kind.InvalidToken = 103
type_kind_number type_kind.DuplicateName = 104
type_kind_number type_kind.InvalidKeyType = 105
type_kind_number type_kind.InvalidCount = 106
type_kind_number type_kind.NestingTooDeep = 107
type_kind_number type_kind.OutOfMemory = 108

-- that of a kind of refusals of texts
abbrev pub kind_number : ParserErrorKind → ℕ
kind_number kind.EmptyTuple = 1
kind_number kind.MultipleChars = 2
kind_number kind.InvalidEscape = 3
kind_number kind.InvalidMultilineString = 4
kind_number kind.InvalidParams = 5
kind_number kind.InvalidToken = 6
kind_number kind.InvalidType = 7
kind_number kind.InvalidValue = 8
kind_number kind.TrailingCharacters = 9
kind_number kind.UnexpectedEnd = 10
kind_number kind.UnexpectedToken = 11
kind_number kind.DuplicateField = 12
kind_number kind.DuplicateFlag = 13
kind_number kind.WasmValueError = 14
kind_number kind.NestingTooDeep = 15
kind_number kind.OutOfMemory = 16

-- that of a kind of refusals of tapes
abbrev pub tape_kind_number : TapeErrorKind → ℕ
tape_kind_number tape_kind.Version = 201
tape_kind_number tape_kind.End = 202
tape_kind_number tape_kind.Trailing = 203
tape_kind_number tape_kind.Byte = 204
tape_kind_number tape_kind.Char = 205
tape_kind_number tape_kind.Utf8 = 206
tape_kind_number tape_kind.Name = 207
tape_kind_number tape_kind.Unsupported = 208
tape_kind_number tape_kind.Value = 209
tape_kind_number tape_kind.OutOfMemory = 210
