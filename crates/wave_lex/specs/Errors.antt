-- What a refusal says: kind, detail, cause, and the text of it.
use Rattle.std.specs.Prelude.{◌≡◌, ℕ, ◌≤◌, ◌++◌, List, [], length, Option, Some, None, option_map, codes}
use Rattle.std.specs.Fmt.{decimal}
use Rattle.std.specs.declared.ops.Range.{Range}
use Rattle.wave_wasm.specs.ValueErrors.{Cause, memory, cause_of, cause_text, quoted_name}
use Rattle.wave_wasm.specs.declared.wasm.WasmValueError.{WasmValueError}
use Rattle.wave_wasm.specs.declared.wasm.WasmValueError.TheVariants as error
use Rattle.wave_lex.specs.declared.error.ParserErrorKind.{ParserErrorKind}
use Rattle.wave_lex.specs.declared.error.ParserErrorKind.TheVariants as kind
use Rattle.wave_lex.specs.declared.lex.Token.{Token}
use Rattle.wave_lex.specs.declared.lex.Token.TheVariants as class
use Rattle.wave_lex.specs.declared.lex.FuncNameToken.{FuncNameToken}
use Rattle.wave_lex.specs.declared.lex.FuncNameToken.TheVariants.{FunctionName}
use Rattle.wave_lex.specs.Multiline.{LineFault, closing, opening, indentation, escape}

-- a kind of refusal, the words of its detail and its cause, where it has them
pub record Refusal : Type 0 where
  pub kind : ParserErrorKind
  pub detail : Option (List ℕ)
  pub cause : Option Cause

-- a kind with this detail, without a cause
abbrev pub with_detail : ParserErrorKind → Option (List ℕ) → Refusal
with_detail k d = record { kind = k; detail = d; cause = None }

-- a kind without a detail and a cause
abbrev pub plainly : ParserErrorKind → Refusal
plainly k = with_detail k None

-- `WasmValueError` with its cause
abbrev pub caused : Cause → Refusal
caused c = record { kind = kind.WasmValueError; detail = None; cause = Some c }

-- a refusal because a value could not be made: out of memory is reported by the kind alone
abbrev pub refused_by : Cause → Refusal
refused_by memory = plainly kind.OutOfMemory
refused_by c = caused c

-- the error that such a refusal keeps: each but out of memory
abbrev pub kept : WasmValueError → Option WasmValueError
kept (error.Memory e) = None
kept e = Some e

-- what a `ParserError` says: its kind, the bytes of the source where it arose, the words of its detail
-- and the error of the value that could not be made, where it has them
pub record Diagnostic : Type 0 where
  pub kind : ParserErrorKind
  pub span : Range ℕ
  pub detail : Option (List ℕ)
  pub cause : Option WasmValueError

-- what an error says beside its span
abbrev pub refusal_of : Diagnostic → Refusal
refusal_of e = record { kind = e.kind; detail = e.detail; cause = option_map cause_of e.cause }

-- the cause isn't out of memory, which is reported by the kind alone
abbrev pub IsNoMemory : Option WasmValueError → Type 0
IsNoMemory (Some (error.Memory e)) = ⊥
IsNoMemory cause = Unit {0}

-- the error is of this kind, at this span, with this detail and without a cause
pub record Says (e : Diagnostic) (kind : ParserErrorKind) (at : Range ℕ) (detail : Option (List ℕ)) : Type 0 where
  pub is : refusal_of e ≡ with_detail kind detail
  pub stands : e.span ≡ at

-- the span lies in the text
abbrev pub LiesInText : List ℕ → Range ℕ → Type 0
LiesInText s p = (p.start ≤ p.end) × (p.end ≤ length s)

-- ---- words

-- the words of a kind
abbrev pub kind_words : ParserErrorKind → List ℕ
kind_words kind.EmptyTuple = codes "empty tuple"
kind_words kind.MultipleChars = codes "multiple characters in char value"
kind_words kind.InvalidEscape = codes "invalid character escape"
kind_words kind.InvalidMultilineString = codes "invalid multiline string"
kind_words kind.InvalidParams = codes "invalid params"
kind_words kind.InvalidToken = codes "invalid token"
kind_words kind.InvalidType = codes "invalid value type"
kind_words kind.InvalidValue = codes "invalid value"
kind_words kind.TrailingCharacters = codes "trailing characters after value"
kind_words kind.UnexpectedEnd = codes "unexpected end of input"
kind_words kind.UnexpectedToken = codes "unexpected token"
kind_words kind.DuplicateField = codes "duplicate field"
kind_words kind.DuplicateFlag = codes "duplicate flag"
kind_words kind.WasmValueError = codes "error converting Wasm value"
kind_words kind.NestingTooDeep = codes "value nesting too deep"
kind_words kind.OutOfMemory = codes "out of memory"

-- `: ` and the words, where there are any
abbrev pub behind_colon : Option (List ℕ) → List ℕ
behind_colon None = []
behind_colon (Some words) = codes ": " ++ words

-- the words of the cause, or else the detail
abbrev pub cause_or_detail : Option Cause → Option (List ℕ) → Option (List ℕ)
cause_or_detail (Some c) d = Some (cause_text c)
cause_or_detail None d = d

-- ` at a..b`
abbrev pub place_words : Range ℕ → List ℕ
place_words p = codes " at " ++ (decimal p.start ++ (codes ".." ++ decimal p.end))

-- the text of a `ParserError`
abbrev pub error_text : Diagnostic → List ℕ
error_text e = kind_words e.kind ++ (behind_colon (cause_or_detail (option_map cause_of e.cause) e.detail) ++ place_words e.span)

-- ---- details

-- the detail of a line that is badly indented
abbrev pub badly_indented : List ℕ
badly_indented = codes "lines must be indented at least as much as closing \"\"\""

-- the detail of a fault of a multiline token
abbrev pub fault_detail : LineFault → Option (List ℕ)
fault_detail closing = Some (codes "closing \"\"\" must be on a line preceded only by spaces")
fault_detail opening = Some (codes "opening \"\"\" must be followed immediately by newline")
fault_detail (indentation at) = Some badly_indented
fault_detail (escape at) = None

-- the name of a class of tokens, which is the detail of `UnexpectedToken`
abbrev pub class_name : Token → List ℕ
class_name class.BraceOpen = codes "BraceOpen"
class_name class.BraceClose = codes "BraceClose"
class_name class.ParenOpen = codes "ParenOpen"
class_name class.ParenClose = codes "ParenClose"
class_name class.BracketOpen = codes "BracketOpen"
class_name class.BracketClose = codes "BracketClose"
class_name class.Colon = codes "Colon"
class_name class.Comma = codes "Comma"
class_name class.Number = codes "Number"
class_name class.LabelOrKeyword = codes "LabelOrKeyword"
class_name class.Char = codes "Char"
class_name class.String = codes "String"
class_name class.MultilineString = codes "MultilineString"

-- the name of the one class of a function name lexer
abbrev pub name_class_name : FuncNameToken → List ℕ
name_class_name FunctionName = codes "FunctionName"

-- the detail of a repeated field or flag
abbrev pub repeated_name : List ℕ → List ℕ
repeated_name name = quoted_name name

-- the detail of a record key that is no label
abbrev pub field_label_expected : List ℕ
field_label_expected = codes "expected a record field label"

-- the details of a call's parameters: too many values, too few, none
abbrev pub too_many_params : List ℕ
too_many_params = codes "more param(s) than expected"

-- fewer values than types
abbrev pub too_few_params : List ℕ
too_few_params = codes "missing required param(s)"

-- no value, and n types
abbrev pub no_params : ℕ → List ℕ
no_params n = codes "no params provided, but " ++ (decimal n ++ codes " required")
