-- How the code keeps the detail of an error. Users don't name what is declared over it.
use Rattle.std.specs.Prelude.{ℕ, List, Option, Some, None}
use Rattle.std.specs.String.{string_bytes}
use Rattle.std.specs.declared.ops.Range.{Range}
use Rattle.wave_wasm.specs.declared.wasm.WasmValueError.{WasmValueError}
use Rattle.wave_wasm.specs.declared.wasm.WasmValueError.TheVariants as error
use Rattle.wave_lex.specs.Errors.{Diagnostic}
use Rattle.wave_lex.specs.declared.error.ParserErrorKind.{ParserErrorKind}
use Rattle.wave_lex.specs.declared.error.ParserErrorKind.TheVariants.{OutOfMemory}
use Rattle.wave_lex.specs.declared.error.Detail.{Detail}
use Rattle.wave_lex.specs.declared.error.Detail.TheVariants as detail

-- the words of a detail, where it has them
abbrev pub detail_text : Detail → Option (List ℕ)
detail_text detail.None = None
detail_text (detail.Static s) = Some s.now
detail_text (detail.Owned s) = Some (string_bytes s)
detail_text (detail.Cause e) = None

-- the error of the value that could not be made, where the detail is one
abbrev pub detail_cause : Detail → Option WasmValueError
detail_cause (detail.Cause e) = Some e
detail_cause d = None

-- the error of these parts; where the cause is out of memory, one that reports it by the kind alone
abbrev pub error_with : ParserErrorKind → Range ℕ → Detail → Diagnostic
error_with k p (detail.Cause (error.Memory e)) = record { kind = OutOfMemory; span = p; detail = None; cause = None }
error_with k p d = record { kind = k; span = p; detail = detail_text d; cause = detail_cause d }
