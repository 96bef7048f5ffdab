-- Errors on their way to the caller.
use Rattle.std.specs.Prelude.{ℕ, ◌≡◌, ◌⊎◌, List, Option, Some, None, Result, Ok, Err, MatchOption, codes}
use Rattle.std.specs.String.{string_bytes}
use Rattle.std.specs.declared.ops.Range.{Range}
use Rattle.wave_wasm.specs.ValueErrors.{cause_of}
use Rattle.wave_wasm.specs.declared.wasm.WasmValueError.{WasmValueError}
use Rattle.wave_wasm.specs.declared.wasm.WasmValueError.TheVariants as error
use Rattle.wave_lex.specs.Errors.{Diagnostic, refusal_of, refused_by, plainly, class_name, field_label_expected, badly_indented}
use Rattle.wave_lex.specs.ErrorDetails.{error_with}
use Rattle.wave_lex.specs.declared.error.Detail.{Detail}
use Rattle.wave_lex.specs.declared.error.Detail.TheVariants as detail
use Rattle.wave_lex.specs.declared.error.ParserErrorKind.TheVariants.{OutOfMemory}
use Rattle.wave_lex.specs.declared.error.ParserErrorKind.{ParserErrorKind}
use Rattle.wave_grammar.specs.NodeTree.{NodeTree, place_of}
use Rattle.wave_leaf.specs.declared.error.Reason.{Reason}
use Rattle.wave_leaf.specs.declared.error.Reason.TheVariants as reason
use Rattle.wave_leaf.specs.declared.error.StaticDetail.{StaticDetail}
use Rattle.wave_leaf.specs.declared.error.StaticDetail.TheVariants as static

-- the words of a detail that is written in the program
abbrev pub static_words : StaticDetail → List ℕ
static_words static.FieldLabel = field_label_expected
static_words static.Closing = codes "closing \"\"\" must be on a line preceded only by spaces"
static_words static.Opening = codes "opening \"\"\" must be followed immediately by newline"
static_words static.Indentation = badly_indented

-- an error of this kind, here, with this detail and without a cause
abbrev pub detailed : ParserErrorKind → Range ℕ → Option (List ℕ) → Diagnostic
detailed k p words = record { kind = k; span = p; detail = words; cause = None }

-- what an error for this reason says, here
abbrev pub error_at : Range ℕ → Reason → Diagnostic
error_at p (reason.Plain k) = detailed k p None
error_at p (reason.Class k class) = detailed k p (Some (class_name class))
error_at p (reason.Static k d) = detailed k p (Some (static_words d))
error_at p (reason.Words k words) = detailed k p (Some (string_bytes words.value))
error_at p (reason.Elements k want got) = error_with k p (detail.Cause (error.WrongNumberOfElements want got))
error_at p (reason.TupleValues k want got) = error_with k p (detail.Cause (error.WrongNumberOfTupleValues want got))
error_at p (reason.Cause k cause) = error_with k p (detail.Cause cause.value)

-- the words are none of those that are written in the program, so that they need memory to be kept
abbrev pub AreNoStaticWords : List ℕ → Type 0
AreNoStaticWords words = (d : StaticDetail) → words ≡ static_words d → ⊥

-- the cause has a text, likewise
abbrev pub CauseHasText : WasmValueError → Type 0
CauseHasText (error.WrongNumberOfElements want got) = ⊥
CauseHasText (error.WrongNumberOfTupleValues want got) = ⊥
CauseHasText (error.Memory e) = ⊥
CauseHasText e = Unit {0}

-- the detail has a text of its own
abbrev pub HasText : Detail → Type 0
HasText detail.None = ⊥
HasText (detail.Static s) = AreNoStaticWords s.now
HasText (detail.Owned s) = AreNoStaticWords (string_bytes s)
HasText (detail.Cause e) = CauseHasText e

-- the detail or the cause of the error has a text of its own
abbrev pub NeedsMemory : Diagnostic → Type 0
NeedsMemory e = MatchOption e.detail ⊥ AreNoStaticWords ⊎ MatchOption e.cause ⊥ CauseHasText

-- the same error; or, where it has such a text, one for lack of memory where it stands
abbrev pub IsSameOrMemory : Diagnostic → Diagnostic → Type 0
IsSameOrMemory e f = (f ≡ e) ⊎ NeedsMemory e × (f ≡ detailed OutOfMemory e.span None)

-- the refusal because a value could not be made; or, where its cause has a text, one for lack of memory
abbrev pub IsRefusedBy : WasmValueError → Diagnostic → Type 0
IsRefusedBy cause e = (refusal_of e ≡ refused_by (cause_of cause)) ⊎ HasText (detail.Cause cause) × (refusal_of e ≡ plainly OutOfMemory)

-- the value that was made; or such a refusal by its constructor, at the node
abbrev pub IsBuiltOrMemory : {V : Type 0} → NodeTree → Result V WasmValueError → Result V Diagnostic → Type 0
IsBuiltOrMemory n (Ok v) (Ok w) = w ≡ v
IsBuiltOrMemory n (Err cause) (Err e) = IsRefusedBy cause e × (e.span ≡ place_of n)
IsBuiltOrMemory n _ _ = ⊥
