-- What the parts of the program answer to each other.
use Rattle.std.specs.Prelude.{ℕ, Bool, List, String, ◌≡◌, ◌≢◌, ◌⊎◌, false, Ok, Err, string_bytes}
use Rattle.std.specs.declared.alloc.AllocError.{AllocError}
use Rattle.std.specs.declared.alloc.Global.{Global}
use Rattle.std.specs.declared.result.Result.{Result}
use Rattle.std.specs.declared.option.Option.{Option}
use Rattle.wave_lex.specs.Errors.{Diagnostic, error_text}
use Rattle.wave_lex.specs.declared.error.ParserErrorKind.TheVariants as kind
use Rattle.wave.specs.declared.answer.Unanswered.{Unanswered}
use Rattle.wave.specs.declared.answer.Unanswered.TheVariants as why
use Rattle.wave.specs.declared.request.Request.{Request}
use Rattle.wave.specs.declared.input.Input.{Input}
use Rattle.wave.specs.declared.input.RunError.{RunError}
use Rattle.wave.specs.declared.input.RunError.TheVariants.{NotUtf8, InputFailed, OutOfMemory}
use Rattle.wave_files.specs.declared.output.Output.{Output}
use Rattle.wave.specs.declared.program.Outcome.{Outcome}
use Rattle.wave.specs.declared.program.Outcome.TheVariants.{Answered, Refused}
use Rattle.wave.specs.Answers.{Answers, IsRefused, IsInput, IsNoText, words_of_fault}
use Rattle.wave.specs.Lines.{line}
use Rattle.wave.specs.Options.{unless_quiet}
use Rattle.wave.specs.ReadFaults.{IsReadToEnd, IsUnread}
use Rattle.wave.specs.Statuses.{IsAnswer}
use Rattle.wave_files.specs.Written.{Prints, WritesWhole, WritesLess}
use Rattle.wave.specs.Explained.{ShowsPlace}

-- the request has no answer on the text, and the refusal says why; or it is out of memory
abbrev pub Refuses : Request → List ℕ → Diagnostic → Type 0
Refuses request whole e = e.kind ≢ kind.OutOfMemory → IsRefused request whole e

-- why a request isn't answered on a text: a refusal says it; or there was no memory for the answer that it has
abbrev pub IsUnanswered : Request → List ℕ → Unanswered → Type 0
IsUnanswered request whole (why.Refused e) = Refuses request whole e
IsUnanswered request whole why.OutOfMemory = (answer : List ℕ) × Answers request whole answer

-- the outcome is that of the request on the whole input: its answer as a line, or its refusal and the input
abbrev pub IsOutcome : Request → Option (List ℕ) → Outcome → Type 0
IsOutcome request left (Answered output) = IsAnswer request left (string_bytes output)
IsOutcome request left (Refused e text) = IsInput left (string_bytes text) × Refuses request (string_bytes text) e

-- the request has an answer on the whole input
abbrev pub HasAnswer : Request → Option (List ℕ) → Type 0
HasAnswer request left = (whole : List ℕ) × (answer : List ℕ) × IsInput left whole × Answers request whole answer

module _ {R : Type 0} where
  -- why a request has no outcome: the input is no text, or was not read to its end; or there was no memory before the reader
  -- reported its end, or for the answer that the request has
  abbrev pub IsNoOutcome : Request → Option (List ℕ) → Input R → Input R → RunError → Type 0
  IsNoOutcome request left old new (NotUtf8 place) = IsNoText left place × IsReadToEnd old new
  IsNoOutcome request left old new InputFailed = IsUnread old new
  IsNoOutcome request left old new OutOfMemory = (new.failures ≡ old.failures) × ((new.has_ended ≡ false) ⊎ HasAnswer request left)

  -- the input was not read to its end; or there was no memory before the reader reported its end, and no read failed
  abbrev pub IsReadFault : Input R → Input R → RunError → Type 0
  IsReadFault old new (NotUtf8 place) = ⊥
  IsReadFault old new InputFailed = IsUnread old new
  IsReadFault old new OutOfMemory = (new.failures ≡ old.failures) × (new.has_ended ≡ false)

module _ {W : Type 0} (contents : W → Option (List ℕ)) where
  -- the refusal's text was printed at status 1, which isn't out of memory; or out of memory at status 3; unless quiet
  abbrev pub ReportsRefusal : Bool → Output W → Output W → Diagnostic → ℕ → Type 0
  ReportsRefusal quiet old new e result =
      (e.kind ≢ kind.OutOfMemory) × Prints contents old new (unless_quiet quiet (line (error_text e))) 1 result
      ⊎ Prints contents old new (unless_quiet quiet (line (words_of_fault OutOfMemory))) 3 result

module _ {E : Type 0} (contents : E → Option (List ℕ)) where
  -- the text was written, or a beginning of it where a write failed; or there was no memory for it, which is answered, and nothing was written
  abbrev pub ShowsText : Output E → Output E → Result (String Global) AllocError → Result (Unit {0}) AllocError → Type 0
  ShowsText old new (Ok text) shown = (WritesWhole contents old new (string_bytes text) ⊎ WritesLess contents old new (string_bytes text)) × (shown ≡ Ok tt)
  ShowsText old new (Err error) shown = (new ≡ old) × (shown ≡ Err error)

-- the fault's words are the line that was written, unless quiet, and the place is shown; or a write failed, and nothing is shown
abbrev pub ShowsFault : {W E : Type 0} → Bool → (W → Option (List ℕ)) → Output W → Output W → (E → Option (List ℕ)) → Output E → Output E
    → RunError → Result (Unit {0}) AllocError → Type 0
ShowsFault quiet contents before after held old new fault shown =
    WritesWhole contents before after (unless_quiet quiet (line (words_of_fault fault))) × ShowsPlace held old new fault shown
    ⊎ WritesLess contents before after (unless_quiet quiet (line (words_of_fault fault))) × (new ≡ old) × (shown ≡ Ok tt)
