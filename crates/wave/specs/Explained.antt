-- What is shown of a refusal, or of an input that is no text, to a person.
use Rattle.std.specs.Prelude.{ℕ, Bool, List, ◌≡◌, ◌⊎◌, ◌++◌, Ok, MatchResult, codes}
use Rattle.std.specs.Fmt.{decimal}
use Rattle.std.specs.declared.alloc.AllocError.{AllocError}
use Rattle.std.specs.declared.option.Option.{Option}
use Rattle.std.specs.declared.result.Result.{Result}
use Rattle.wave_type.specs.FunctionType.{func_of}
use Rattle.wave_lex.specs.Errors.{Diagnostic, error_text}
use Rattle.wave_explain.specs.ValueExplained.{IsUntypedExplained, IsValueExplained}
use Rattle.wave_explain.specs.CallExplained.{IsUntypedCallExplained, IsCallExplained}
use Rattle.wave.specs.declared.request.Request.{Request}
use Rattle.wave.specs.declared.request.Request.TheVariants as request
use Rattle.wave.specs.declared.input.Input.{Input}
use Rattle.wave.specs.declared.input.RunError.{RunError}
use Rattle.wave.specs.declared.input.RunError.TheVariants.{NotUtf8, InputFailed, OutOfMemory}
use Rattle.wave_files.specs.declared.output.Output.{Output}
use Rattle.wave.specs.Options.{is_quiet, unless_quiet}
use Rattle.wave.specs.Requests.{AskFor}
use Rattle.wave.specs.Answers.{IsRefused, IsInput, IsFaultOf, words_of_fault}
use Rattle.wave.specs.Lines.{line}
use Rattle.wave_files.specs.Written.{WritesWhole, WritesLess}

-- the text explains the refusal of the whole text: without a type with what may stand there; of a value at a type, and of a call at a
-- function's type, with the path to the part that is wrong and the type that is expected there
abbrev pub Explains : Request → List ℕ → Diagnostic → List ℕ → Type 0
Explains (request.Value n) whole e text = IsUntypedExplained whole e text
Explains request.Call whole e text = IsUntypedCallExplained whole e text
Explains (request.CallAt f) whole e text = IsCallExplained whole (func_of f) e text
Explains (request.Read T n) whole e text = IsValueExplained whole T e text

module _ {E : Type 0} (contents : E → Option (List ℕ)) where
  -- a text that explains the refusal of the whole text was written, or a beginning of it where a write failed;
  -- or out of memory was answered, and nothing was written
  abbrev pub ShowsRefusal : Request → Output E → Output E → List ℕ → Diagnostic → Result (Unit {0}) AllocError → Type 0
  ShowsRefusal asked old new whole e shown = MatchResult shown
      (λ _. (text : List ℕ) × Explains asked whole e text × (WritesWhole contents old new text ⊎ WritesLess contents old new text))
      (λ _. new ≡ old)

-- the request has no answer on the whole input, and the line that was written, unless quiet, is the text of a refusal that says why, which is shown
abbrev pub ShowsWhy : {W E : Type 0} → Bool → Request → Option (List ℕ) → (W → Option (List ℕ)) → Output W → Output W
    → (E → Option (List ℕ)) → Output E → Output E → Result (Unit {0}) AllocError → Type 0
ShowsWhy quiet asked left contents before after held old new shown =
    (whole : List ℕ) × (refusal : Diagnostic) × IsInput left whole × IsRefused asked whole refusal
    × WritesWhole contents before after (unless_quiet quiet (line (error_text refusal))) × ShowsRefusal held asked old new whole refusal shown

-- so of a request that the arguments ask for
abbrev pub IsShown : {W E : Type 0} → List (List ℕ) → Option (List ℕ) → (W → Option (List ℕ)) → Output W → Output W
    → (E → Option (List ℕ)) → Output E → Output E → Result (Unit {0}) AllocError → Type 0
IsShown words left contents before after held old new shown =
    (asked : Request) × AskFor asked words × ShowsWhy (is_quiet words) asked left contents before after held old new shown

-- ---- an input that is no text

-- what is shown of an input that is no text: at which byte what is none begins, which is after so many
abbrev pub place_shown : ℕ → List ℕ
place_shown place = codes "input is not UTF-8\n --> byte " ++ line (decimal place)

module _ {E : Type 0} (contents : E → Option (List ℕ)) where
  -- of an input that is no text the place was written, or a beginning of it where a write failed; or out of memory was answered, and
  -- nothing was written; of another fault nothing
  abbrev pub ShowsPlace : Output E → Output E → RunError → Result (Unit {0}) AllocError → Type 0
  ShowsPlace old new (NotUtf8 place) shown = MatchResult shown
      (λ _. WritesWhole contents old new (place_shown place) ⊎ WritesLess contents old new (place_shown place))
      (λ _. new ≡ old)
  ShowsPlace old new InputFailed shown = (new ≡ old) × (shown ≡ Ok tt)
  ShowsPlace old new OutOfMemory shown = (new ≡ old) × (shown ≡ Ok tt)

-- there is a fault, whose words are the line that was written, unless quiet, and the place is shown; or a write failed, and nothing is shown
abbrev pub IsFailure : {R W E : Type 0} → Bool → Option (List ℕ) → Input R → Input R → (W → Option (List ℕ)) → Output W → Output W
    → (E → Option (List ℕ)) → Output E → Output E → Result (Unit {0}) AllocError → Type 0
IsFailure quiet left first last contents before after held old new shown =
    ((fault : RunError) × IsFaultOf left first last fault
    × WritesWhole contents before after (unless_quiet quiet (line (words_of_fault fault))) × ShowsPlace held old new fault shown)
    ⊎ ((said : List ℕ) × WritesLess contents before after said × (new ≡ old) × (shown ≡ Ok tt))
