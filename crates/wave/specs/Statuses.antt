-- Which line is written at which status; one that is no answer is empty where the program is to be quiet, without a line feed too.
use Rattle.std.specs.Prelude.{ℕ, Bool, List, ◌≡◌, ◌⊎◌}
use Rattle.std.specs.declared.option.Option.{Option}
use Rattle.wave_lex.specs.Errors.{Diagnostic, error_text}
use Rattle.wave.specs.declared.request.Request.{Request}
use Rattle.wave.specs.declared.input.RunError.{RunError}
use Rattle.wave.specs.declared.input.RunError.TheVariants.{OutOfMemory}
use Rattle.wave.specs.declared.input.Input.{Input}
use Rattle.wave.specs.Help.{IsNotice, IsNoNotice}
use Rattle.wave.specs.Options.{is_quiet, unless_quiet}
use Rattle.wave.specs.Requests.{AskFor, AskForType, AreUnknown}
use Rattle.wave.specs.Answers.{Answers, IsRefused, IsInput, IsFaultOf, words_of_fault, usage}
use Rattle.wave.specs.Lines.{line}
use Rattle.wave.specs.ReadFaults.{IsReadToEnd}

-- the request has an answer on the whole input, and that is the line
abbrev pub IsAnswer : Request → Option (List ℕ) → List ℕ → Type 0
IsAnswer request left said = (whole : List ℕ) × (answer : List ℕ)
    × IsInput left whole × Answers request whole answer × (said ≡ line answer)

-- the request has no answer on the whole input, and the text of a refusal that says why is the line
abbrev pub IsRefusal : Bool → Request → Option (List ℕ) → List ℕ → Type 0
IsRefusal quiet request left said = (whole : List ℕ) × (refusal : Diagnostic)
    × IsInput left whole × IsRefused request whole refusal × (said ≡ unless_quiet quiet (line (error_text refusal)))

-- the arguments make no request and ask for no notice, and the usage is the line
abbrev pub IsUsage : List (List ℕ) → List ℕ → Type 0
IsUsage words said = AreUnknown words × IsNoNotice words × (said ≡ unless_quiet (is_quiet words) usage)

module _ {R : Type 0} where
  -- the line for the request, by what the reader had left: its answer or its refusal where the input was read to its end, or else a fault's words
  abbrev pub IsLineOfRequest : Bool → Request → Option (List ℕ) → Input R → Input R → ℕ → List ℕ → Type 0
  IsLineOfRequest quiet request left old new status said =
      (status ≡ 0) × IsAnswer request left said × IsReadToEnd old new
      ⊎ (status ≡ 1) × IsRefusal quiet request left said × IsReadToEnd old new
      ⊎ (status ≡ 3) × ((fault : RunError) × IsFaultOf left old new fault × (said ≡ unless_quiet quiet (line (words_of_fault fault))))

  -- there was no memory for the type that the arguments ask for, nothing was read, and the line says so
  abbrev pub IsWithoutMemory : List (List ℕ) → Input R → Input R → List ℕ → Type 0
  IsWithoutMemory words old new said = AskForType words × (new ≡ old) × (said ≡ unless_quiet (is_quiet words) (line (words_of_fault OutOfMemory)))

  -- the line, and the status that goes with it: those for the request that the arguments make; the help or the version,
  -- where they ask for it, and nothing was read; the usage; or that there was no memory to find which
  abbrev pub IsLineOfRun : List (List ℕ) → Option (List ℕ) → Input R → Input R → ℕ → List ℕ → Type 0
  IsLineOfRun words left old new status said =
      (status ≡ 0) × IsNotice words said × (new ≡ old)
      ⊎ (status ≡ 2) × IsUsage words said
      ⊎ (status ≡ 3) × IsWithoutMemory words old new said
      ⊎ ((request : Request) × AskFor request words × IsLineOfRequest (is_quiet words) request left old new status said)
