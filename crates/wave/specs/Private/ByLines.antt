-- What a request on each line of an input comes to, line by line.
use Rattle.std.specs.Prelude.{ℕ, ◌≡◌, ◌⊎◌, ◌++◌, ⊤, Bool, List, MatchBool}
use Rattle.std.specs.declared.option.Option.{Option}
use Rattle.wave.specs.declared.input.Input.{Input}
use Rattle.wave.specs.declared.input.RunError.{RunError}
use Rattle.wave.specs.declared.input.RunError.TheVariants.{NotUtf8, InputFailed, OutOfMemory}
use Rattle.wave.specs.Answers.{IsTextUpTo}
use Rattle.wave_files.specs.declared.output.Output.{Output}
use Rattle.wave_files.specs.Written.{WritesWhole, WritesLess}
use Rattle.wave.specs.Private.InputLines.{IsCutOff, TakesLine}

-- why a line is not answered: it is no text; or there was no memory
abbrev pub IsUnansweredLine : List ℕ → RunError → Type 0
IsUnansweredLine text (NotUtf8 place) = IsTextUpTo text place
IsUnansweredLine text InputFailed = ⊥
IsUnansweredLine text OutOfMemory = ⊤

-- why the next line is not answered: it was taken and is no text; the input was cut off; or there was no memory
abbrev pub IsNoNextAnswer : {R : Type 0} → Option (List ℕ) → Option (List ℕ) → Input R → Input R → RunError → Type 0
IsNoNextAnswer left rest old new (NotUtf8 place) = (text : List ℕ) × TakesLine left rest text × IsTextUpTo text place × (new.failures ≡ old.failures)
IsNoNextAnswer left rest old new InputFailed = IsCutOff old new InputFailed
IsNoNextAnswer left rest old new OutOfMemory = new.failures ≡ old.failures

-- the last text was written, or a beginning of it where a write failed; nothing where one had failed before
abbrev pub ShowsLast : {E : Type 0} → (E → Option (List ℕ)) → Output E → Output E → Bool → List ℕ → Type 0
ShowsLast held old new is_shown last = MatchBool is_shown (WritesWhole held old new last ⊎ WritesLess held old new last) (new ≡ old)

-- a beginning of the text that was held was written, and the rest is held
abbrev pub Releases : {W : Type 0} → (W → Option (List ℕ)) → Output W → Output W → List ℕ → List ℕ → Type 0
Releases contents before after held rest = (prefix : List ℕ) × (held ≡ prefix ++ rest) × WritesWhole contents before after prefix
