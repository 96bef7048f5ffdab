-- What was written of a line.
use Rattle.std.specs.Prelude.{ℕ, List, [], ◌++◌, ◌≡◌, ◌≢◌, ◌⊎◌}
use Rattle.std.specs.declared.option.Option.{Option}
use Rattle.std.specs.Io.KnownBytes.{Appends}
use Rattle.wave_files.specs.declared.output.Output.{Output}
use Rattle.wave_files.specs.Counts.{CountsOne}

module _ {W : Type 0} (contents : W → Option (List ℕ)) where
  -- the whole text was written, and no write failed
  abbrev pub WritesWhole : Output W → Output W → List ℕ → Type 0
  WritesWhole old new text = Appends (contents old.writer) (contents new.writer) text × (new.failures ≡ old.failures)

  -- a write failed, and the text was written but for some rest
  abbrev pub WritesLess : Output W → Output W → List ℕ → Type 0
  WritesLess old new text =
      CountsOne old.failures new.failures
      × (prefix : List ℕ) × (rest : List ℕ) × (text ≡ prefix ++ rest) × (rest ≢ []) × Appends (contents old.writer) (contents new.writer) prefix

  -- the line was written whole, and the result is its status; or a write failed before all of it was written, and the result is 3
  abbrev pub Prints : Output W → Output W → List ℕ → ℕ → ℕ → Type 0
  Prints old new said status result =
      (result ≡ status) × WritesWhole old new said
      ⊎ (result ≡ 3) × WritesLess old new said
