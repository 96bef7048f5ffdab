-- The options among the arguments after the program's name.
use Rattle.std.specs.Prelude.{ℕ, Bool, true, false, List, [], codes}
use Rattle.wave_files.specs.Options.{is_given, without}

-- each line of the input is to be a text
abbrev pub is_by_lines : List (List ℕ) → Bool
is_by_lines words = is_given (codes "--lines") words

-- what is no answer is not to be printed
abbrev pub is_quiet : List (List ℕ) → Bool
is_quiet words = is_given (codes "--quiet") words

-- the arguments but for the options
abbrev pub plain : List (List ℕ) → List (List ℕ)
plain words = without (codes "--quiet") (without (codes "--lines") words)

-- the text, or nothing where that is not to be printed
abbrev pub unless_quiet : Bool → List ℕ → List ℕ
unless_quiet true text = []
unless_quiet false text = text
