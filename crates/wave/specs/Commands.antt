-- The commands and options of the program, by their names.
use Rattle.std.specs.Prelude.{ℕ, List, [], ◌∷◌, codes}

-- the commands that have a page
abbrev pub paged_names : List (List ℕ)
paged_names = codes "value" ∷ codes "call" ∷ codes "read" ∷ codes "format" ∷ codes "check" ∷ codes "completions" ∷ []

-- the commands
abbrev pub command_names : List (List ℕ)
command_names =
    codes "value" ∷ codes "call" ∷ codes "read" ∷ codes "format" ∷ codes "check" ∷ codes "completions" ∷ codes "help" ∷ codes "version" ∷ []

-- the options behind a command
abbrev pub option_names : List (List ℕ)
option_names =
    codes "lines" ∷ codes "pretty" ∷ codes "quiet" ∷ codes "type" ∷ codes "check" ∷ codes "write" ∷ codes "width" ∷ codes "indent" ∷ codes "format"
    ∷ codes "help" ∷ []
