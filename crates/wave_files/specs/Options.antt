-- The options among the arguments after the program's name.
use Rattle.std.specs.Prelude.{ℕ, Bool, false, List, [], ◌∷◌, Some, None, if◌then◌else◌, ◌||◌}
use Rattle.std.specs.declared.option.Option.{Option}
use Rattle.std.specs.Str.{bytes_eq}

-- the word is one of these
abbrev pub stands_among : List ℕ → List (List ℕ) → Bool
stands_among word [] = false
stands_among word (other ∷ words) = bytes_eq other word || stands_among word words

-- the words without the first that is this one
abbrev pub remove_word : List ℕ → List (List ℕ) → List (List ℕ)
remove_word word [] = []
remove_word word (other ∷ words) = if bytes_eq other word then words else other ∷ remove_word word words

-- the option stands behind the first argument
abbrev pub is_given : List ℕ → List (List ℕ) → Bool
is_given option [] = false
is_given option (command ∷ words) = stands_among option words

-- the arguments without the option, where it stands behind the first: one that is given twice is left once
abbrev pub without : List ℕ → List (List ℕ) → List (List ℕ)
without option [] = []
without option (command ∷ words) = command ∷ remove_word option words

-- the first of the words
abbrev pub first_word : List (List ℕ) → Option (List ℕ)
first_word [] = None
first_word (word ∷ words) = Some word

-- the word behind the first that is this one
abbrev pub word_behind : List ℕ → List (List ℕ) → Option (List ℕ)
word_behind word [] = None
word_behind word (other ∷ words) = if bytes_eq other word then first_word words else word_behind word words

-- the words behind this one and the next; it stays where none stands behind it
abbrev pub behind_pair : List ℕ → List (List ℕ) → List (List ℕ)
behind_pair word [] = word ∷ []
behind_pair word (next ∷ words) = words

-- the words without the first that is this one and the word behind it; all where none stands behind it
abbrev pub remove_pair : List ℕ → List (List ℕ) → List (List ℕ)
remove_pair word [] = []
remove_pair word (other ∷ words) = if bytes_eq other word then behind_pair other words else other ∷ remove_pair word words

-- what the option says, which stands behind the first argument: the word behind it
abbrev pub value_of : List ℕ → List (List ℕ) → Option (List ℕ)
value_of option [] = None
value_of option (command ∷ words) = word_behind option words

-- the arguments without the option and what it says
abbrev pub without_value : List ℕ → List (List ℕ) → List (List ℕ)
without_value option [] = []
without_value option (command ∷ words) = command ∷ remove_pair option words
