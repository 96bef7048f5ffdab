-- What the arguments of a command over files ask for.
use Rattle.std.specs.Prelude.{ℕ, Bool, true, false, List, [], ◌∷◌, ◌++◌, ◌≡◌, ◌≢◌, ◌≤◌, ◌⊎◌, Some, None, MatchOption, drop, slice_get, codes, string_bytes}
use Rattle.std.specs.declared.option.Option.{Option}
use Rattle.wave_grammar.specs.NumberText.{all_digits}
use Rattle.wave_files.specs.Folders.{Holds}
use Rattle.wave_files.specs.Options.{is_given, without, value_of, without_value}
use Rattle.wave_files.specs.declared.answers.FileName.{FileName}
use Rattle.wave_commands.specs.Names.{IsNameOf}
use Rattle.wave_commands.specs.declared.format.Purpose.{Purpose}
use Rattle.wave_commands.specs.declared.format.Purpose.TheVariants.{Print, Compare, Write}
use Rattle.wave_commands.specs.declared.check.Check.{Check}
use Rattle.wave_commands.specs.declared.format.Format.{Format}
use Rattle.wave_commands.specs.declared.report.Style.{Style}
use Rattle.wave_commands.specs.declared.report.Style.TheVariants.{Blocks, Short, Json}
use Rattle.wave.specs.declared.file_arguments.Command.{Command}
use Rattle.wave.specs.declared.file_arguments.Command.TheVariants as command
use Rattle.wave.specs.declared.reading.Reading.{Reading}
use Rattle.wave.specs.Requests.{AreWordsOf}
use Rattle.wave.specs.Types.{NamesType}

-- the word names a file: it begins with no hyphen, or is one
abbrev pub IsFileWord : List ℕ → Type 0
IsFileWord [] = Unit {0}
IsFileWord (byte ∷ bytes) = byte ≡ 45 → bytes ≡ []

-- the words name these files
abbrev pub AreNamed : List (List ℕ) → List FileName → Type 0
AreNamed [] [] = Unit {0}
AreNamed (word ∷ words) (name ∷ names) = IsFileWord word × IsNameOf word name × AreNamed words names
AreNamed [] (name ∷ names) = ⊥
AreNamed (word ∷ words) [] = ⊥

-- the words name these files, or there are none, and the one file is the standard input
abbrev pub AreNamedOrInput : List (List ℕ) → List FileName → Type 0
AreNamedOrInput words names = (words ≢ []) × AreNamed words names ⊎ (words ≡ []) × AreNamed (codes "-" ∷ []) names

-- what the option says is the number, from the least to the most; or the option is not given, and the number is the usual one
abbrev pub IsNumberOf : Option (List ℕ) → ℕ → ℕ → ℕ → ℕ → Type 0
IsNumberOf None usual least most number = number ≡ usual
IsNumberOf (Some word) usual least most number = (all_digits word ≡ Some number) × (least ≤ number) × (number ≤ most)

-- what is done with a layout, by whether `--check` and `--write` are given
abbrev pub IsPurpose : Bool → Bool → Purpose → Type 0
IsPurpose false false purpose = purpose ≡ Print
IsPurpose true false purpose = purpose ≡ Compare
IsPurpose false true purpose = purpose ≡ Write
IsPurpose true true purpose = ⊥

-- the arguments ask for the layout of files: within the width and by the indent that they tell, for the purpose, of the files behind the command
abbrev pub AskToFormat : List (List ℕ) → Format → List FileName → Type 0
AskToFormat words format names =
    let narrow = without_value (codes "--width") words in
    let indented = without_value (codes "--indent") narrow in
    let compared = without (codes "--check") indented in
    IsNumberOf (value_of (codes "--width") words) 80 20 1000 format.options.width
    × IsNumberOf (value_of (codes "--indent") narrow) 2 0 16 format.options.indent
    × IsPurpose (is_given (codes "--check") indented) (is_given (codes "--write") compared) format.purpose
    × AreNamedOrInput (drop 1 (without (codes "--write") compared)) names

-- behind the options that name the file of a type: what they say, and the arguments without it
abbrev pub IsTypeFile : List (List ℕ) → Option (List ℕ) → List (List ℕ) → Type 0
IsTypeFile words path rest =
    let unnamed = without_value (codes "--type") words in
    ((file : List ℕ) × (value_of (codes "--type") words ≡ Some file) × (path ≡ Some file) × (rest ≡ unnamed))
    ⊎ (value_of (codes "--type") words ≡ None) × (path ≡ value_of (codes "-t") unnamed) × (rest ≡ without_value (codes "-t") unnamed)

-- the words, with this one behind the first
abbrev pub put_second : List ℕ → List (List ℕ) → List (List ℕ)
put_second word [] = word ∷ []
put_second word (first ∷ words) = first ∷ word ∷ words

-- where the arguments name the file of a type, its text stands behind the command; else they are as they were
abbrev pub AreTyped : (List ℕ → Option (List ℕ)) → List (List ℕ) → List (List ℕ) → Type 0
AreTyped holds words typed =
    (path : Option (List ℕ)) × (rest : List (List ℕ)) × IsTypeFile words path rest
    × MatchOption path (typed ≡ rest) (λ file. (text : List ℕ) × Holds (holds file) text × (typed ≡ put_second text rest))

-- how faults are told, by what `--format` says
abbrev pub IsStyleOf : Option (List ℕ) → Style → Type 0
IsStyleOf None style = style ≡ Blocks
IsStyleOf (Some word) style = (word ≡ codes "short") × (style ≡ Short) ⊎ (word ≡ codes "json") × (style ≡ Json)

-- the arguments ask for a check: at the type that the word behind the command stands for, told so, of the files behind that
abbrev pub AskToCheck : (List ℕ → Option (List ℕ)) → List (List ℕ) → Check → List FileName → Type 0
AskToCheck holds words check names =
    (typed : List (List ℕ)) × (word : List ℕ)
    × IsStyleOf (value_of (codes "--format") words) check.style × AreTyped holds (without_value (codes "--format") words) typed
    × (slice_get typed 1 ≡ Some word) × NamesType word check.ty × (drop 2 typed ≢ []) × AreNamed (drop 2 typed) names

-- the arguments ask for a request on files: that of the words up to the files; over lines, where `--pretty` is given. `--lines` is not
abbrev pub AskToRead : (List ℕ → Option (List ℕ)) → List (List ℕ) → Reading → List FileName → Type 0
AskToRead holds words reading names =
    let plain = without (codes "--pretty") words in
    let loud = without (codes "--quiet") plain in
    (typed : List (List ℕ)) × (before files : List (List ℕ))
    × (reading.is_pretty ≡ is_given (codes "--pretty") words)
    × (is_given (codes "--lines") loud ≡ false) × AreTyped holds (without (codes "--lines") loud) typed
    × (typed ≡ before ++ files) × AreWordsOf reading.request before × AreNamedOrInput files names

-- the arguments make the command
abbrev pub MakeCommand : (List ℕ → Option (List ℕ)) → List (List ℕ) → Command → Type 0
MakeCommand holds words (command.Format format names) = ((more : List (List ℕ)) × (words ≡ codes "format" ∷ more)) × AskToFormat words format names.items
MakeCommand holds words (command.Check check names) = ((more : List (List ℕ)) × (words ≡ codes "check" ∷ more)) × AskToCheck holds words check names.items
MakeCommand holds words (command.Read reading names) = AskToRead holds words reading names.items
