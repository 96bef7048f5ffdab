-- What is printed of the program itself.
use Rattle.std.specs.Prelude.{ℕ, ◌-◌, List, [], ◌∷◌, ◌++◌, ◌≡◌, ◌⊎◌, length, map, replicate, codes}
use Rattle.std.specs.Str.Iter.{HasSubslice}
use Rattle.wave_wasm.specs.Lists.{AllOf}
use Rattle.wave.specs.declared.help.TheConstants.{HELP, VALUE_PAGE, CALL_PAGE, READ_PAGE, FORMAT_PAGE, CHECK_PAGE, COMPLETIONS_PAGE, VERSION}
use Rattle.wave.specs.Completions.{IsScript}
use Rattle.wave.specs.Lines.{line}
use Rattle.wave.specs.Types.{samples}

-- the arguments ask for the help
abbrev pub AskForHelp : List (List ℕ) → Type 0
AskForHelp words = (words ≡ codes "--help" ∷ []) ⊎ (words ≡ codes "help" ∷ []) ⊎ (words ≡ codes "-h" ∷ [])

-- the arguments ask for the page of the command, by `help` before it, or by `--help` or `-h` behind it
abbrev pub AskForPage : List ℕ → List (List ℕ) → Type 0
AskForPage command words =
    (words ≡ codes "help" ∷ command ∷ [])
    ⊎ (words ≡ command ∷ codes "--help" ∷ [])
    ⊎ (words ≡ command ∷ codes "-h" ∷ [])

-- the arguments ask for the version
abbrev pub AskForVersion : List (List ℕ) → Type 0
AskForVersion words = (words ≡ codes "--version" ∷ []) ⊎ (words ≡ codes "version" ∷ []) ⊎ (words ≡ codes "-V" ∷ [])

-- what the help says of the commands, and of the options
abbrev pub forms : List (List ℕ)
forms =
    codes "\n  wave value [N] " ∷ codes "\n  wave call " ∷ codes "\n  wave call FUNC " ∷ codes "\n  wave read NAME [N] "
    ∷ codes "\n  wave format [FILE..] " ∷ codes "\n  wave check NAME FILE.. " ∷ codes "\n  wave help COMMAND " ∷ codes "\n  wave completions SHELL " ∷ codes "\n  wave --help " ∷ codes "`wave help`" ∷ codes "`wave -h`"
    ∷ codes "\n  wave --version " ∷ codes "\n--lines " ∷ codes "\n--pretty " ∷ codes "\n--quiet " ∷ codes "\n--type "
    ∷ []

-- what is said of a sample: a line with its name and, from column 14 on, its type
abbrev pub sample_row : List ℕ × List ℕ → List ℕ
sample_row sample = codes "\n  " ++ (sample.0 ++ (replicate (11 - length sample.0) 32 ++ line sample.1))

-- the text is the help: its first line, and all of these within it
pub record IsHelp (said : List ℕ) : Type 0 where
  pub is_constant : said ≡ HELP.now
  pub rest : List ℕ
  pub begins : said ≡ line (codes "wave reads a component value in its text form, WAVE, from standard input, and prints it.") ++ rest
  pub has_forms : AllOf (HasSubslice said) forms
  pub has_samples : AllOf (λ sample. HasSubslice said (sample_row sample)) samples

-- what a page has of the statuses, and its examples
abbrev pub ended_parts : List (List ℕ)
ended_parts = codes "\nstatus 0 " ∷ codes "\nstatus 1 " ∷ codes "\nstatus 2 " ∷ codes "\nstatus 3 " ∷ codes "\nexamples:\n" ∷ []

-- what the page of a command that reads one value has of its options too
abbrev pub reader_parts : List (List ℕ)
reader_parts = codes "\nFILE " ∷ codes "\n--lines " ∷ codes "\n--pretty " ∷ codes "\n--quiet " ∷ ended_parts

-- the text is this page: a line with the usage of the command, and all of these parts within it
pub record IsPageOf (page usage : List ℕ) (parts : List (List ℕ)) (said : List ℕ) : Type 0 where
  pub is_constant : said ≡ page
  pub rest : List ℕ
  pub begins : said ≡ line (codes "usage: wave " ++ usage) ++ rest
  pub has_parts : AllOf (HasSubslice said) parts

abbrev pub IsValuePage : List ℕ → Type 0
IsValuePage = IsPageOf VALUE_PAGE.now (codes "value [N] [FILE..] [--lines] [--pretty] [--quiet]") (codes "\nN " ∷ reader_parts)

abbrev pub IsCallPage : List ℕ → Type 0
IsCallPage = IsPageOf CALL_PAGE.now (codes "call [FUNC] [FILE..] [--lines] [--pretty] [--quiet]") (codes "\nFUNC " ∷ codes "\n--type " ∷ reader_parts)

abbrev pub IsReadPage : List ℕ → Type 0
IsReadPage = IsPageOf READ_PAGE.now (codes "read NAME [N] [FILE..] [--lines] [--pretty] [--quiet]") (codes "\nNAME " ∷ codes "\nN " ∷ codes "\n--type " ∷ (map sample_row samples ++ reader_parts))

abbrev pub IsFormatPage : List ℕ → Type 0
IsFormatPage = IsPageOf FORMAT_PAGE.now (codes "format [FILE..] [--check | --write] [--width N] [--indent N]")
    (codes "\nFILE " ∷ codes "\n--check " ∷ codes "\n--write " ∷ codes "\n--width " ∷ codes "\n--indent " ∷ ended_parts)

abbrev pub IsCheckPage : List ℕ → Type 0
IsCheckPage = IsPageOf CHECK_PAGE.now (codes "check NAME FILE.. [--format FORMAT]")
    (codes "\nNAME " ∷ codes "\nFILE " ∷ codes "\n--type " ∷ codes "\n--format " ∷ ended_parts)

abbrev pub IsCompletionsPage : List ℕ → Type 0
IsCompletionsPage = IsPageOf COMPLETIONS_PAGE.now (codes "completions SHELL") (codes "\nbash " ∷ codes "\nzsh " ∷ codes "\nfish " ∷ [])

-- the text is the page of the command
abbrev pub IsPage : List ℕ → List ℕ → Type 0
IsPage command said =
    (command ≡ codes "value") × IsValuePage said
    ⊎ (command ≡ codes "call") × IsCallPage said
    ⊎ (command ≡ codes "read") × IsReadPage said
    ⊎ (command ≡ codes "format") × IsFormatPage said
    ⊎ (command ≡ codes "check") × IsCheckPage said
    ⊎ (command ≡ codes "completions") × IsCompletionsPage said

-- the word has no page
abbrev pub HasNoPage : List ℕ → Type 0
HasNoPage word = (said : List ℕ) → IsPage word said → ⊥

-- the text is the version, of the program, of what it ports, and of the logic
abbrev pub IsVersion : List ℕ → Type 0
IsVersion said =
    (said ≡ VERSION.now)
    × (said ≡ line (codes "wave 0.1.0, a port of wasm-wave 0.263.0, proved with Rattle, logic dac8208d650f15bf"))

-- the arguments ask for the help, for the version, for a command's page or for a shell's script, which is said
abbrev pub IsNotice : List (List ℕ) → List ℕ → Type 0
IsNotice words said =
    AskForHelp words × IsHelp said
    ⊎ AskForVersion words × IsVersion said
    ⊎ ((command : List ℕ) × AskForPage command words × IsPage command said)
    ⊎ ((shell : List ℕ) × (words ≡ codes "completions" ∷ shell ∷ []) × IsScript shell said)

-- the arguments ask for none
abbrev pub IsNoNotice : List (List ℕ) → Type 0
IsNoNotice words = (said : List ℕ) → IsNotice words said → ⊥
