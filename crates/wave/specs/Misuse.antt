-- What is said of arguments that ask for nothing.
use Rattle.std.specs.Prelude.{ℕ, ◌≡◌, ◌≢◌, ◌<◌, ◌≤◌, ◌⊎◌, List, [], ◌∷◌, ◌++◌, length, slice_index_or, IfSome, MatchResult, codes, nat_eq}
use Rattle.std.specs.Fmt.{debug_str}
use Rattle.std.specs.Str.{chars}
use Rattle.std.specs.declared.alloc.AllocError.{AllocError}
use Rattle.std.specs.declared.option.Option.{Option}
use Rattle.std.specs.declared.result.Result.{Result}
use Rattle.strsim.specs.Edits.{levenshtein_row}
use Rattle.wave_wasm.specs.Lists.{AllOf}
use Rattle.wave_wasm.specs.Types.{TypeTree}
use Rattle.wave_type.specs.FunctionSpelling.{IsFunctionOf, IsNoFunction}
use Rattle.wave_type.specs.FunctionType.{FunctionType, types_of}
use Rattle.wave_type.specs.TypeErrors.{TypeRefusal}
use Rattle.wave_type.specs.TypeItems.{IsTypeFault, IsFunctionFault}
use Rattle.wave_type.specs.declared.error.TypeErrorKind.TheVariants as kind
use Rattle.wave_type.specs.TypeSpelling.{IsTypeOf, IsNoType}
use Rattle.wave_type_explain.specs.TypeExplained as explained
use Rattle.wave_files.specs.declared.output.Output.{Output}
use Rattle.wave.specs.Commands.{command_names, paged_names}
use Rattle.wave.specs.Completions.{IsScript, HasNoScript}
use Rattle.wave.specs.Help.{AskForHelp, AskForVersion, IsPage, HasNoPage}
use Rattle.wave.specs.Lines.{line}
use Rattle.wave.specs.Requests.{IsLimitWord}
use Rattle.wave.specs.Types.{text_of, HasValue}
use Rattle.wave_files.specs.Written.{WritesWhole, WritesLess}

-- the commands, and how many arguments each has at most, itself included
abbrev pub commands : List (List ℕ × ℕ)
commands =
    (codes "value", 2) ∷ (codes "call", 2) ∷ (codes "read", 3)
    ∷ (codes "completions", 2) ∷ (codes "help", 2) ∷ (codes "--help", 1) ∷ (codes "-h", 1)
    ∷ (codes "version", 1) ∷ (codes "--version", 1) ∷ (codes "-V", 1)
    ∷ []

-- a command of at most so many arguments
abbrev pub IsCommandAmong : List (List ℕ × ℕ) → List ℕ → ℕ → Type 0
IsCommandAmong [] word most = ⊥
IsCommandAmong (command ∷ more) word most = (word ≡ command.0) × (most ≡ command.1) ⊎ IsCommandAmong more word most

abbrev pub IsCommand : List ℕ → ℕ → Type 0
IsCommand word most = IsCommandAmong commands word most

-- the word in quotes, and with escapes, which are stated of words of ASCII
abbrev pub IsQuoted : List ℕ → List ℕ → Type 0
IsQuoted word quoted = IfSome (debug_str word) (λ text. quoted ≡ text)

-- how many characters have to be put in, left out or replaced
unfoldable pub edits : List ℕ → List ℕ → ℕ
edits word other = levenshtein_row nat_eq (chars word) (chars other) (length (chars other))

-- this one of the words is the first to which the fewest edits lead
abbrev pub IsNearest : List ℕ → List (List ℕ) → List ℕ → Type 0
IsNearest word words near =
    (before : List (List ℕ)) × (behind : List (List ℕ)) × (words ≡ before ++ near ∷ behind)
    × AllOf (λ other. edits word near < edits word other) before
    × AllOf (λ other. edits word near ≤ edits word other) behind

-- what is said of the nearest of the words, at most two edits away; nothing where none is that near
abbrev pub IsHint : List ℕ → List (List ℕ) → List ℕ → Type 0
IsHint word words hint =
    AllOf (λ other. 2 < edits word other) words × (hint ≡ [])
    ⊎ ((near : List ℕ) × IsNearest word words near × (edits word near ≤ 2)
    × (hint ≡ codes "; did you mean \"" ++ (near ++ codes "\"?")))

-- the text is that of a type or of a function's type that is refused, and the refusal is shown in it, with what may stand there
abbrev pub IsTypeExplained : List ℕ → List ℕ → Type 0
IsTypeExplained text why = (e : TypeRefusal) × (e.kind ≢ kind.OutOfMemory) × IsNoType text e.kind × IsTypeFault text e × explained.IsTypeExplained text e why

abbrev pub IsFuncExplained : List ℕ → List ℕ → Type 0
IsFuncExplained text why = (e : TypeRefusal) × (e.kind ≢ kind.OutOfMemory) × IsNoFunction text e.kind × IsFunctionFault text e × explained.IsFunctionExplained text e why

-- the first argument is no command, and perhaps one is near
abbrev pub IsUnknownCommand : List (List ℕ) → List ℕ → Type 0
IsUnknownCommand words why =
    (word : List ℕ) × (more : List (List ℕ)) × (quoted : List ℕ) × (hint : List ℕ)
    × (words ≡ word ∷ more) × ((most : ℕ) → IsCommand word most → ⊥) × IsQuoted word quoted × IsHint word command_names hint
    × (why ≡ codes "unknown command " ++ (quoted ++ line hint))

-- behind a command and what it takes stands one more
abbrev pub HasTooMany : List (List ℕ) → List ℕ → Type 0
HasTooMany words why =
    (word : List ℕ) × (more : List (List ℕ)) × (most : ℕ) × (quoted : List ℕ)
    × (words ≡ word ∷ more) × IsCommand word most × (most < length words) × IsQuoted (slice_index_or words most []) quoted
    × (why ≡ codes "an argument too many: " ++ line quoted)

-- where a limit may stand, behind these, stands none
abbrev pub HasNoLimit : List (List ℕ) → List ℕ → Type 0
HasNoLimit words why =
    (prefix : List (List ℕ)) × (word : List ℕ) × (quoted : List ℕ)
    × (words ≡ prefix ++ word ∷ []) × ((prefix ≡ codes "value" ∷ []) ⊎ ((type : List ℕ) × (prefix ≡ codes "read" ∷ type ∷ [])))
    × ((n : ℕ) → IsLimitWord word n → ⊥) × IsQuoted word quoted
    × (why ≡ quoted ++ line (codes " is no number of levels: N is a whole number from 1 to 1000"))

-- the word names no type, and the refusal is shown in its text; or it names one that has no value
abbrev pub IsBadType : List ℕ → List ℕ → Type 0
IsBadType word why =
    ((shown : List ℕ) × IsTypeExplained (text_of word) shown × (why ≡ codes "argument 2 is no type:\n" ++ shown))
    ⊎ ((T : TypeTree) × IsTypeOf (text_of word) T × (HasValue T → ⊥)
    × (why ≡ line (codes "argument 2 is a type without a value: f32 and f64 have none here, nor has what needs one of them")))

-- so of the type of a function; or a parameter has a type that has no value
abbrev pub IsBadFunc : List ℕ → List ℕ → Type 0
IsBadFunc word why =
    ((shown : List ℕ) × IsFuncExplained word shown × (why ≡ codes "argument 2 is no type of a function:\n" ++ shown))
    ⊎ ((f : FunctionType) × IsFunctionOf word f × (AllOf HasValue (types_of f.params) → ⊥)
    × (why ≡ line (codes "argument 2 has a parameter of a type without a value: f32 and f64 have none here, nor has what needs one of them")))

-- `read` and the word for a type are all of the arguments, or a limit comes after them
abbrev pub AskToRead : List (List ℕ) → List ℕ → Type 0
AskToRead words word =
    (words ≡ codes "read" ∷ word ∷ [])
    ⊎ ((limit : List ℕ) × (n : ℕ) × (words ≡ codes "read" ∷ word ∷ limit ∷ []) × IsLimitWord limit n)

-- the words ask for the page of a command, which has none; and perhaps one that has is near
abbrev pub HasNoSuchPage : List (List ℕ) → List ℕ → Type 0
HasNoSuchPage words why =
    (word : List ℕ) × (quoted : List ℕ) × (hint : List ℕ)
    × (words ≡ codes "help" ∷ word ∷ []) × HasNoPage word × IsQuoted word quoted × IsHint word paged_names hint
    × (why ≡ codes "no page for " ++ (quoted ++ line hint))

-- they ask for the script for a shell, which has none
abbrev pub HasNoSuchScript : List (List ℕ) → List ℕ → Type 0
HasNoSuchScript words why =
    (word : List ℕ) × (quoted : List ℕ)
    × (words ≡ codes "completions" ∷ word ∷ []) × HasNoScript word × IsQuoted word quoted
    × (why ≡ codes "no completions for " ++ (quoted ++ line (codes ": SHELL is bash, zsh or fish")))

-- they ask for a text, with which no option goes
abbrev pub TakeNoOption : List (List ℕ) → Type 0
TakeNoOption words =
    AskForHelp words
    ⊎ AskForVersion words
    ⊎ ((command : List ℕ) × (page : List ℕ) × (words ≡ codes "help" ∷ command ∷ []) × IsPage command page)
    ⊎ ((shell : List ℕ) × (script : List ℕ) × (words ≡ codes "completions" ∷ shell ∷ []) × IsScript shell script)

-- what is wrong with the arguments, and what is said of it; no two of these can be so at once
abbrev pub IsMisuse : List (List ℕ) → List ℕ → Type 0
IsMisuse words why =
    (words ≡ []) × (why ≡ line (codes "no command"))
    ⊎ IsUnknownCommand words why
    ⊎ HasTooMany words why
    ⊎ (words ≡ codes "read" ∷ []) × (why ≡ line (codes "no type: read takes the text of one, or the name of a sample"))
    ⊎ HasNoLimit words why
    ⊎ ((word : List ℕ) × AskToRead words word × IsBadType word why)
    ⊎ ((word : List ℕ) × (words ≡ codes "call" ∷ word ∷ []) × IsBadFunc word why)
    ⊎ HasNoSuchPage words why
    ⊎ (words ≡ codes "completions" ∷ []) × (why ≡ line (codes "no shell: completions takes bash, zsh or fish"))
    ⊎ HasNoSuchScript words why
    ⊎ TakeNoOption words × (why ≡ line (codes "--lines and --quiet stand behind value, call or read"))

-- what is said of arguments without options that make no request, and where help is
abbrev pub IsExplainedMisuse : List (List ℕ) → List ℕ → Type 0
IsExplainedMisuse words text = (why : List ℕ) × IsMisuse words why × (text ≡ why ++ line (codes "wave --help has the arguments"))

module _ {E : Type 0} (contents : E → Option (List ℕ)) where
  -- it was written, or a beginning of it where a write failed; or out of memory was answered, and nothing was written
  abbrev pub ShowsMisuse : List (List ℕ) → Output E → Output E → Result (Unit {0}) AllocError → Type 0
  ShowsMisuse words old new shown = MatchResult shown
      (λ _. (text : List ℕ) × IsExplainedMisuse words text × (WritesWhole contents old new text ⊎ WritesLess contents old new text))
      (λ _. new ≡ old)
