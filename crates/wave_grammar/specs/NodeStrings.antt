-- What a node answers about its string.
use Rattle.std.specs.Prelude.{ℕ, ◌≡◌, ◌≢◌, ◌≤◌, ◌⊎◌, ◌+◌, List, length, Result, Ok, Err}
use Rattle.wave_wasm.specs.Lists.{AllOf}
use Rattle.wave_lex.specs.Tokens.{backslash}
use Rattle.wave_lex.specs.Errors.{Diagnostic}
use Rattle.wave_lex.specs.declared.error.ParserErrorKind.TheVariants.{InvalidType}
use Rattle.wave_lex.specs.Parts.{ReportsBadEscape, ReportsFault}
use Rattle.wave_lex.specs.Strings.{StringMeans, IsInQuotes, IsBadEscapeAt}
use Rattle.wave_lex.specs.Multiline.{pieces, MultilineMeans, IsInThreeQuotes, LineFault, MultilineFault, fault_span}
use Rattle.wave_grammar.specs.NodeTree.{NodeTree, type_of, place_of}
use Rattle.wave_grammar.specs.NodeAccessors.{node_text, RefusedAs, IsInside}
use Rattle.wave_grammar.specs.declared.form.NodeType.TheVariants as kind
use Rattle.std.specs.Cow.{cow_str_bytes}
use Rattle.std.specs.declared.borrow.CowStr.{CowStr}
use Rattle.wave_grammar.specs.StringAssembly.{BorrowedWhere, IsOutOfMemoryAt}

-- ---- the string of a node

-- the string or multiline string at a node stands for the text
abbrev pub StandsFor : List ℕ → NodeTree → List ℕ → Type 0
StandsFor source n t =
    (type_of n ≡ kind.String) × StringMeans (node_text source n) t ⊎ (type_of n ≡ kind.MultilineString) × MultilineMeans (node_text source n) t

-- the refusal reports the first bad escape of a string, or what is wrong with a multiline string
abbrev pub ReportsStringFault : List ℕ → NodeTree → Diagnostic → Type 0
ReportsStringFault source n e =
    ((type_of n ≡ kind.String) × (inside : List ℕ) × (i : ℕ) × IsInQuotes (node_text source n) inside × IsBadEscapeAt inside i
    × ReportsBadEscape e ((place_of n).start + 1 + i))
    ⊎ ((type_of n ≡ kind.MultilineString) × (inside : List ℕ) × (f : LineFault) × IsInThreeQuotes (node_text source n) inside × MultilineFault inside f
    × ReportsFault e f (fault_span ((place_of n).start + 3) (length inside) f))

-- the text of a node is one run of the source, or empty: between its quotes stands no `\`, and of a multiline string one line at most
abbrev pub IsRunAt : List ℕ → NodeTree → Type 0
IsRunAt source n =
    (inside : List ℕ) × IsInside source n inside × AllOf (λ b. b ≢ backslash) inside × (type_of n ≡ kind.MultilineString → length (pieces inside) ≤ 3)

-- a refusal of the text of a node; or out of memory, where it had to be copied; or `InvalidType` at another node than a string
abbrev pub RefusesString : List ℕ → NodeTree → Diagnostic → Type 0
RefusesString source n e =
    (type_of n ≢ kind.String) × (type_of n ≢ kind.MultilineString) × RefusedAs InvalidType n e
    ⊎ ReportsStringFault source n e
    ⊎ IsOutOfMemoryAt (place_of n) e × (IsRunAt source n → ⊥)

-- the text of a string, borrowed where it is one run; or a refusal of its text; or out of memory, where it had to be copied; or `InvalidType` at another node
abbrev pub GivesString : {A : Type 0} → List ℕ → NodeTree → Result (CowStr A) Diagnostic → Type 0
GivesString source n (Ok c) = StandsFor source n (cow_str_bytes c) × BorrowedWhere (IsRunAt source n) c
GivesString source n (Err e) = RefusesString source n e
