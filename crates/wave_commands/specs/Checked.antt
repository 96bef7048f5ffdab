-- What `check` answers on the text of a file.
use Rattle.std.specs.Prelude.{ℕ, List, [], ◌∷◌, ◌≡◌, ◌⊎◌, ◌++◌, None, length, string_bytes}
use Rattle.std.specs.declared.ops.Range.{Range}
use Rattle.wave_wasm.specs.Types.{TypeTree, HasDistinctNames}
use Rattle.wave_wasm.specs.Values.{Value}
use Rattle.wave_lex.specs.Errors.{Diagnostic}
use Rattle.wave_grammar.specs.Denotes.{Means, MeansNone}
use Rattle.wave_grammar.specs.ParserPosition.{Place, TakesItem}
use Rattle.wave_grammar.specs.PrefixAutomaton.{value}
use Rattle.wave_grammar.specs.SpannedTree.{SpannedTree}
use Rattle.wave_grammar.specs.SyntaxErrors.{IsSyntaxError}
use Rattle.wave_faults.specs.AllFaults.{AreFaults}
use Rattle.wave_tree.specs.FromStr.{IsTreeRead, TextFault}
use Rattle.wave_tree.specs.ParserState.{IsTrailing, start_of}
use Rattle.wave_explain.specs.ValueExplained.{ExplainsValue}
use Rattle.wave_files.specs.declared.answers.Answer.{Answer}
use Rattle.wave_files.specs.declared.answers.FileName.{FileName}
use Rattle.wave_commands.specs.declared.report.Style.{Style}
use Rattle.wave_commands.specs.Reports.{IsReport}

-- what is told of what stands behind a tree: nothing at the end of the text, or `TrailingCharacters`
abbrev pub AreBehind : Place → List Diagnostic → Type 0
AreBehind p [] = (behind : Place) × TakesItem p None behind
AreBehind p (e ∷ []) = IsTrailing e p
AreBehind p _ = ⊥

-- so much is told behind these errors
abbrev pub AddsBehind : Place → List Diagnostic → List Diagnostic → Type 0
AddsBehind p old new = (others : List Diagnostic) × AreBehind p others × (new ≡ old ++ others)

-- a tree of at most 100 levels begins the text: all faults of it at the type T, in order, and then what is told of what stands behind it
pub record AreFaultsOfTree (T : TypeTree) (source : List ℕ) (errors : List Diagnostic) : Type 0 where
  pub end : Place
  pub tree : SpannedTree
  pub read : IsTreeRead 100 (start_of source) end tree
  pub faults : List Diagnostic
  pub are_faults : AreFaults T tree faults
  pub others : List Diagnostic
  pub are_behind : AreBehind end others
  pub errors_are : errors ≡ faults ++ others

-- the faults of the text at the type T: that no tree of at most 100 levels begins it, alone; or those of the tree that does
abbrev pub AreFaultsOf : TypeTree → List ℕ → List Diagnostic → Type 0
AreFaultsOf T source errors =
    ((e : Diagnostic) × (p : Place) × IsSyntaxError e 100 value [] (start_of source) p × (errors ≡ e ∷ []))
    ⊎ AreFaultsOfTree T source errors

-- there is none where the text means a value; else the first is the one that `from_str` answers
abbrev pub AgreesWithReading : TypeTree → List ℕ → List Diagnostic → Type 0
AgreesWithReading T source [] = (v : Value) × Means T 100 source v
AgreesWithReading T source (e ∷ more) = TextFault T 100 source e × MeansNone T 100 source

-- the text tells the fault at the type T in this style, by its explanation
abbrev pub TellsFault : Style → FileName → List ℕ → TypeTree → Diagnostic → List ℕ → Type 0
TellsFault style name source T e text =
    (mark : Range ℕ) × (path : List ℕ) × (lines : List ℕ) × ExplainsValue source T e mark path lines × IsReport style name source e mark path lines text

-- so each of the faults in turn
abbrev pub TellsFaults : Style → FileName → List ℕ → TypeTree → List Diagnostic → List ℕ → Type 0
TellsFaults style name source T [] text = text ≡ []
TellsFaults style name source T (e ∷ errors) text =
    (one : List ℕ) × (others : List ℕ) × TellsFault style name source T e one × TellsFaults style name source T errors others × (text ≡ one ++ others)

-- nothing is printed, and each fault of the text at the type T is told
pub record IsChecked (T : TypeTree) (style : Style) (name : FileName) (source : List ℕ) (answer : Answer) : Type 0 where
  pub errors : List Diagnostic
  pub are_faults : AreFaultsOf T source errors
  pub agrees : HasDistinctNames T → AgreesWithReading T source errors
  pub nothing : string_bytes answer.printed ≡ []
  pub told : TellsFaults style name source T errors (string_bytes answer.shown)
  pub kept : answer.replacement ≡ None
  pub counted : answer.faults ≡ length errors
