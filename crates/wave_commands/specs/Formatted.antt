-- What `format` answers on the text of a file.
use Rattle.std.specs.Prelude.{ℕ, List, [], ◌≡◌, ◌≢◌, ◌⊎◌, ◌++◌, ◌∷◌, Some, None, MatchBool, option_map, string_bytes}
use Rattle.std.specs.Str.{bytes_eq}
use Rattle.std.specs.declared.option.Option.{Option}
use Rattle.std.specs.declared.ops.Range.{Range}
use Rattle.wave_lex.specs.Errors.{Diagnostic}
use Rattle.wave_lex.specs.declared.error.ParserErrorKind.TheVariants.{OutOfMemory}
use Rattle.wave_grammar.specs.DisplayLaws.{MeanTheSame}
use Rattle.wave_tree.specs.Untyped.{RefusesTree}
use Rattle.wave_format.specs.Layout.{IsLaidOut, KeepsTrees}
use Rattle.wave_explain.specs.ValueExplained.{ExplainsUntyped}
use Rattle.wave_files.specs.declared.answers.Answer.{Answer}
use Rattle.wave_files.specs.declared.answers.FileName.{FileName}
use Rattle.wave_commands.specs.declared.format.Purpose.{Purpose}
use Rattle.wave_commands.specs.declared.format.Purpose.TheVariants.{Print, Compare, Write}
use Rattle.wave_commands.specs.declared.report.Style.TheVariants.{Blocks}
use Rattle.wave_commands.specs.Reports.{IsReport}

-- the text is laid out from the source: it has the same tokens and comments, and means the same
pub record IsLayoutOf (source laid : List ℕ) : Type 0 where
  pub laid_out : IsLaidOut source laid
  pub trees : KeepsTrees source laid
  pub means : MeanTheSame source laid

-- the answer prints this, replaces the file's text by this, and counts so many faults
pub record Answers (answer : Answer) (printed : List ℕ) (replacement : Option (List ℕ)) (faults : ℕ) : Type 0 where
  pub prints : string_bytes answer.printed ≡ printed
  pub replaces : option_map string_bytes answer.replacement ≡ replacement
  pub counts : answer.faults ≡ faults

-- what is done with the text that is laid out: it is printed; or, where the source is another text, its file is named and counted, or the
-- source is replaced by it
abbrev pub IsUsed : Purpose → FileName → List ℕ → List ℕ → Answer → Type 0
IsUsed Print name source laid answer = Answers answer laid None 0
IsUsed Compare name source laid answer = MatchBool (bytes_eq laid source) (Answers answer [] None 0) (Answers answer (string_bytes name.path ++ 10 ∷ []) None 1)
IsUsed Write name source laid answer = MatchBool (bytes_eq laid source) (Answers answer [] None 0) (Answers answer [] (Some laid) 0)

-- the text tells why the source has no layout, by its explanation
abbrev pub TellsRefusal : FileName → List ℕ → Diagnostic → List ℕ → Type 0
TellsRefusal name source e text =
    (mark : Range ℕ) × (path : List ℕ) × (lines : List ℕ) × ExplainsUntyped source e mark path lines × IsReport Blocks name source e mark path lines text

-- the source is laid out, with a line feed at its end, and used so, and nothing is shown; or it spells no value, which is shown and counted, and it is left as it is
abbrev pub IsFormatted : Purpose → FileName → List ℕ → Answer → Type 0
IsFormatted purpose name source answer =
    ((laid : List ℕ) × IsLayoutOf source laid × IsUsed purpose name source (laid ++ 10 ∷ []) answer × (string_bytes answer.shown ≡ []))
    ⊎ ((e : Diagnostic) × (e.kind ≢ OutOfMemory) × RefusesTree 100 source e × TellsRefusal name source e (string_bytes answer.shown) × Answers answer [] None 1)
