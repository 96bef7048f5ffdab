-- What a request answers on the text of a file.
use Rattle.std.specs.Prelude.{ℕ, Bool, true, false, List, [], ◌∷◌, ◌++◌, ◌≡◌, ◌≢◌, ◌⊎◌, Some, None, string_bytes}
use Rattle.std.specs.declared.ops.Range.{Range}
use Rattle.wave_type.specs.FunctionType.{func_of}
use Rattle.wave_lex.specs.Errors.{Diagnostic}
use Rattle.wave_lex.specs.declared.error.ParserErrorKind.TheVariants.{OutOfMemory}
use Rattle.wave_tree.specs.Untyped.{RefusesTree}
use Rattle.wave_tree.specs.UntypedCall.{RefusesCall}
use Rattle.wave_format.specs.Layout as layout
use Rattle.wave_explain.specs.ValueExplained.{ExplainsUntyped, ExplainsValue}
use Rattle.wave_explain.specs.CallExplained.{ExplainsUntypedCall, ExplainsCall}
use Rattle.wave_files.specs.declared.answers.Answer.{Answer}
use Rattle.wave_files.specs.declared.answers.FileName.{FileName}
use Rattle.wave_commands.specs.declared.report.Style.TheVariants.{Blocks}
use Rattle.wave_commands.specs.Formatted.{Answers, IsLayoutOf}
use Rattle.wave_commands.specs.Reports.{IsReport}
use Rattle.wave.specs.declared.request.Request.{Request}
use Rattle.wave.specs.declared.request.Request.TheVariants as request
use Rattle.wave.specs.Answers as answers
use Rattle.wave.specs.Lines.{line}

-- the text is that of a value, laid out over lines; or as it is, where it has no layout, since it has more than 100 levels
abbrev pub IsValueLaidOut : List ℕ → List ℕ → Type 0
IsValueLaidOut answer text = IsLayoutOf answer text ⊎ (text ≡ answer) × ((e : Diagnostic) × (e.kind ≢ OutOfMemory) × RefusesTree 100 answer e)

-- the call is laid out so: the same tokens and comments, and the same call
pub record IsCallLayoutOf (source laid : List ℕ) : Type 0 where
  pub laid_out : layout.IsCallLaidOut source laid
  pub calls : layout.KeepsCalls source laid

-- the text is that of a call, laid out over lines, or as it is, so
abbrev pub IsCallLaidOut : List ℕ → List ℕ → Type 0
IsCallLaidOut answer text = IsCallLayoutOf answer text ⊎ (text ≡ answer) × ((e : Diagnostic) × (e.kind ≢ OutOfMemory) × RefusesCall answer e)

-- the text is the request's answer, laid out over lines
abbrev pub IsLaidOutAs : Request → List ℕ → List ℕ → Type 0
IsLaidOutAs (request.Value n) answer text = IsValueLaidOut answer text
IsLaidOutAs request.Call answer text = IsCallLaidOut answer text
IsLaidOutAs (request.CallAt f) answer text = IsCallLaidOut answer text
IsLaidOutAs (request.Read T n) answer text = IsValueLaidOut answer text

-- the text shows the request's answer: as it is, or over lines
abbrev pub IsShownAs : Request → Bool → List ℕ → List ℕ → Type 0
IsShownAs asked false answer text = text ≡ answer
IsShownAs asked true answer text = IsLaidOutAs asked answer text

-- the mark, the path and the lines explain the refusal of the text
abbrev pub ExplainsIn : Request → List ℕ → Diagnostic → Range ℕ → List ℕ → List ℕ → Type 0
ExplainsIn (request.Value n) source e mark path lines = ExplainsUntyped source e mark path lines
ExplainsIn request.Call source e mark path lines = ExplainsUntypedCall source e mark path lines
ExplainsIn (request.CallAt f) source e mark path lines = ExplainsCall source (func_of f) e mark path lines
ExplainsIn (request.Read T n) source e mark path lines = ExplainsValue source T e mark path lines

-- the text tells the refusal, by its explanation
abbrev pub TellsRefusal : Request → FileName → List ℕ → Diagnostic → List ℕ → Type 0
TellsRefusal asked name source e text =
    (mark : Range ℕ) × (path : List ℕ) × (lines : List ℕ) × ExplainsIn asked source e mark path lines × IsReport Blocks name source e mark path lines text

-- the request has an answer on the source, which is printed on a line, or over lines, and nothing is shown; or the source is refused, which is
-- shown and counted
abbrev pub IsReadFile : Request → Bool → FileName → List ℕ → Answer → Type 0
IsReadFile asked is_pretty name source answer =
    ((said : List ℕ) × (text : List ℕ) × answers.Answers asked source said × IsShownAs asked is_pretty said text
    × Answers answer (line text) None 0 × (string_bytes answer.shown ≡ []))
    ⊎ ((e : Diagnostic) × (e.kind ≢ OutOfMemory) × answers.IsRefused asked source e × TellsRefusal asked name source e (string_bytes answer.shown) × Answers answer [] None 1)
