-- How an error is kept in few bytes.
use Rattle.std.specs.Prelude.{ℕ, ◌≡◌, ◌⊎◌, None}
use Rattle.std.specs.declared.ops.Range.{Range}
use Rattle.wave_lex.specs.Errors.{Diagnostic}
use Rattle.wave_lex.specs.ErrorDetails.{error_with}
use Rattle.wave_lex.specs.declared.error.Detail.{Detail}
use Rattle.wave_lex.specs.declared.error.ParserErrorKind.TheVariants.{OutOfMemory}
use Rattle.wave_lex.specs.declared.error.ParserErrorKind.{ParserErrorKind}
use Rattle.wave_leaf.specs.Errors.{HasText, detailed}

-- the error of these parts; or, where the detail has a text of its own, one for lack of memory
abbrev pub IsErrorOf : ParserErrorKind → Range ℕ → Detail → Diagnostic → Type 0
IsErrorOf k p d e = (e ≡ error_with k p d) ⊎ HasText d × (e ≡ detailed OutOfMemory p None)
