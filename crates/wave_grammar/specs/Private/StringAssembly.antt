-- How the parts of a string are put together to its text, and what stands between the quotes of a char.
use Rattle.std.specs.Prelude.{ℕ, ◌≡◌, ◌++◌, List, []}
use Rattle.wave_lex.specs.declared.strings.StringPart.{StringPart}
use Rattle.wave_lex.specs.Remaining.{LinesLeft}
use Rattle.wave_lex.specs.Parts.{part_texts, NoPartNext, LinesRun}

-- nothing is left
abbrev pub IsEnded : LinesLeft → Type 0
IsEnded l = (l.line.rest ≡ []) × (l.later ≡ [])

-- the parts that came so far stand after the text
abbrev pub CameSoFar : LinesLeft → LinesLeft → List ℕ → List ℕ → Type 0
CameSoFar first left prefix text = (parts : List StringPart) × LinesRun first parts left × (text ≡ prefix ++ part_texts parts)

-- all parts that come stand after the text, and none is next
abbrev pub IsAppended : LinesLeft → LinesLeft → List ℕ → List ℕ → Type 0
IsAppended first left prefix text = NoPartNext left × CameSoFar first left prefix text
