-- What is shown of the refusal of a text that is to spell a type, or the type of a function.
use Rattle.std.specs.Prelude.{ℕ, ◌≡◌, ◌⊎◌, List, [], ◌∷◌, ◌++◌, Bool, true, false, codes}
use Rattle.std.specs.declared.ops.Range.{Range}
use Rattle.wave_type.specs.TypeErrors.{TypeRefusal, type_error_text}
use Rattle.wave_type.specs.declared.error.TypeErrorKind.{TypeErrorKind}
use Rattle.wave_type.specs.declared.error.TypeErrorKind.TheVariants as kind
use Rattle.wave_place.specs.Places.{IsExplained}
use Rattle.wave_hints.specs.WordMarks.{IsWordMark}
use Rattle.wave_type_explain.specs.declared.expected.Reading.{Reading}
use Rattle.wave_type_explain.specs.declared.expected.Reading.TheVariants.{ValueType, FunctionType}
use Rattle.wave_type_explain.specs.declared.expected.Class.{Class}
use Rattle.wave_type_explain.specs.declared.expected.Expected.{Expected}
use Rattle.wave_type_explain.specs.Expected.{IsExpectedAt, expected_words}

-- the kinds of refusals where something else may stand
abbrev pub is_misplaced : TypeErrorKind → Bool
is_misplaced kind.UnexpectedToken = true
is_misplaced kind.UnexpectedEnd = true
is_misplaced kind.InvalidToken = true
is_misplaced kind.InvalidKeyType = true
is_misplaced kind.InvalidCount = true
is_misplaced _ = false

-- the line that says what may stand there; nothing where nothing may
abbrev pub expectation : List Class → Bool → List ℕ
expectation [] false = []
expectation [] true = codes "  = expected " ++ (expected_words [] true ++ codes "\n")
expectation (c ∷ more) may_end = codes "  = expected " ++ (expected_words (c ∷ more) may_end ++ codes "\n")

-- the lines say first what may stand at this place of the text
abbrev pub SayFirst : Reading → List ℕ → ℕ → List ℕ → Type 0
SayFirst r text at lines =
    (x : Expected) × (hints : List ℕ) × IsExpectedAt r text at x × (lines ≡ expectation x.classes.items x.may_end ++ hints)

-- the refusal is shown in the text, with the span marked or the whole word that holds it, and then lines; of what is misplaced they say first what may
-- stand where the mark begins
pub record IsExplainedAs (r : Reading) (text : List ℕ) (e : TypeRefusal) (shown : List ℕ) : Type 0 where
  pub mark : Range ℕ
  pub is_mark : (mark ≡ e.span) ⊎ IsWordMark text e.span mark
  pub block : List ℕ
  pub is_block : IsExplained text (type_error_text e) mark block
  pub lines : List ℕ
  pub say : is_misplaced e.kind ≡ true → SayFirst r text mark.start lines
  pub shown_is : shown ≡ block ++ lines

-- so of a text that is to spell a type
abbrev pub IsTypeExplained : List ℕ → TypeRefusal → List ℕ → Type 0
IsTypeExplained text e shown = IsExplainedAs ValueType text e shown

-- so of one that is to spell the type of a function
abbrev pub IsFunctionExplained : List ℕ → TypeRefusal → List ℕ → Type 0
IsFunctionExplained text e shown = IsExplainedAs FunctionType text e shown
