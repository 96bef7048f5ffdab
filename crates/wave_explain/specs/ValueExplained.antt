-- What is shown of the refusal of a text at a type.
use Rattle.std.specs.Prelude.{ℕ, ◌≡◌, ◌⊎◌, ◌≤◌, ◌-◌, List, [], ◌∷◌, ◌++◌, Bool, true, false, codes}
use Rattle.std.specs.Fmt.{decimal}
use Rattle.std.specs.declared.ops.Range.{Range}
use Rattle.wave_wasm.specs.Types.{TypeTree}
use Rattle.wave_wasm.specs.TypeText.{type_text}
use Rattle.wave_lex.specs.Errors.{Diagnostic, error_text}
use Rattle.wave_lex.specs.declared.lex.Token.{Token}
use Rattle.wave_lex.specs.declared.error.ParserErrorKind.{ParserErrorKind}
use Rattle.wave_lex.specs.declared.error.ParserErrorKind.TheVariants as kind
use Rattle.wave_grammar.specs.NodeTree.{NodeTree}
use Rattle.wave_grammar.specs.ParserPosition.{Place}
use Rattle.wave_grammar.specs.PrefixAutomaton as expected_first
use Rattle.wave_grammar.specs.SyntaxErrors.{IsSyntaxError}
use Rattle.wave_expected.specs.declared.expected.Expected.{Expected}
use Rattle.wave_expected.specs.Expected.{IsExpected, expected_words}
use Rattle.wave_tree.specs.ParserState.{start_of}
use Rattle.wave_tree.specs.Untyped.{Untyped, IsUntypedTaken}
use Rattle.wave_place.specs.Places.{IsPlaceNear, IsMarked}
use Rattle.wave_place.specs.Shown.{shown_lines}
use Rattle.wave_place.specs.Paths.{Step, IsPartAt, shown_first, path_text}
use Rattle.wave_hints.specs.WordMarks.{IsWordMark, IsName}
use Rattle.wave_explain.specs.EscapeMarks.{IsSyntaxMark}

-- the kinds of faults of a value at its type
abbrev pub is_of_type : ParserErrorKind → Bool
is_of_type kind.InvalidType = true
is_of_type kind.InvalidValue = true
is_of_type kind.InvalidEscape = true
is_of_type kind.InvalidMultilineString = true
is_of_type kind.DuplicateField = true
is_of_type kind.WasmValueError = true
is_of_type _ = false

-- no part is looked for: the kind is no fault of type, or no value of at most 1000 levels begins the source
abbrev pub HasNoPart : ParserErrorKind → List ℕ → Type 0
HasNoPart k source = (is_of_type k ≡ false) ⊎ ((e : Diagnostic) × (p : Place) × IsSyntaxError e 1000 expected_first.value [] (start_of source) p)

-- the value that begins the source was read without a type, within 1000 levels
abbrev pub IsPrefix : List ℕ → Untyped → Type 0
IsPrefix source u = (behind : Place) × IsUntypedTaken 1000 (start_of source) behind u

-- the line that says which type is expected: the type's text, of which at most 60 scalars are shown, and more on it
abbrev pub expected_line : List ℕ → List ℕ → List ℕ
expected_line text more = codes "  = expected " ++ (shown_first 60 text ++ (more ++ codes "\n"))

-- the path leads from the node, where a value of type T is expected, to the deepest part that holds the span, and the first line says which
-- type is expected there
pub record ReportsPart (source : List ℕ) (span : Range ℕ) (n : NodeTree) (T : TypeTree) (path lines : List ℕ) : Type 0 where
  pub steps : List Step
  pub part : NodeTree
  pub expected : TypeTree
  pub is_part : IsPartAt source span n T steps part expected
  pub path_is : path ≡ path_text steps
  pub more : List ℕ
  pub hints : List ℕ
  pub lines_are : lines ≡ expected_line (type_text expected) more ++ hints

-- so they do from the value that begins the source
abbrev pub ReportsPartOfValue : List ℕ → Range ℕ → TypeTree → List ℕ → List ℕ → Type 0
ReportsPartOfValue source span T path lines = (u : Untyped) × IsPrefix source u × ReportsPart source span u.node T path lines

-- what is marked is the span, a whole name within it, or the whole word that holds it
abbrev pub IsPartMark : List ℕ → Range ℕ → Range ℕ → Type 0
IsPartMark source span mark =
    (mark ≡ span) ⊎ (span.start ≤ mark.start) × (mark.end ≤ span.end) × IsName source mark ⊎ IsWordMark source span mark

-- `, at ` before a path, where there is one
abbrev pub before_path : List ℕ → List ℕ
before_path [] = []
before_path (c ∷ more) = codes ", at "

-- the first two lines: the message, the place and the path
abbrev pub heading_with_path : List ℕ → ℕ → ℕ → List ℕ → List ℕ
heading_with_path message line column path =
    message ++ (codes "\n --> line " ++ (decimal line ++ (codes ", column " ++ (decimal column ++ (before_path path ++ (path ++ codes "\n"))))))

-- the text has the message, the place where the mark begins, the path, the line of the place, a mark below what stands there of the
-- line, up to the mark's end, and these lines
pub record IsBlock (source message : List ℕ) (mark : Range ℕ) (path lines text : List ℕ) : Type 0 where
  pub there : ℕ
  pub line : ℕ
  pub column : ℕ
  pub prefix : List ℕ
  pub rest : List ℕ
  pub marked : List ℕ
  pub place : IsPlaceNear source mark.start there line column prefix rest
  pub is_marked : IsMarked rest (mark.end - there) marked
  pub text_is : text ≡ heading_with_path message line column path ++ (shown_lines prefix rest marked ++ lines)

-- ---- without a type

-- a token is refused, or the end, where something else may stand
abbrev pub IsUnexpected : ParserErrorKind → Type 0
IsUnexpected k = (k ≡ kind.UnexpectedToken) ⊎ (k ≡ kind.UnexpectedEnd)

-- what is said of what may stand there: a line, or nothing where nothing may
abbrev pub expectation : List Token → Bool → List ℕ
expectation [] false = []
expectation [] true = expected_line (expected_words [] true) []
expectation (c ∷ more) end = expected_line (expected_words (c ∷ more) end) []

-- so of this place of a source in which a value of at most 1000 levels is read
abbrev pub ReportsExpectedAt : List ℕ → ℕ → List ℕ → Type 0
ReportsExpectedAt source at said = (x : Expected) × IsExpected source at 1000 x × (said ≡ expectation x.classes.items x.may_end)

-- the lines begin with what is said of the place
abbrev pub BeginWith : (List ℕ → ℕ → List ℕ → Type 0) → List ℕ → ℕ → List ℕ → Type 0
BeginWith Reports source at lines = (said : List ℕ) × (more : List ℕ) × Reports source at said × (lines ≡ said ++ more)

-- the mark and the lines explain the refusal of the source, without a path: the lines tell what may stand where a token or the end is refused
pub record ExplainsSyntax (Reports : List ℕ → ℕ → List ℕ → Type 0) (source : List ℕ) (e : Diagnostic) (mark : Range ℕ) (path lines : List ℕ) : Type 0 where
  pub is_mark : IsSyntaxMark source e mark
  pub no_path : path ≡ []
  pub reported : IsUnexpected e.kind → BeginWith Reports source e.span.start lines

-- so they do where a value is read without a type
abbrev pub ExplainsUntyped : List ℕ → Diagnostic → Range ℕ → List ℕ → List ℕ → Type 0
ExplainsUntyped source e mark path lines = ExplainsSyntax ReportsExpectedAt source e mark path lines

-- the text explains the refusal of the source: a block without a path, whose lines tell what may stand where a token or the end is refused
pub record IsSyntaxExplained (Reports : List ℕ → ℕ → List ℕ → Type 0) (source : List ℕ) (e : Diagnostic) (text : List ℕ) : Type 0 where
  pub mark : Range ℕ
  pub is_mark : IsSyntaxMark source e mark
  pub lines : List ℕ
  pub reported : IsUnexpected e.kind → BeginWith Reports source e.span.start lines
  pub block : IsBlock source (error_text e) mark [] lines text

-- so it does where a value is read without a type
abbrev pub IsUntypedExplained : List ℕ → Diagnostic → List ℕ → Type 0
IsUntypedExplained source e text = IsSyntaxExplained ReportsExpectedAt source e text

-- ---- at a type

-- the mark, the path and the lines explain the fault of the node at the type T: the path leads from the node to the part that is wrong, and
-- the first line says which type is expected there
abbrev pub ExplainsFault : List ℕ → NodeTree → TypeTree → Diagnostic → Range ℕ → List ℕ → List ℕ → Type 0
ExplainsFault source n T e mark path lines = ReportsPart source e.span n T path lines × IsPartMark source e.span mark

-- the mark, the path and the lines explain the refusal of the source at the type T: of a fault of type by the path to the part that is wrong
-- and the type that is expected there, or without a path where no part is looked for
abbrev pub ExplainsValue : List ℕ → TypeTree → Diagnostic → Range ℕ → List ℕ → List ℕ → Type 0
ExplainsValue source T e mark path lines =
    (is_of_type e.kind ≡ true) × ReportsPartOfValue source e.span T path lines × IsPartMark source e.span mark
    ⊎ (path ≡ []) × HasNoPart e.kind source × IsSyntaxMark source e mark × (IsUnexpected e.kind → BeginWith ReportsExpectedAt source e.span.start lines)

-- the text explains the refusal of the source at the type T: a block of such a mark, path and lines
pub record IsValueExplained (source : List ℕ) (T : TypeTree) (e : Diagnostic) (text : List ℕ) : Type 0 where
  pub mark : Range ℕ
  pub path : List ℕ
  pub lines : List ℕ
  pub reported : ExplainsValue source T e mark path lines
  pub block : IsBlock source (error_text e) mark path lines text
