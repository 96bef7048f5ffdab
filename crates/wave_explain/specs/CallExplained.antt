-- What is shown of the refusal of a call at a function's type.
use Rattle.std.specs.Prelude.{ℕ, ◌+◌, ◌≡◌, ◌⊎◌, List, [], ◌++◌, Option, Some, None, true, false, codes, slice_get}
use Rattle.std.specs.Fmt.{decimal}
use Rattle.std.specs.declared.ops.Range.{Range}
use Rattle.wave_wasm.specs.Types.{TypeTree}
use Rattle.wave_wasm.specs.TypeText.{Func}
use Rattle.wave_lex.specs.Errors.{Diagnostic, error_text}
use Rattle.wave_lex.specs.declared.error.ParserErrorKind.{ParserErrorKind}
use Rattle.wave_grammar.specs.NodeTree.{NodeTree, children_of}
use Rattle.wave_grammar.specs.ErrorSpans.{LiesInNode}
use Rattle.wave_expected.specs.declared.expected.Expected.{Expected}
use Rattle.wave_expected.specs.Expected.{IsExpectedInCallWithin, IsWithoutName}
use Rattle.wave_tree.specs.UntypedCall.{Called, IsCalledWithin, IsNoCallWithin}
use Rattle.wave_explain.specs.EscapeMarks.{IsSyntaxMark}
use Rattle.wave_explain.specs.ValueExplained.{is_of_type, ReportsPart, IsPartMark, IsBlock, IsUnexpected, expectation, BeginWith, ExplainsSyntax, IsSyntaxExplained}

-- the call gives the value of this node to the parameter at index i
abbrev pub Gives : Called → ℕ → NodeTree → Type 0
Gives call i n = (all : NodeTree) × (call.params ≡ Some all) × (slice_get (children_of all) i ≡ Some n)

-- the name, or where there is none the number, counted from 1
abbrev pub name_or_number : Option (List ℕ) → ℕ → List ℕ
name_or_number (Some name) i = name
name_or_number None i = decimal (i + 1)

-- which parameter it is: `parameter b`, or `parameter 2` where the function gives no names
abbrev pub parameter_text : List (List ℕ) → ℕ → List ℕ
parameter_text names i = codes "parameter " ++ name_or_number (slice_get names i) i

-- the source is a call within 1000 levels; the path names the parameter that has a type and whose value holds the span, and leads from its
-- value to the deepest part that holds the span; the first line says which type is expected there
pub record ReportsParameter (source : List ℕ) (f : Func) (span : Range ℕ) (path lines : List ℕ) : Type 0 where
  pub call : Called
  pub is_call : IsCalledWithin 1000 source call
  pub index : ℕ
  pub value : NodeTree
  pub expected : TypeTree
  pub gives : Gives call index value
  pub has_type : slice_get f.params index ≡ Some expected
  pub holds : LiesInNode value span
  pub way : List ℕ
  pub path_is : path ≡ parameter_text f.param_names index ++ way
  pub part : ReportsPart source span value expected way lines

-- no value that is given to a parameter with a type holds the span
abbrev pub NoValueHolds : Called → List TypeTree → Range ℕ → Type 0
NoValueHolds call types span =
    (i : ℕ) (n : NodeTree) (T : TypeTree) → Gives call i n → slice_get types i ≡ Some T → LiesInNode n span → ⊥

-- no parameter is reported: the kind is no fault of type, the source is no call within 1000 levels, or no parameter's value holds the span
abbrev pub HasNoParameter : ParserErrorKind → List ℕ → List TypeTree → Range ℕ → Type 0
HasNoParameter k source types span =
    (is_of_type k ≡ false) ⊎ IsNoCallWithin 1000 source ⊎ ((call : Called) × IsCalledWithin 1000 source call × NoValueHolds call types span)

-- what is said of what may stand at this place behind the name of a call within 1000 levels; nothing where it has none
abbrev pub ReportsExpectedInCall : List ℕ → ℕ → List ℕ → Type 0
ReportsExpectedInCall source at said =
    IsWithoutName source at × (said ≡ []) ⊎ ((x : Expected) × IsExpectedInCallWithin 1000 source at x × (said ≡ expectation x.classes.items x.may_end))

-- the text explains the refusal of the source, which is read as a call without types
abbrev pub IsUntypedCallExplained : List ℕ → Diagnostic → List ℕ → Type 0
IsUntypedCallExplained source e text = IsSyntaxExplained ReportsExpectedInCall source e text

-- the mark, the path and the lines explain the refusal of the source, which is read as a call without types
abbrev pub ExplainsUntypedCall : List ℕ → Diagnostic → Range ℕ → List ℕ → List ℕ → Type 0
ExplainsUntypedCall source e mark path lines = ExplainsSyntax ReportsExpectedInCall source e mark path lines

-- the mark, the path and the lines explain the refusal of the source, a call of the function f: of a fault of type by the path to the part of
-- a parameter that is wrong and the type that is expected there, or without a path where no parameter is reported
abbrev pub ExplainsCall : List ℕ → Func → Diagnostic → Range ℕ → List ℕ → List ℕ → Type 0
ExplainsCall source f e mark path lines =
    (is_of_type e.kind ≡ true) × ReportsParameter source f e.span path lines × IsPartMark source e.span mark
    ⊎ (path ≡ []) × HasNoParameter e.kind source f.params e.span × IsSyntaxMark source e mark
    × (IsUnexpected e.kind → BeginWith ReportsExpectedInCall source e.span.start lines)

-- the text explains the refusal of the source, a call of the function f: a block of such a mark, path and lines
pub record IsCallExplained (source : List ℕ) (f : Func) (e : Diagnostic) (text : List ℕ) : Type 0 where
  pub mark : Range ℕ
  pub path : List ℕ
  pub lines : List ℕ
  pub reported : ExplainsCall source f e mark path lines
  pub block : IsBlock source (error_text e) mark path lines text
