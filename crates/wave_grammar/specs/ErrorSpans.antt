-- Where the refusal of a node stands, and of which kind it is.
use Rattle.std.specs.Prelude.{ℕ, ◌≡◌, ◌⊎◌, ◌≤◌, Option, Some, None}
use Rattle.std.specs.declared.ops.Range.{Range}
use Rattle.wave_wasm.specs.ValueErrors.{Cause}
use Rattle.wave_lex.specs.Errors.{Diagnostic, refusal_of, caused}
use Rattle.wave_lex.specs.declared.error.ParserErrorKind.{ParserErrorKind}
use Rattle.wave_lex.specs.declared.error.ParserErrorKind.TheVariants as kind
use Rattle.wave_lex.specs.declared.error.ParserErrorKind.TheVariants.{WasmValueError}
use Rattle.wave_grammar.specs.NodeTree.{NodeTree, NodeTrees, node, no_nodes, node_and, place_of}

-- the kinds that reading a node at a type refuses with: none of syntax, and none of the parameters of a call
abbrev pub IsTypeKind : ParserErrorKind → Type 0
IsTypeKind kind.InvalidType = Unit {0}
IsTypeKind kind.InvalidValue = Unit {0}
IsTypeKind kind.InvalidEscape = Unit {0}
IsTypeKind kind.InvalidMultilineString = Unit {0}
IsTypeKind kind.DuplicateField = Unit {0}
IsTypeKind kind.WasmValueError = Unit {0}
IsTypeKind kind.OutOfMemory = Unit {0}
IsTypeKind _ = ⊥

-- the refusal is of such a kind
abbrev pub HasTypeKind : Diagnostic → Type 0
HasTypeKind e = IsTypeKind e.kind

-- so it is, or a refusal of the parameters of a call
abbrev pub HasParamsKind : Diagnostic → Type 0
HasParamsKind e = HasTypeKind e ⊎ (e.kind ≡ kind.InvalidParams)

-- a refusal of the kind `WasmValueError` has a cause
abbrev pub HasCause : Diagnostic → Type 0
HasCause e = e.kind ≡ WasmValueError → (c : Cause) × (refusal_of e ≡ caused c)

-- the refusal stands at this place, with a cause where it is a `WasmValueError`
abbrev pub IsAtPlace : Range ℕ → Diagnostic → Type 0
IsAtPlace p e = (e.span ≡ p) × HasCause e

-- so at the node
abbrev pub IsAtNode : NodeTree → Diagnostic → Type 0
IsAtNode n e = IsAtPlace (place_of n) e

abbrev mutual
  -- the node is the whole or stands within it
  pub IsPartOf : NodeTree → NodeTree → Type 0
  IsPartOf m (node ty p children) = (m ≡ node ty p children) ⊎ IsPartOfOne m children

  -- the node is one of these or stands within one
  pub IsPartOfOne : NodeTree → NodeTrees → Type 0
  IsPartOfOne m no_nodes = ⊥
  IsPartOfOne m (node_and n more) = IsPartOf m n ⊎ IsPartOfOne m more

-- the span lies in that of the node
abbrev pub LiesInNode : NodeTree → Range ℕ → Type 0
LiesInNode n q = ((place_of n).start ≤ q.start) × (q.start ≤ q.end) × (q.end ≤ (place_of n).end)

-- the refusal stands, with a cause, at the node or at one within it
abbrev pub IsCausedIn : NodeTree → Diagnostic → Type 0
IsCausedIn n e = (m : NodeTree) × IsPartOf m n × IsAtNode m e

-- the refusal's span lies in the node; a `WasmValueError` stands at the node or at one within it, with a cause
pub record StandsIn (n : NodeTree) (e : Diagnostic) : Type 0 where
  pub lies : LiesInNode n e.span
  pub caused : e.kind ≡ WasmValueError → IsCausedIn n e

-- so among the parameters of a call; at its name where it gives none
abbrev pub IsCausedInParams : Range ℕ → Option NodeTree → Diagnostic → Type 0
IsCausedInParams name None e = IsAtPlace name e
IsCausedInParams name (Some n) e = IsCausedIn n e

-- the refusal stands at the node, and is of a kind of reading at types
abbrev pub RefusesAt : NodeTree → Diagnostic → Type 0
RefusesAt n e = IsAtNode n e × HasTypeKind e

-- so it stands in the node
abbrev pub RefusesIn : NodeTree → Diagnostic → Type 0
RefusesIn n e = StandsIn n e × HasTypeKind e

-- so at the node, or in that of its part
abbrev pub RefusesInPart : NodeTree → Option NodeTree → Diagnostic → Type 0
RefusesInPart n part e = RefusesAt n e ⊎ ((m : NodeTree) × (part ≡ Some m) × RefusesIn m e)
