-- Flags that are read by their names.
use Rattle.std.specs.Prelude.{ℕ, ◌≡◌, List, Result, Ok, Err}
use Rattle.std.specs.Borrow.{Bor}
use Rattle.std.specs.BTreeMap.{BTreeMap, keys}
use Rattle.std.specs.declared.ops.Range.{Range}
use Rattle.wave_wasm.specs.Borrowed.{texts}
use Rattle.wave_wasm.specs.Types.{TypeTree}
use Rattle.wave_wasm.specs.Values.{Value}
use Rattle.wave_wasm.specs.ValueErrors.{Cause}
use Rattle.wave_lex.specs.Errors.{Diagnostic}
use Rattle.wave_grammar.specs.FaultOrder.{Order}
use Rattle.wave_grammar.specs.NodeTree.{NodeTree, node, place_of}
use Rattle.wave_grammar.specs.FlagParts.{AreFlagsOf, flag_nodes}
use Rattle.wave_grammar.specs.declared.form.NodeType.TheVariants as kind
use Rattle.wave_grammar.specs.ErrorSpans.{RefusesAt}
use Rattle.wave_grammar.specs.NodeFlags.{RefusesUnknown}
use Rattle.wave_grammar.specs.PartReading.{IsCaused}
use Rattle.wave_leaf.specs.Reading.{IsReadAs}
use Rattle.wave_leaf.specs.declared.fault.Fault.{Fault}
use Rattle.wave_leaf.specs.Faults.{Reports}

-- the names of the flags, in byte order
abbrev pub flag_names : BTreeMap (Bor (List ℕ)) (Range ℕ) → List (List ℕ)
flag_names flags = texts (keys flags)

-- at a node the fault is a refusal with this cause, or for lack of memory
abbrev pub ReportsCause : Cause → Fault → Type 0
ReportsCause cause f = (n : NodeTree) (e : Diagnostic) → Reports f (place_of n) e → IsCaused cause n e × (e.span ≡ place_of n)

-- so because one of these flags is none of the names
abbrev pub ReportsUnknown : List (List ℕ) → List (List ℕ) → Fault → Type 0
ReportsUnknown names flags f = (n : NodeTree) (e : Diagnostic) → Reports f (place_of n) e → RefusesUnknown names flags n e × RefusesAt n e

-- what was read, or its fault as a refusal of what stands there
abbrev pub IsReported : {V : Type 0} → Result V Fault → Range ℕ → Result V Diagnostic → Type 0
IsReported (Ok v) p (Ok w) = w ≡ v
IsReported (Err f) p (Err e) = Reports f p e
IsReported _ p _ = ⊥

module _ {V : Type 0} (tree : V → Value) (of : V → TypeTree → Type 0) (Full : TypeTree → Type 0) where
  -- of the node of these flags this is read at the type, in any text that has them at their places
  abbrev pub IsReadOfFlags : TypeTree → Range ℕ → BTreeMap (Bor (List ℕ)) (Range ℕ) → Result V Diagnostic → Type 0
  IsReadOfFlags T p flags r = (o w : Order) (source : List ℕ) → AreFlagsOf source flags → IsReadAs tree of Full o w T source (node kind.Flags p (flag_nodes flags)) r

  -- at the node, that is what is read of it at the type
  abbrev pub IsReadOrReported : TypeTree → List ℕ → NodeTree → Result V Fault → Type 0
  IsReadOrReported T source n read = (o w : Order) (r : Result V Diagnostic) → IsReported read (place_of n) r → IsReadAs tree of Full o w T source n r
