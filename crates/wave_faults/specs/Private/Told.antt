-- What a call adds to the errors that are told.
use Rattle.std.specs.Prelude.{ℕ, ◌≡◌, ◌++◌, List, [], ◌∷◌, Option, Some, None}
use Rattle.std.specs.declared.ops.Range.{Range}
use Rattle.wave_wasm.specs.Types as type
use Rattle.wave_wasm.specs.Types.{TypeTree}
use Rattle.wave_wasm.specs.ValueErrors.{Cause}
use Rattle.wave_lex.specs.Errors.{Diagnostic, refusal_of, refused_by}
use Rattle.wave_grammar.specs.SpannedTree.{SpannedTree}
use Rattle.wave_grammar.specs.NodeTree.{NodeTree}
use Rattle.wave_grammar.specs.Nodes.{IsNodeOf}
use Rattle.wave_grammar.specs.TypeErrors.{Blame}
use Rattle.wave_faults.specs.AllFaults.{Telling, AreFaults}

-- behind the old errors there are these, and no other
pub record Adds (These : Telling) (old new : List Diagnostic) : Type 0 where
  pub added : List Diagnostic
  pub is : new ≡ old ++ added
  pub these : These added

-- behind the old errors there are those of the node at the type
abbrev pub AddsFaults : TypeTree → List ℕ → NodeTree → List Diagnostic → List Diagnostic → Type 0
AddsFaults T source n old new = (t : SpannedTree) → IsNodeOf source n t → Adds (AreFaults T t) old new

-- behind the old errors there is one more, that is blamed
pub record AddsOne (A : Blame) (old new : List Diagnostic) : Type 0 where
  pub error : Diagnostic
  pub is : new ≡ old ++ error ∷ []
  pub blamed : A (refusal_of error) error.span

-- behind the old errors there is one more, for this cause, at this span
abbrev pub AddsCause : Cause → Range ℕ → List Diagnostic → List Diagnostic → Type 0
AddsCause cause p = AddsOne (λ k q. (k ≡ refused_by cause) × (q ≡ p))

-- the type of lists of this element type, of this length where it is fixed
abbrev pub list_of : TypeTree → Option ℕ → TypeTree
list_of E None = type.list E
list_of E (Some n) = type.fixed E n
