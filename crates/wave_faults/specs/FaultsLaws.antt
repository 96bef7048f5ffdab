-- What holds of all faults of a tree.
use Rattle.std.specs.Prelude.{ℕ, ◌≡◌, List, [], ◌∷◌}
use Rattle.std.specs.declared.ops.Range.{Range}
use Rattle.wave_wasm.specs.Lists.{AllOf, SomeOf}
use Rattle.wave_wasm.specs.Types.{TypeTree, HasDistinctNames}
use Rattle.wave_wasm.specs.Values.{Value}
use Rattle.wave_lex.specs.Errors.{Diagnostic, Refusal, refusal_of}
use Rattle.wave_grammar.specs.SpannedTree.{SpannedTree, tree_of, SpellsEach}
use Rattle.wave_grammar.specs.Elaborates.{TreeReads}
use Rattle.wave_grammar.specs.TypeErrors.{Fault}
use Rattle.wave_grammar.specs.FaultOrder.{BlamesNothing, in_text, FirstFault}
use Rattle.wave_faults.specs.AllFaults.{AreFaults}

-- the error is this refusal at this span
abbrev pub Tells : Refusal → Range ℕ → Diagnostic → Type 0
Tells k q e = (refusal_of e ≡ k) × (e.span ≡ q)

-- each error that is told is a fault
abbrev pub OnlyFaultsAreTold : Type 0
OnlyFaultsAreTold = (T : TypeTree) (t : SpannedTree) (errors : List Diagnostic) → AreFaults T t errors → AllOf (λ e. Fault T t (refusal_of e) e.span) errors

-- where the names of the type are distinct, each fault is told
abbrev pub EachFaultIsTold : Type 0
EachFaultIsTold =
    (T : TypeTree) (t : SpannedTree) (errors : List Diagnostic) (k : Refusal) (q : Range ℕ)
    → HasDistinctNames T → AreFaults T t errors → Fault T t k q → SomeOf (Tells k q) errors

-- the error that is told first is the fault that is answered as the tokens are read
abbrev pub FirstIsAnswered : Type 0
FirstIsAnswered =
    (T : TypeTree) (t : SpannedTree) (e : Diagnostic) (more : List Diagnostic)
    → AreFaults T t (e ∷ more) → FirstFault in_text in_text T t (refusal_of e) e.span

-- where none is told, none is answered
abbrev pub NoneIsAnswered : Type 0
NoneIsAnswered = (T : TypeTree) (t : SpannedTree) → AreFaults T t [] → BlamesNothing (FirstFault in_text in_text T t)

-- where the names of the type are distinct and no fault is told, the type gives the tree a value
abbrev pub NoFaultIsAValue : Type 0
NoFaultIsAValue =
    (source : List ℕ) (T : TypeTree) (t : SpannedTree)
    → SpellsEach source t → HasDistinctNames T → AreFaults T t [] → (v : Value) × TreeReads T (tree_of t) v

-- where the names of the type are distinct and the type gives the tree a value, no fault is told
abbrev pub AValueHasNoFault : Type 0
AValueHasNoFault =
    (T : TypeTree) (t : SpannedTree) (errors : List Diagnostic) (v : Value)
    → HasDistinctNames T → AreFaults T t errors → TreeReads T (tree_of t) v → errors ≡ []
