-- What holds of the fault that is answered.
use Rattle.std.specs.Prelude.{ℕ, ◌≡◌}
use Rattle.std.specs.declared.ops.Range.{Range}
use Rattle.wave_wasm.specs.Types.{TypeTree, HasDistinctNames}
use Rattle.wave_lex.specs.Errors.{Refusal}
use Rattle.wave_grammar.specs.SpannedTree.{SpannedTree}
use Rattle.wave_grammar.specs.TypeErrors.{Blame, Fault}
use Rattle.wave_grammar.specs.FaultOrder.{Order, BlamesNothing, FirstFault}

-- one refusal at one span is blamed at most
abbrev pub BlamesOne : Blame → Type 0
BlamesOne A = (k l : Refusal) (q r : Range ℕ) → A k q → A l r → (k ≡ l) × (q ≡ r)

-- nothing but this refusal at this span is blamed
abbrev pub BlamesOnly : Blame → Refusal → Range ℕ → Type 0
BlamesOnly A k q = (l : Refusal) (r : Range ℕ) → A l r → (l ≡ k) × (r ≡ q)

-- at most one fault is answered
abbrev pub OneFault : Type 0
OneFault = (o w : Order) (T : TypeTree) (t : SpannedTree) → BlamesOne (FirstFault o w T t)

-- what is answered is one of the faults
abbrev pub AnswersAreFaults : Type 0
AnswersAreFaults = (o w : Order) (T : TypeTree) (t : SpannedTree) (k : Refusal) (q : Range ℕ) → FirstFault o w T t k q → Fault T t k q

-- where the names of the type are distinct and no fault is answered, there is none
abbrev pub NoAnswerNoFault : Type 0
NoAnswerNoFault = (o w : Order) (T : TypeTree) (t : SpannedTree) → HasDistinctNames T → BlamesNothing (FirstFault o w T t) → BlamesNothing (Fault T t)

-- where the names of the type are distinct and one order finds no fault, no order does
abbrev pub OrdersAgree : Type 0
OrdersAgree =
    (o w p v : Order) (T : TypeTree) (t : SpannedTree) → HasDistinctNames T → BlamesNothing (FirstFault o w T t) → BlamesNothing (FirstFault p v T t)

-- where a tree has one fault alone, no order answers another
abbrev pub LoneFaultIsAnswered : Type 0
LoneFaultIsAnswered =
    (o w : Order) (T : TypeTree) (t : SpannedTree) (k : Refusal) (q : Range ℕ) → BlamesOnly (Fault T t) k q → BlamesOnly (FirstFault o w T t) k q
