-- The first of several that has a fault.
use Rattle.std.proofs.Common.{ℕ, inl, inr, ◌++◌, List, [], ◌∷◌}
use Rattle.std.specs.declared.ops.Range.{Range}
use Rattle.wave_wasm.specs.Lists.{AllOf}
use Rattle.wave_lex.specs.Errors.{Refusal}
use Rattle.wave_grammar.specs.TypeErrors.{Blame}
use Rattle.wave_grammar.specs.FaultOrder.{BlamesNothing, OrElse, FirstOf}

-- neither blames anything
pub neither : (A B : Blame) → BlamesNothing A → BlamesNothing B → BlamesNothing (OrElse A B)
neither A B a b k q (inl h) = a k q h
neither A B a b k q (inr h) = b k q h.1

-- the first that is blamed, behind others that are not
pub first_behind : {X : Type 0} (F : X → Blame) (before rest : List X) (x : X) (k : Refusal) (q : Range ℕ) → AllOf (λ y. BlamesNothing (F y)) before → F x k q → FirstOf F (before ++ x ∷ rest) k q
first_behind F [] rest x k q none h = inl h
first_behind F (y ∷ before) rest x k q none h = inr (none.0, first_behind F before rest x k q none.1 h)
