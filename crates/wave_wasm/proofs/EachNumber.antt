-- Numbers that are tried one by one, by computing.
use Rattle.std.proofs.Common.{◌≡◌, ℕ, ◌<◌, zero, suc, Bool, true, false, refl, sym, subst, arith, inl, inr}
use Rattle.std.specs.Prelude.{◌&&◌}
use Rattle.std.specs.Bool.{beq}
use Rattle.std.proofs.lemmas.Bool.{cases_lt, and_parts}

-- p holds of each number below n
abbrev pub each_below : ℕ → (ℕ → Bool) → Bool
each_below zero p = true
each_below (suc n) p = p n && each_below n p

-- what is tested below n holds below n
pub each_below_at : (n b : ℕ) (p : ℕ → Bool) → each_below n p ≡ true → b < n → p b ≡ true
each_below_at zero b p e l = let w : ⊥ = omega arith in absurd w
each_below_at (suc n) b p e l =
    let h : (p n ≡ true) × (each_below n p ≡ true) = and_parts _ _ e in
    elim (cases_lt b n) as (λ _. p b ≡ true) [
      | inl k ↦ each_below_at n b p h.1 k
      | inr k ↦ let s : b ≡ n = omega arith in subst (λ (z : ℕ). p z ≡ true) (sym s) h.0
    ]

-- two answers that are equal by computing are one
same_answer : (x y : Bool) → beq x y ≡ true → x ≡ y
same_answer true true e = refl
same_answer true false e = cc
same_answer false true e = cc
same_answer false false e = refl

-- tests that agree on each number below n, by computing, agree
pub tests_agree : (n : ℕ) (p q : ℕ → Bool) (b : ℕ) → b < n → each_below n (λ k. beq (p k) (q k)) ≡ true → p b ≡ q b
tests_agree n p q b l computed = same_answer (p b) (q b) (each_below_at n b (λ k. beq (p k) (q k)) computed l)
