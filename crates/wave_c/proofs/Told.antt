-- What was placed, and what is told of it.
use Rattle.std.proofs.Common.{ℕ, List, ◌≡◌, Result, Ok, Err, IfOk, IfErr, sym, subst, inl, inr}
use Rattle.std.specs.Global.{Vec}
use Rattle.wave_c.specs.Answers.{SaysAt, FailsAt}
use Rattle.wave_c.specs.Ends.{IsPlaced, IsTold, IsEnd, Tells}
use Rattle.wave_c.specs.declared.Report.{Report}
use Rattle.wave_c.specs.declared.ended.Failure.{Failure}
use Rattle.wave_c.specs.declared.ended.Ended.{Ended}
use Rattle.wave_c.specs.declared.ended.Ended.TheVariants.{Done, TooSmall, Failed}

module _ (Says : List ℕ → Type 0) (Fails : Failure → Type 0) (old new : List ℕ) where
  -- an answer that was placed, or was none
  placed : (said : Result (Vec ℕ) Failure) (ended : Ended) → IfOk said (λ b. Says b.items) → IfErr said Fails → IsPlaced said old new ended → IsEnd Says Fails old new ended
  placed (Ok b) (Done n) says fails is = (b.items, says, is)
  placed (Ok b) (TooSmall n) says fails is = (b.items, says, is)
  placed (Ok b) (Failed f) says fails is = absurd is
  placed (Err f) ended says fails is = subst (IsEnd Says Fails old new) (sym is.0) (fails, is.1)

  -- its status and its report
  pub told : (said : Result (Vec ℕ) Failure) (status : ℕ) (report : Report) → IfOk said (λ b. Says b.items) → IfErr said Fails → IsTold said old new status report → Tells Says Fails old new status report
  told said status report says fails is = (is.0, placed said is.0 says fails is.1, is.2, is.3)

module _ {X : Type 0} (IsOf : X → Type 0) (HasNone : Failure → Type 0) (Says : X → List ℕ → Type 0) (Fails : X → Failure → Type 0) where
  says_at : (x : X) → IsOf x → (said : Result (Vec ℕ) Failure) → IfOk said (λ b. Says x b.items) → IfOk said (λ b. SaysAt IsOf Says b.items)
  says_at x of (Ok b) says = (x, of, says)
  says_at x of (Err f) says = tt

  fails_at : (x : X) → IsOf x → (said : Result (Vec ℕ) Failure) → IfErr said (Fails x) → IfErr said (FailsAt IsOf HasNone Fails)
  fails_at x of (Ok b) fails = tt
  fails_at x of (Err f) fails = inr (x, of, fails)

  -- where there is a type
  pub told_at : (old new : List ℕ) (x : X) → IsOf x → (said r : Result (Vec ℕ) Failure) → said ≡ r → (status : ℕ) (report : Report)
      → IfOk r (λ b. Says x b.items) → IfErr r (Fails x) → IsTold said old new status report → Tells (SaysAt IsOf Says) (FailsAt IsOf HasNone Fails) old new status report
  told_at old new x of said r same status report says fails is =
      told (SaysAt IsOf Says) (FailsAt IsOf HasNone Fails) old new r status report (says_at x of r says) (fails_at x of r fails) (subst (λ z. IsTold z old new status report) same is)

  -- where there is none
  pub told_none : (old new : List ℕ) (f : Failure) → HasNone f → (said : Result (Vec ℕ) Failure) → said ≡ Err f → (status : ℕ) (report : Report)
      → IsTold said old new status report → Tells (SaysAt IsOf Says) (FailsAt IsOf HasNone Fails) old new status report
  told_none old new f none said same status report is =
      told (SaysAt IsOf Says) (FailsAt IsOf HasNone Fails) old new (Err f) status report tt (inl none) (subst (λ z. IsTold z old new status report) same is)
