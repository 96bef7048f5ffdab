-- What `map_err` and `?` hand on.
use Rattle.std.proofs.Common.{◌≡◌, ◌∙◌, Result, Ok, Err, sym, subst}
use Rattle.std.specs.Prelude.{IfErr, IfOk, MatchResult}
use Rattle.std.specs.Result.{IsErrAnd}

module _ {A E F : Type 0} (Is : E → F → Type 0) where
  -- a value
  pub value_of : (P : A → Type 0) (r : Result A E) (m : Result A F) (v : A) → MatchResult r (λ x. m ≡ Ok x) (λ e. IsErrAnd m (Is e)) → IfOk r P → m ≡ Ok v → P v
  value_of P (Ok x) m v same p is = let here : x ≡ v = cc (sym same ∙ is) in subst P here p
  value_of P (Err e) m v same p is = absurd (subst (λ o. IsErrAnd o (Is e)) is same)

  -- an error
  pub error_of : (P : E → Type 0) (Q : F → Type 0) (r : Result A E) (m : Result A F) (f : F) → MatchResult r (λ x. m ≡ Ok x) (λ e. IsErrAnd m (Is e)) → ((e : E) (g : F) → Is e g → P e → Q g) → IfErr r P → m ≡ Err f → Q f
  error_of P Q (Ok x) m f same so p is = absurd (cc (sym same ∙ is))
  error_of P Q (Err e) m f same so p is = so e f (subst (λ o. IsErrAnd o (Is e)) is same) p

  -- what is said of a value
  pub mapped_ok : (P : A → Type 0) (r : Result A E) (m : Result A F) → MatchResult r (λ x. m ≡ Ok x) (λ e. IsErrAnd m (Is e)) → IfOk r P → IfOk m P
  mapped_ok P (Ok x) m same p = subst (λ o. IfOk o P) (sym same) p
  mapped_ok P (Err e) (Ok x) same p = absurd same
  mapped_ok P (Err e) (Err f) same p = tt

pub both : {A E : Type 0} (P Q : E → Type 0) (r : Result A E) → IfErr r P → IfErr r Q → IfErr r (λ e. P e × Q e)
both P Q (Ok x) p q = tt
both P Q (Err e) p q = (p, q)

-- an error that `?` returns
pub returned : {B F : Type 0} (Q : F → Type 0) (out : Result B F) (f : F) → IsErrAnd out (λ g. g ≡ f) → Q f → IfErr out Q
returned Q (Ok b) f same q = tt
returned Q (Err g) f same q = subst Q (sym same) q
