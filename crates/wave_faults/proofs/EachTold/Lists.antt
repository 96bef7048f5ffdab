-- What holds of all or some of a list made of two.
use Rattle.std.proofs.Common.{inl, inr, List, [], ◌∷◌, ◌++◌}
use Rattle.wave_wasm.specs.Lists.{AllOf, SomeOf}

module _ {A : Type 0} where
  -- what holds of all of both
  pub all_of_both : (P : A → Type 0) (xs ys : List A) → AllOf P xs → AllOf P ys → AllOf P (xs ++ ys)
  all_of_both P [] ys h g = g
  all_of_both P (x ∷ xs) ys h g = (h.0, all_of_both P xs ys h.1 g)

  -- what holds of one of the first
  pub some_of_first : (P : A → Type 0) (xs ys : List A) → SomeOf P xs → SomeOf P (xs ++ ys)
  some_of_first P [] ys h = absurd h
  some_of_first P (x ∷ xs) ys (inl h) = inl h
  some_of_first P (x ∷ xs) ys (inr h) = inr (some_of_first P xs ys h)

  -- what holds of one of the others
  pub some_of_others : (P : A → Type 0) (xs ys : List A) → SomeOf P ys → SomeOf P (xs ++ ys)
  some_of_others P [] ys h = h
  some_of_others P (x ∷ xs) ys h = inr (some_of_others P xs ys h)

  -- what holds of all, in other words
  pub all_so : (P Q : A → Type 0) (xs : List A) → ((x : A) → P x → Q x) → AllOf P xs → AllOf Q xs
  all_so P Q [] f h = tt
  all_so P Q (x ∷ xs) f h = (f x h.0, all_so P Q xs f h.1)
