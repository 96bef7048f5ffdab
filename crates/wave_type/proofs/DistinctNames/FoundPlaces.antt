-- What is found stands at the first place.
use Rattle.std.proofs.Common.{◌≡◌, ℕ, ◌+◌, Bool, true, false, cond, ◌||◌, List, [], ◌∷◌, length, get_or, nat_lt, Option, Some, None, refl, ap, ◌∙◌, arith}
use Rattle.std.specs.List.{find, list_any, position, position_from, position_or_len, slice_get}
use Rattle.std.specs.Option.{is_some, option_map}
use Rattle.std.proofs.lemmas.Bool.Decides.{nat_tests}
use Rattle.std.proofs.lemmas.Iterator.Adapters.{position_from-zero}
use Rattle.std.proofs.lemmas.List.Folds.{find_at}
use Rattle.std.proofs.lemmas.Option.{slice_get-get_or, slice_get_past}

module _ {A : Type 0} (p : A → Bool) where
  first_or_later : (b : Bool) (k : ℕ) (o : Option ℕ) → is_some (cond b (Some k) o) ≡ (b || is_some o)
  first_or_later true k o = refl
  first_or_later false k o = refl

  is_some-position_from : (k : ℕ) (xs : List A) → is_some (position_from p k xs) ≡ list_any p xs
  is_some-position_from k [] = refl
  is_some-position_from k (x ∷ xs) = first_or_later (p x) k (position_from p (k + 1) xs) ∙ ap (λ b. p x || b) (is_some-position_from (k + 1) xs)

  -- there is a place where one of them passes
  pub is_some-position : (xs : List A) → is_some (position p xs) ≡ list_any p xs
  is_some-position xs = ap is_some (position_from-zero p xs) ∙ is_some-position_from 0 xs

  -- the first one that passes stands at the first place
  pub find-position : (xs : List A) (d : A) → find p xs ≡ option_map (λ i. get_or xs i d) (position p xs)
  find-position xs d = find_at p xs ∙ by (nat_lt (position_or_len p xs) (length xs)) refl
    where
      by : (b : Bool) → nat_lt (position_or_len p xs) (length xs) ≡ b → slice_get xs (position_or_len p xs) ≡ option_map (λ i. get_or xs i d) (cond b (Some (position_or_len p xs)) None)
      by true e = slice_get-get_or xs (position_or_len p xs) d (grind (arith, nat_tests))
      by false e = slice_get_past xs (position_or_len p xs) (grind (arith, nat_tests))
