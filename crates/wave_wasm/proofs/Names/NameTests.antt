-- The test for one of some names, and names with one more.
use Rattle.std.proofs.Common.{ℕ, ◌≡◌, ◌≢◌, ◌⊎◌, inl, inr, Bool, true, false, ◌||◌, List, [], ◌∷◌, ◌++◌, refl, sym, ap}
use Rattle.std.specs.Str.{bytes_eq}
use Rattle.std.proofs.lemmas.Slice.Eq.{bytes_eq-Decides}
use Rattle.std.proofs.lemmas.Bool.Decides.{not_from_Decides}
use Rattle.wave_wasm.specs.Names.{IsOneOf, IsNoneOf, AreDistinct, is_one_of}

split : (a b : Bool) (A B : Type 0) → (a ≡ true → A) → (b ≡ true → B) → (a || b) ≡ true → A ⊎ B
split true b A B here there e = inl (here refl)
split false b A B here there e = inr (there e)

either : (a b : Bool) → b ≡ true → (a || b) ≡ true
either true b e = refl
either false b e = e

-- a name that passes is one of the names
pub is_one : (ns : List (List ℕ)) (n : List ℕ) → is_one_of ns n ≡ true → IsOneOf ns n
is_one [] n e = absurd (cc)
is_one (m ∷ ns) n e = split (bytes_eq n m) (is_one_of ns n) (n ≡ m) (IsOneOf ns n) (bytes_eq-Decides n m).0 (is_one ns n) e

-- a name that is one of the names passes
pub passes : (ns : List (List ℕ)) (n : List ℕ) → IsOneOf ns n → is_one_of ns n ≡ true
passes [] n h = absurd h
passes (m ∷ ns) n (inl e) = ap (λ b. b || is_one_of ns n) ((bytes_eq-Decides n m).1 e)
passes (m ∷ ns) n (inr h) = either (bytes_eq n m) (is_one_of ns n) (passes ns n h)

-- a name that the test does not find
pub none_of : (names : List (List ℕ)) (name : List ℕ) → is_one_of names name ≡ false → IsNoneOf names name
none_of [] name e = tt
none_of (x ∷ xs) name e = by (bytes_eq name x) (is_one_of xs name) refl (none_of xs name) e
  where
    by : (b c : Bool) → bytes_eq name x ≡ b → (c ≡ false → IsNoneOf xs name) → (b || c) ≡ false → (name ≢ x) × IsNoneOf xs name
    by true c f g e = cc
    by false c f g e = (not_from_Decides _ (bytes_eq-Decides name x) f, g e)

-- names with a new last one
pub distinct_more : (names : List (List ℕ)) (name : List ℕ) → AreDistinct names → IsNoneOf names name → AreDistinct (names ++ name ∷ [])
distinct_more [] name d h = (tt, tt)
distinct_more (x ∷ xs) name (n, d) (m, h) = (none_more xs name x n (λ e. m (sym e)), distinct_more xs name d h)
  where
    none_more : (xs : List (List ℕ)) (name x : List ℕ) → IsNoneOf xs x → x ≢ name → IsNoneOf (xs ++ name ∷ []) x
    none_more [] name x h n = (n, tt)
    none_more (y ∷ ys) name x (k, h) n = (k, none_more ys name x h n)
