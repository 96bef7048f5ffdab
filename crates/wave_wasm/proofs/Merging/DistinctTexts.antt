-- Texts whose fingerprints differ are distinct.
use Rattle.std.proofs.Common.{rules, ℕ, ◌≡◌, Bool, true, false, List, [], ◌∷◌, map, refl, ap, subst, arith}
use Rattle.std.specs.Prelude.{◌≢◌, ◌↔◌, IsTrue, nat_eq}
use Rattle.std.specs.Bool.{OnTrue}
use Rattle.std.specs.Cmp.{unsigned_Decides}
use Rattle.std.specs.List.{AllPairs, AllByRecursion, IsDistinct}
use Rattle.std.specs.List.Sorted.{IsPermutation, IsNonDecreasing, IsStrictlyIncreasing}
use Rattle.std.proofs.lemmas.List.Kept.{AllPairs-from_increasing}
use Rattle.std.proofs.lemmas.List.Sorted.{IsPermutation-sym}
use Rattle.std.proofs.lemmas.Map.Keys.{IsDistinct-head, IsDistinct-tail, IsDistinct-IsPermutation, IsStrictlyIncreasing-from_distinct}
use Rattle.std.proofs.lemmas.Map.Made.{AllPairs-from_IsDistinct, IsDistinct-from_AllPairs}
use Rattle.wave_wasm.specs.Names.{IsNoneOf, AreDistinct}

turned : (x y : ℕ) → nat_eq x y ≡ nat_eq y x
turned x y = search (rules, unsigned_Decides x y, unsigned_Decides y x)

moved_differ : (xs ys : List ℕ) → IsPermutation xs ys → AllPairs (λ x y. x ≢ y) xs → AllPairs (λ x y. x ≢ y) ys
moved_differ xs ys moved h = AllPairs-from_IsDistinct unsigned_Decides ys (IsDistinct-IsPermutation nat_eq turned xs ys moved (IsDistinct-from_AllPairs unsigned_Decides xs h))

rising_differ : (xs : List ℕ) → IsStrictlyIncreasing xs → AllPairs (λ x y. x ≢ y) xs
rising_differ xs h = λ i j d before within. let below = AllPairs-from_increasing xs h i j d before within in λ e. omega (arith, below, e)

-- numbers differ exactly if they rise once they are sorted
pub differ_sorted : (built sorted : List ℕ) (b : Bool) → IsPermutation built sorted → IsNonDecreasing sorted → (IsTrue b ↔ IsStrictlyIncreasing sorted) → (IsTrue b ↔ AllPairs (λ x y. x ≢ y) built)
differ_sorted built sorted b moved order rise = (
  (λ t. moved_differ sorted built (IsPermutation-sym built sorted moved) (rising_differ sorted (rise.0 t))),
  (λ h. rise.1 (IsStrictlyIncreasing-from_distinct sorted order (IsDistinct-from_AllPairs unsigned_Decides sorted (moved_differ built sorted moved h)))),
)

none_from : (f : List ℕ → ℕ) (ts : List (List ℕ)) (t : List ℕ) → AllByRecursion (λ y. nat_eq (f t) y ≡ false) (map f ts) → IsNoneOf ts t
none_from f [] t h = tt
none_from f (u ∷ ts) t h = ((λ e. let same = (unsigned_Decides (f t) (f u)).1 (ap f e) in let other = h.0 in cc), none_from f ts t h.1)

distinct_from : (f : List ℕ → ℕ) (ts : List (List ℕ)) → IsDistinct nat_eq (map f ts) → AreDistinct ts
distinct_from f [] h = tt
distinct_from f (t ∷ ts) h = (none_from f ts t (IsDistinct-head nat_eq (f t) (map f ts) h), distinct_from f ts (IsDistinct-tail nat_eq (f t) (map f ts) h))

-- texts are distinct whose fingerprints differ
pub distinct_texts : (f : List ℕ → ℕ) (ts : List (List ℕ)) (built : List ℕ) (b : Bool) → built ≡ map f ts → (IsTrue b ↔ AllPairs (λ x y. x ≢ y) built) → OnTrue b (AreDistinct ts)
distinct_texts f ts built false is differ = tt
distinct_texts f ts built true is differ = distinct_from f ts (subst (IsDistinct nat_eq) is (IsDistinct-from_AllPairs unsigned_Decides built (differ.0 refl)))
