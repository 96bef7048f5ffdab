-- Names that are picked of others, in their order.
use Rattle.std.proofs.Common.{◌≡◌, ℕ, ◌≢◌, Bool, true, false, List, [], ◌∷◌, inl, inr, refl, sym, ap, subst, ◌∙◌}
use Rattle.std.specs.Str.{bytes_eq}
use Rattle.std.proofs.lemmas.Slice.Eq.{bytes_eq-Decides}
use Rattle.wave_wasm.specs.Lists.{AllOf}
use Rattle.wave_wasm.specs.Names.{IsNoneOf, AreAllOf, AreDistinct, ArePicked, is_one_of, found_in}

pub same_bytes : (x : List ℕ) → bytes_eq x x ≡ true
same_bytes x = (bytes_eq-Decides x x).1 refl

pub unlike : (x y : List ℕ) → x ≢ y → bytes_eq x y ≡ false
unlike x y n = by_test (bytes_eq x y) refl
  where
    by_test : (t : Bool) → bytes_eq x y ≡ t → t ≡ false
    by_test true e = absurd (n ((bytes_eq-Decides x y).0 e))
    by_test false e = refl

among_none : (names : List (List ℕ)) (name : List ℕ) → IsNoneOf names name → is_one_of names name ≡ false
among_none [] name h = refl
among_none (first ∷ more) name h = rw (unlike name first h.0, among_none more name h.1) refl

-- what is picked of names that the name is not among
picked_none : (names picked : List (List ℕ)) (name : List ℕ) → ArePicked names picked → IsNoneOf names name → IsNoneOf picked name
picked_none [] picked name h n = subst (λ (z : List (List ℕ)). IsNoneOf z name) (sym h) tt
picked_none (first ∷ more) picked name (inl h) n = picked_none more picked name h n.1
picked_none (first ∷ more) picked name (inr (others, e, h)) n = subst (λ (z : List (List ℕ)). IsNoneOf z name) (sym e) (n.0, picked_none more others name h n.1)

-- what is picked of distinct names is distinct
pub picked_distinct : (names picked : List (List ℕ)) → ArePicked names picked → AreDistinct names → AreDistinct picked
picked_distinct [] picked h d = subst AreDistinct (sym h) tt
picked_distinct (first ∷ more) picked (inl h) d = picked_distinct more picked h d.1
picked_distinct (first ∷ more) picked (inr (others, e, h)) d = subst AreDistinct (sym e) (picked_none more others first h d.0, picked_distinct more others h d.1)

more_of : (first : List ℕ) (names some : List (List ℕ)) → AreAllOf names some → AreAllOf (first ∷ names) some
more_of first names [] h = tt
more_of first names (one ∷ more) h = (inr h.0, more_of first names more h.1)

-- what is picked is of the names
pub picked_of : (names picked : List (List ℕ)) → ArePicked names picked → AreAllOf names picked
picked_of [] picked h = subst (AreAllOf []) (sym h) tt
picked_of (first ∷ more) picked (inl h) = more_of first more picked (picked_of more picked h)
picked_of (first ∷ more) picked (inr (others, e, h)) = subst (AreAllOf (first ∷ more)) (sym e) (inl refl, more_of first more others (picked_of more others h))

-- each picked name is one of which P holds
pub picked_all : (P : List ℕ → Type 0) (names picked : List (List ℕ)) → ArePicked names picked → AllOf P names → AllOf P picked
picked_all P [] picked h all = subst (AllOf P) (sym h) tt
picked_all P (first ∷ more) picked (inl h) all = picked_all P more picked h all.1
picked_all P (first ∷ more) picked (inr (others, e, h)) all = subst (AllOf P) (sym e) (all.0, picked_all P more others h all.1)

-- what is found of names none of which is the first
found_past : (first : List ℕ) (picked names : List (List ℕ)) → IsNoneOf names first → found_in (first ∷ picked) names ≡ found_in picked names
found_past first picked [] n = refl
found_past first picked (name ∷ more) n =
    let e : bytes_eq name first ≡ false = unlike name first (λ f. n.0 (sym f)) in
    let rest : found_in (first ∷ picked) more ≡ found_in picked more = found_past first picked more n.1 in
    rw (e, rest) refl

-- the names that are picked are found in their order
pub picked_found : (names picked : List (List ℕ)) → ArePicked names picked → AreDistinct names → found_in picked names ≡ picked
picked_found [] picked h d = sym h
picked_found (first ∷ more) picked (inl h) d =
    let e : is_one_of picked first ≡ false = among_none picked first (picked_none more picked first h d.0) in
    rw e (picked_found more picked h d.1)
picked_found (first ∷ more) picked (inr (others, e, h)) d =
    subst (λ (z : List (List ℕ)). found_in z (first ∷ more) ≡ z) (sym e)
    (let self : bytes_eq first first ≡ true = same_bytes first in rw self (ap (λ (z : List (List ℕ)). first ∷ z) (found_past first others more d.0 ∙ picked_found more others h d.1)))
