-- Names that are sought among those of members, fields and flags.
use Rattle.std.proofs.Common.{◌≡◌, ℕ, zero, suc, ◌+◌, ◌<◌, ◌≤◌, Bool, true, false, ◌||◌, cond, if◌then◌else◌, List, [], ◌∷◌, ◌++◌, length, get_or, drop, map, Option, Some, None, is_some, refl, sym, ap, ◌∙◌, inl, inr, append_assoc, arith}
use Rattle.std.specs.Str.{bytes_eq}
use Rattle.std.proofs.lemmas.Bool.{cases_Bool}
use Rattle.std.proofs.lemmas.Slice.Eq.{bytes_eq-Decides}
use Rattle.wave_wasm.proofs.CanonicalText.Sequences.{at_item, at_end}
use Rattle.wave_wasm.specs.Names.{is_one_of, found_in}
use Rattle.wave_json.specs.Reading.{repeated_behind}

module _ {X : Type 0} (key : X → List ℕ) (xs : List X) (i : ℕ) where
  -- the next one stood before
  pub repeated_found : (seen : List (List ℕ)) (x : X) → i < length xs → x ≡ get_or xs i x → is_one_of seen (key x) ≡ true → repeated_behind seen i (map key (drop i xs)) ≡ Some (i, key x)
  repeated_found seen x lt is e =
      at_item (λ (l : List X). repeated_behind seen i (map key l)) xs i x lt is
      ∙ ap (λ (b : Bool). if b then Some (i, key x) else repeated_behind (key x ∷ seen) (suc i) (map key (drop (i + 1) xs))) e

  -- the next one did not
  pub repeated_next : (seen : List (List ℕ)) (x : X) → i < length xs → x ≡ get_or xs i x → is_one_of seen (key x) ≡ false → repeated_behind seen i (map key (drop i xs)) ≡ repeated_behind (key x ∷ seen) (i + 1) (map key (drop (i + 1) xs))
  repeated_next seen x lt is e =
      let k : suc i ≡ i + 1 = omega arith in
      at_item (λ (l : List X). repeated_behind seen i (map key l)) xs i x lt is
      ∙ (ap (λ (b : Bool). if b then Some (i, key x) else repeated_behind (key x ∷ seen) (suc i) (map key (drop (i + 1) xs))) e
      ∙ ap (λ (n : ℕ). repeated_behind (key x ∷ seen) n (map key (drop (i + 1) xs))) k)

  pub repeated_end : (seen : List (List ℕ)) → length xs ≤ i → repeated_behind seen i (map key (drop i xs)) ≡ None
  repeated_end seen le = at_end (λ (l : List X). repeated_behind seen i (map key l)) xs i le

turned : (a b : List ℕ) → bytes_eq a b ≡ bytes_eq b a
turned a b = elim (cases_Bool (bytes_eq a b)) [
  | inl t ↦ t ∙ sym (back a b t)
  | inr f ↦ elim (cases_Bool (bytes_eq b a)) [
    | inl u ↦ let v = back b a u in cc
    | inr g ↦ f ∙ sym g
  ]
]
  where
    back : (a b : List ℕ) → bytes_eq a b ≡ true → bytes_eq b a ≡ true
    back a b h = (bytes_eq-Decides b a).1 (sym ((bytes_eq-Decides a b).0 h))

-- a map that has one name more
pub seen_more : {X : Type 0} (name q : List ℕ) (seen : List (List ℕ)) (new old : Option X) (x : X) → new ≡ cond (bytes_eq name q) (Some x) old → is_some old ≡ is_one_of seen q → is_some new ≡ is_one_of (name ∷ seen) q
seen_more {X = X} name q seen new old x is so_far = ap is_some is ∙ (by (bytes_eq name q) so_far ∙ ap (λ (b : Bool). b || is_one_of seen q) (turned name q))
  where
    by : (b : Bool) → is_some old ≡ is_one_of seen q → is_some (cond b (Some x) old) ≡ (b || is_one_of seen q)
    by true e = refl
    by false e = e

-- a name at a place is one of them
pub one_there : {X : Type 0} (key : X → List ℕ) (xs : List X) (i : ℕ) (x : X) (name : List ℕ) → i < length xs → x ≡ get_or xs i x → bytes_eq name (key x) ≡ true → is_one_of (map key xs) name ≡ true
one_there key [] i x name lt is e = absurd (omega arith)
one_there {X = X} key (y ∷ ys) zero x name lt is e = ap (λ (z : X). bytes_eq name (key z) || is_one_of (map key ys) name) (sym is) ∙ ap (λ (b : Bool). b || is_one_of (map key ys) name) e
one_there key (y ∷ ys) (suc i) x name lt is e = or_right (bytes_eq name (key y)) (one_there key ys i x name (omega arith) is e)
  where
    or_right : (a : Bool) {b : Bool} → b ≡ true → (a || b) ≡ true
    or_right true h = refl
    or_right false h = h

-- ---- flags that were picked

pub pick_yes : {X : Type 0} (key : X → List ℕ) (given : List (List ℕ)) (xs : List X) (i : ℕ) (x : X) (front whole : List (List ℕ)) → i < length xs → x ≡ get_or xs i x → is_one_of given (key x) ≡ true → front ++ found_in given (map key (drop i xs)) ≡ whole → (front ++ key x ∷ []) ++ found_in given (map key (drop (i + 1) xs)) ≡ whole
pick_yes {X = X} key given xs i x front whole lt is e so_far =
    append_assoc front (key x ∷ []) (found_in given (map key (drop (i + 1) xs)))
    ∙ (ap (λ (l : List (List ℕ)). front ++ l) (sym (at_item (λ (l : List X). found_in given (map key l)) xs i x lt is ∙ ap (λ (b : Bool). cond b (key x ∷ found_in given (map key (drop (i + 1) xs))) (found_in given (map key (drop (i + 1) xs)))) e)) ∙ so_far)

pub pick_no : {X : Type 0} (key : X → List ℕ) (given : List (List ℕ)) (xs : List X) (i : ℕ) (x : X) (front whole : List (List ℕ)) → i < length xs → x ≡ get_or xs i x → is_one_of given (key x) ≡ false → front ++ found_in given (map key (drop i xs)) ≡ whole → front ++ found_in given (map key (drop (i + 1) xs)) ≡ whole
pick_no {X = X} key given xs i x front whole lt is e so_far =
    ap (λ (l : List (List ℕ)). front ++ l) (sym (at_item (λ (l : List X). found_in given (map key l)) xs i x lt is ∙ ap (λ (b : Bool). cond b (key x ∷ found_in given (map key (drop (i + 1) xs))) (found_in given (map key (drop (i + 1) xs)))) e)) ∙ so_far
