-- Texts of items with commas between, item by item.
use Rattle.std.proofs.Common.{◌≡◌, ℕ, ◌+◌, ◌<◌, ◌≤◌, List, [], ◌∷◌, ◌++◌, map, length, take, get_or, codes, sym, ap, ◌∙◌, refl, append_assoc, arith}
use Rattle.std.proofs.lemmas.Grind.{common_steps}
use Rattle.std.proofs.lemmas.List.{take_more, take_all, map-append}
use Rattle.wave_wasm.specs.Commas.{joined, followed}

-- what goes before one more text
abbrev pub separator : List (List ℕ) → List ℕ
separator [] = []
separator (x ∷ xs) = codes ", "

followed_push : (xs : List (List ℕ)) (x : List ℕ) → followed (xs ++ x ∷ []) ≡ followed xs ++ (codes ", " ++ x)
followed_push [] x = grind (arith, common_steps)
followed_push (y ∷ ys) x = grind (arith, common_steps, followed_push ys x)

-- one more text
joined_push : (xs : List (List ℕ)) (x : List ℕ) → joined (xs ++ x ∷ []) ≡ joined xs ++ (separator xs ++ x)
joined_push [] x = grind (arith, common_steps)
joined_push (y ∷ ys) x = grind (arith, common_steps, followed_push ys x)

separator_push : (xs : List (List ℕ)) (x : List ℕ) → codes ", " ≡ separator (xs ++ x ∷ [])
separator_push [] x = refl
separator_push (y ∷ ys) x = refl

module _ {A : Type 0} (text : A → List ℕ) where
  -- one more item
  joined_more : (xs : List A) (i : ℕ) (d : A) → i < length xs → joined (map text (take (i + 1) xs)) ≡ joined (map text (take i xs)) ++ (separator (map text (take i xs)) ++ text (get_or xs i d))
  joined_more xs i d h = rw (take_more xs i d h) (rw (map-append text) (joined_push (map text (take i xs)) (text (get_or xs i d))))

  -- after one more item goes a comma
  pub separator_more : (xs : List A) (i : ℕ) (d : A) → i < length xs → codes ", " ≡ separator (map text (take (i + 1) xs))
  separator_more xs i d h = rw (take_more xs i d h) (rw (map-append text) (separator_push (map text (take i xs)) (text (get_or xs i d))))

  -- one more item, as at a turn of a loop
  pub joined_turn : (xs : List A) (i : ℕ) (s : List ℕ) (x : A) → i < length xs → s ≡ separator (map text (take i xs)) → x ≡ get_or xs i x → joined (map text (take i xs)) ++ (s ++ text x) ≡ joined (map text (take (i + 1) xs))
  joined_turn xs i s x h se xe = sym (joined_more xs i x h ∙ λ j. joined (map text (take i xs)) ++ (sym se j ++ text (sym xe j)))

  -- all items, at the end of a loop
  pub all_joined : (xs ys : List A) (i : ℕ) → xs ≡ ys → length xs ≤ i → joined (map text (take i xs)) ≡ joined (map text ys)
  all_joined xs ys i same h = ap (λ us. joined (map text us)) (take_all i xs h ∙ same)

-- what is left of texts with commas between, the first after this separator
abbrev pub left : List ℕ → List (List ℕ) → List ℕ
left s [] = []
left s (x ∷ xs) = s ++ (x ++ followed xs)

left_comma : (xs : List (List ℕ)) → left (codes ", ") xs ≡ followed xs
left_comma [] = refl
left_comma (x ∷ xs) = refl

-- one more text
pub left_turn : (w s x : List ℕ) (xs : List (List ℕ)) (whole : List ℕ) → w ++ left s (x ∷ xs) ≡ whole → (w ++ (s ++ x)) ++ left (codes ", ") xs ≡ whole
left_turn w s x xs whole e =
    ap (λ z. (w ++ (s ++ x)) ++ z) (left_comma xs) ∙ (append_assoc w (s ++ x) (followed xs) ∙ (ap (λ z. w ++ z) (append_assoc s x (followed xs)) ∙ e))
