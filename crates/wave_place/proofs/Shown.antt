-- Which scalars of a line are shown, one more at a time.
use Rattle.std.proofs.Common.{ℕ, zero, suc, refl, ◌≡◌, ◌<◌, ◌≤◌, ◌+◌, ◌-◌, List, [], ◌∷◌, ◌++◌, length, take, drop, replicate, arith, sym, ap, ◌∙◌}
use Rattle.std.proofs.Math.ListN.{drop_of_length-le}
use Rattle.std.proofs.lemmas.List.{append_assoc, drop-append-le, take-append-le, take_all, length-append, length-drop, replicate-append-replicate}
use Rattle.std.specs.Prelude.{encode_utf8}
use Rattle.wave_place.specs.Shown.{ellipsis}

module _ (xs : List ℕ) (c s m : ℕ) where
  -- one that is among the first, which are left out
  pub left_out : length xs < s → take m (drop s (xs ++ c ∷ [])) ≡ take m (drop s xs)
  left_out lt =
      ap (take m) (drop_of_length-le (xs ++ c ∷ []) (omega (arith, length-append xs (c ∷ []), lt)) ∙ sym (drop_of_length-le xs (omega (arith, lt))))

  -- one for which there is room
  pub taken : s ≤ length xs → length xs - s < m → take m (drop s (xs ++ c ∷ [])) ≡ take m (drop s xs) ++ c ∷ []
  taken le lt =
      ap (take m) (drop-append-le s xs (c ∷ []) le)
      ∙ (take_all m (drop s xs ++ c ∷ []) (omega (arith, length-append (drop s xs) (c ∷ []), length-drop s xs, lt))
      ∙ ap (λ (x : List ℕ). x ++ c ∷ []) (sym (take_all m (drop s xs) (omega (arith, length-drop s xs, lt)))))

  -- one for which there is none
  pub past : s ≤ length xs → m ≤ length xs - s → take m (drop s (xs ++ c ∷ [])) ≡ take m (drop s xs)
  past le more =
      ap (take m) (drop-append-le s xs (c ∷ []) le) ∙ take-append-le m (drop s xs) (c ∷ []) (omega (arith, length-drop s xs, more))

-- one byte more
pub repeated : (to : List ℕ) (n c : ℕ) → (to ++ replicate n c) ++ c ∷ [] ≡ to ++ replicate (n + 1) c
repeated to n c =
    append_assoc to (replicate n c) (c ∷ []) ∙ ap (λ (x : List ℕ). to ++ x) (replicate-append-replicate n 1 c)

-- `…` where any is left out
pub some_left : (n : ℕ) → 0 < n → encode_utf8 0x2026 ≡ ellipsis n
some_left zero lt = absurd (omega (arith, lt))
some_left (suc n) lt = refl

-- the last scalars are no more than there is room for
pub last_ones : (cs : List ℕ) → take 48 (drop (length cs - 48) cs) ≡ drop (length cs - 48) cs
last_ones cs = take_all 48 (drop (length cs - 48) cs) (omega (arith, length-drop (length cs - 48) cs))
