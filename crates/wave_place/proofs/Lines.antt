-- Lines of texts: where no line feed stands.
use Rattle.std.proofs.Common.{ℕ, suc, zero, ◌≡◌, ◌≢◌, ◌<◌, ◌≤◌, ◌+◌, ◌-◌, List, [], ◌∷◌, length, take, drop, arith, ap, ◌⊎◌, inl, inr, refl, subst}
use lib.ListN.{get_or}
use Rattle.std.proofs.Common.{sym, ◌∙◌, ◌++◌, chars}
use Rattle.std.proofs.Math.Seq.{get_or-append_seam}
use Rattle.std.proofs.lemmas.List.{append_assoc, append-nil, take-append-drop, length-append, length-take-le, get_or-append-add}
use Rattle.wave_wasm.specs.Lists.{AllOf}
use Rattle.wave_place.specs.Places.{line_feeds, IsInOneLine, AreWholeLines, EndsWithReturn, IsBehindLine, PartsLineEnd, IsPlaceOf}

module _ (c : ℕ) where
  -- a text that holds no c
  pub none_of : (s : List ℕ) → ((i : ℕ) → i < length s → get_or s i 0 ≢ c) → AllOf (λ b. b ≢ c) s
  none_of [] h = tt
  none_of (b ∷ s) h = (h 0 (omega arith), none_of s (λ i lt. h (suc i) (omega (arith, lt))))

  -- the prefix of one whose first c stands at k
  pub none_before : (s : List ℕ) (k : ℕ) → k < length s → ((i : ℕ) → i < k → get_or s i 0 ≢ c) → AllOf (λ b. b ≢ c) (take k s)
  none_before s zero lt h = tt
  none_before [] (suc k) lt h = absurd (omega (arith, lt))
  none_before (b ∷ s) (suc k) lt h = (h 0 (omega arith), none_before s k (omega (arith, lt)) (λ i l. h (suc i) (omega (arith, l))))

  -- what stands after the last
  pub none_behind : (s : List ℕ) (k : ℕ) → ((i : ℕ) → k ≤ i → i < length s → get_or s i 0 ≢ c) → AllOf (λ b. b ≢ c) (drop k s)
  none_behind s zero h = none_of s (λ i lt. h i (omega arith) lt)
  none_behind [] (suc k) h = tt
  none_behind (b ∷ s) (suc k) h = none_behind s k (λ i le lt. h (suc i) (omega (arith, le)) (omega (arith, lt)))

  -- what stands at k and after it
  pub drop_at : (s : List ℕ) (k : ℕ) → k < length s → get_or s k 0 ≡ c → drop k s ≡ c ∷ drop (suc k) s
  drop_at [] k lt e = absurd (omega (arith, lt))
  drop_at (b ∷ s) zero lt e = ap (λ x. x ∷ s) e
  drop_at (b ∷ s) (suc k) lt e = drop_at s k (omega (arith, lt)) e

-- the prefix of a line
prefix_in_line : (xs ys : List ℕ) → IsInOneLine (xs ++ ys) → IsInOneLine xs
prefix_in_line [] ys h = tt
prefix_in_line (x ∷ xs) ys h = (h.0, prefix_in_line xs ys h.1)

-- a line without its line end
pub without_end : (text line shorter more : List ℕ) → IsInOneLine line → text ≡ line ++ 10 ∷ more
    → (line ≡ shorter ++ 13 ∷ []) ⊎ (line ≡ shorter) × (EndsWithReturn line → ⊥)
    → IsInOneLine shorter × ((behind : List ℕ) × (text ≡ shorter ++ behind) × IsBehindLine shorter behind)
without_end text line shorter more one is (inl both) = (
  prefix_in_line shorter (13 ∷ []) (subst IsInOneLine both one),
  (13 ∷ 10 ∷ more, is ∙ (ap (λ (x : List ℕ). x ++ 10 ∷ more) both ∙ append_assoc shorter (13 ∷ []) (10 ∷ more)), inr (inl (more, refl))),
)
without_end text line shorter more one is (inr (same, alone)) = (
  subst IsInOneLine same one,
  (10 ∷ more, is ∙ ap (λ (x : List ℕ). x ++ 10 ∷ more) same, inr (inr (more, refl, subst (λ (x : List ℕ). EndsWithReturn x → ⊥) same alone))),
)

-- a part of a line that is behind another part ends as the line does
ends_so : (prefix rest : List ℕ) (b : ℕ) → EndsWithReturn (prefix ++ b ∷ rest) → EndsWithReturn (b ∷ rest)
ends_so [] rest b ends = ends
ends_so (f ∷ prefix) rest b ([], e) = absurd (omega (arith, ap length e, length-append prefix (b ∷ rest)))
ends_so (f ∷ prefix) rest b (t ∷ text, e) = ends_so prefix rest b (text, cc)

-- a CR and a line feed, side by side
parted : (source prefix behind : List ℕ) (at : ℕ) → source ≡ prefix ++ 13 ∷ 10 ∷ behind → suc (length prefix) ≡ at → PartsLineEnd source at
parted source prefix behind at is at_is =
    let last : at - 1 ≡ length prefix = omega arith in
    let next : length prefix + 1 ≡ at = omega arith in (
      omega arith,
      ap (λ n. get_or source n 0) last ∙ (ap (λ s. get_or s (length prefix) 0) is ∙ get_or-append_seam prefix 13 (10 ∷ behind) 0),
      ap (λ n. get_or source n 0) (sym next) ∙ (ap (λ s. get_or s (length prefix + 1) 0) is ∙ get_or-append-add prefix (13 ∷ 10 ∷ behind) 1 0),
    )

-- a CR before the place, and a line feed behind it
parted_here : (source before prefix text more : List ℕ) (at : ℕ)
    → source ≡ before ++ (prefix ++ 10 ∷ more) → length (before ++ prefix) ≡ at → prefix ≡ text ++ 13 ∷ [] → PartsLineEnd source at
parted_here source before prefix text more at is at_is ends =
    parted source (before ++ text) more at
    (is ∙ (ap (λ (x : List ℕ). before ++ (x ++ 10 ∷ more)) ends
    ∙ (ap (λ (x : List ℕ). before ++ x) (append_assoc text (13 ∷ []) (10 ∷ more)) ∙ sym (append_assoc before text (13 ∷ 10 ∷ more)))))
    (omega (arith, at_is, ap length ends, length-append before prefix, length-append before text, length-append text (13 ∷ [])))

-- what stands behind the rest of a line stands behind the line
pub behind_whole : (source before prefix rest behind : List ℕ) (at : ℕ)
    → source ≡ before ++ (prefix ++ (rest ++ behind)) → length (before ++ prefix) ≡ at → (PartsLineEnd source at → ⊥) → IsBehindLine rest behind
    → IsBehindLine (prefix ++ rest) behind
behind_whole source before prefix rest behind at is at_is whole (inl none) = inl none
behind_whole source before prefix rest behind at is at_is whole (inr (inl both)) = inr (inl both)
behind_whole source before prefix [] behind at is at_is whole (inr (inr (more, feed, alone))) =
    let here = is ∙ ap (λ (x : List ℕ). before ++ (prefix ++ x)) feed in
    inr (inr (more, feed, λ (text, ends). whole (parted_here source before prefix text more at here at_is (sym (append-nil prefix) ∙ ends))))
behind_whole source before prefix (b ∷ rest) behind at is at_is whole (inr (inr (more, feed, alone))) =
    inr (inr (more, feed, λ ends. alone (ends_so prefix rest b ends)))

-- a place of the source
pub is_place : (source lines prefix rest behind from : List ℕ) (at line column : ℕ) → at ≤ length source → (PartsLineEnd source at → ⊥)
    → take at source ≡ lines ++ prefix → from ≡ drop at source → from ≡ rest ++ behind
    → AreWholeLines lines → IsInOneLine prefix → IsInOneLine rest → IsBehindLine rest behind → line ≡ suc (line_feeds lines) → column ≡ suc (length (chars prefix)) → IsPlaceOf source at line column prefix rest
is_place source lines prefix rest behind from at line column le unparted cut is parts whole in_line rest_in ends line_is column_is =
    let source_is =
    sym (take-append-drop at source)
    ∙ (ap (λ (x : List ℕ). x ++ drop at source) cut
    ∙ (ap (λ (x : List ℕ). (lines ++ prefix) ++ x) (sym is ∙ parts) ∙ append_assoc lines prefix (rest ++ behind))) in
    let at_is : length (lines ++ prefix) ≡ at = ap length (sym cut) ∙ length-take-le at source le in
    record {
      before = lines;
      behind = behind;
      source_is = source_is;
      at_is = at_is;
      begins = whole;
      ends = behind_whole source lines prefix rest behind at source_is at_is unparted ends;
      prefix_in_line = in_line;
      rest_in_line = rest_in;
      line_is = line_is;
      column_is = column_is;
    }
