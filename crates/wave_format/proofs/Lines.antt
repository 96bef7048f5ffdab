-- The lines of whitespace, one after the other, and the white space around a comment.
use Rattle.std.proofs.Common.{◌≡◌, ℕ, ◌<◌, ◌+◌, Bool, true, false, nat_eq, suc, List, [], ◌∷◌, Some, None, refl, sym, ap, subst, ◌∙◌, length, take, drop, length-drop, arith}
use Rattle.std.specs.Prelude.{◌-◌, ◌==◌, get_or}
use Rattle.std.specs.Char.{is_ascii_whitespace}
use Rattle.std.specs.List.{suffix_len, position_or_len}
use Rattle.std.specs.Str.{IsTrimAscii, IsUtf8}
use denote.Ref.{Bor}
use Rattle.std.proofs.lemmas.List.{get_or-take}
use Rattle.std.proofs.lemmas.List.Sums.{suffix_len_is}
use Rattle.std.proofs.lemmas.Bool.{ltb-true}
use Rattle.std.proofs.lemmas.Str.{IsUtf8-drop}
use Rattle.std.proofs.lemmas.Str.Ascii.{trim_ascii_is}
use Rattle.std.proofs.lemmas.Str.Pattern.{IsSplitOnceResult, split_once_first}
use Rattle.wave_lex.specs.Multiline.{pieces, put_first}
use Rattle.wave_format.specs.Words.{trimmed, trimmed_start, trimmed_end, is_comment}
use Rattle.wave_format.proofs.Writing.{slashes}

-- where the first line feed stands
abbrev pub feed_at : List ℕ → ℕ
feed_at s = position_or_len (λ b. b == 10) s

-- the first line, and those after it
pub split_pieces : (s : List ℕ) → feed_at s < length s → pieces s ≡ take (feed_at s) s ∷ pieces (drop (feed_at s + 1) s)
split_pieces [] l = let w : ⊥ = omega arith in absurd w
split_pieces (b ∷ s) l = by_test (split_pieces s) (nat_eq b 10) refl
  where
    by_test : (feed_at s < length s → pieces s ≡ take (feed_at s) s ∷ pieces (drop (feed_at s + 1) s)) → (t : Bool) → nat_eq b 10 ≡ t → pieces (b ∷ s) ≡ take (feed_at (b ∷ s)) (b ∷ s) ∷ pieces (drop (feed_at (b ∷ s) + 1) (b ∷ s))
    by_test more true e = rw e refl
    by_test more false e =
        let next : feed_at (b ∷ s) ≡ suc (feed_at s) = rw e (omega arith) in
        let less : feed_at s < length s = omega arith in
        let later : suc (feed_at s + 1) ≡ suc (feed_at s) + 1 = omega arith in
        rw next (rw e (ap (put_first b) (more less) ∙ ap (λ (k : ℕ). (b ∷ take (feed_at s) s) ∷ pieces (drop k (b ∷ s))) later))

-- where there is no line feed
pub only_piece : (s : List ℕ) → feed_at s ≡ length s → pieces s ≡ s ∷ []
only_piece [] e = refl
only_piece (b ∷ s) l = by_test (only_piece s) (nat_eq b 10) refl
  where
    by_test : (feed_at s ≡ length s → pieces s ≡ s ∷ []) → (t : Bool) → nat_eq b 10 ≡ t → pieces (b ∷ s) ≡ (b ∷ s) ∷ []
    by_test more true e =
        let none : feed_at (b ∷ s) ≡ 0 = rw e refl in
        let w : ⊥ = omega arith in absurd w
    by_test more false e =
        let next : feed_at (b ∷ s) ≡ suc (feed_at s) = rw e (omega arith) in
        let same : feed_at s ≡ length s = omega arith in
        rw e (ap (put_first b) (more same))

-- what `split_once` gives at a line feed: the first line, and what is behind it
pub first_line : (s : List ℕ) (l b : Bor (List ℕ)) → IsSplitOnceResult 10 s (Some (l, b)) → IsUtf8 s → (pieces s ≡ l.now ∷ pieces b.now) × IsUtf8 b.now × (length b.now < length s)
first_line s l b h u =
    let (some, before, behind) = split_once_first 10 s (Some (l, b)) h (ltb-true 10 128 refl) in
    let (i, j, (none, there), line, rest, ordered, short, sum) = h in
    let parts : pieces s ≡ take (feed_at s) s ∷ pieces (drop (feed_at s + 1) s) = split_pieces s some in (
      parts ∙ (ap (λ (z : List ℕ). z ∷ pieces (drop (feed_at s + 1) s)) (sym before) ∙ ap (λ (z : List ℕ). l.now ∷ pieces z) (sym behind)),
      subst IsUtf8 (sym (rest ∙ ap (λ (z : ℕ). drop z s) there.ends)) (IsUtf8-drop s _ u there.after),
      omega (arith, ap length behind, length-drop (feed_at s + 1) s),
    )

-- so where there is none
pub no_line : (s : List ℕ) → IsSplitOnceResult 10 s None → pieces s ≡ s ∷ []
no_line s h = only_piece s (split_once_first 10 s None h (ltb-true 10 128 refl))

-- what `trim_ascii` gives
pub trim_is : (s r : List ℕ) → IsTrimAscii s r → r ≡ trimmed s
trim_is s r h = trim_ascii_is s r (trimmed_start s) refl h

-- all of a list
take_all : (s : List ℕ) → take (length s) s ≡ s
take_all [] = refl
take_all (b ∷ s) = ap (λ (z : List ℕ). b ∷ z) (take_all s)

-- a comment that is trimmed has no white space around it
pub trim_fixed : (s r : List ℕ) → IsTrimAscii s r → is_comment r ≡ true → trimmed r ≡ r
trim_fixed s r (m, cut, below, stops, from, ends) h =
    let (rest, begins) = slashes r h in
    let start : trimmed_start r ≡ r = ap trimmed_start begins ∙ sym begins in
    let some : 0 < length r = omega (arith, ap length begins) in
    let last : is_ascii_whitespace (get_or r (length r - 1) 0) ≡ false =
    ap is_ascii_whitespace (ap (λ (z : List ℕ). get_or z (length r - 1) 0) cut ∙ get_or-take (length r) (drop m s) (length r - 1) 0 (omega arith)) ∙ ends some in
    let none : suffix_len is_ascii_whitespace r ≡ length r - length r = suffix_len_is is_ascii_whitespace r (length r) 0 (omega arith) (λ k low high. let w : ⊥ = omega arith in absurd w) (λ l. last) in
    let size : length r - suffix_len is_ascii_whitespace r ≡ length r = omega (arith, none) in
    ap trimmed_end start ∙ (ap (λ (z : ℕ). take z r) size ∙ take_all r)
