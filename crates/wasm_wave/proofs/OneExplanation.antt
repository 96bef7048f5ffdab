-- One text explains a refusal: what is shown is determined by the source, the message and the span.
use Rattle.std.proofs.Common.{ℕ, suc, ◌≡◌, ◌<◌, ◌-◌, List, [], ◌∷◌, ◌++◌, length, take, chars, arith, ap, inl, inr, refl, subst, sym, ◌∙◌}
use Rattle.std.proofs.lemmas.List.{append_assoc}
use Rattle.std.specs.Str.{IsCharBoundary}
use Rattle.std.specs.declared.ops.Range.{Range}
use Rattle.wave_place.specs.Places.{line_feeds, IsInOneLine, AreWholeLines, IsBehindLine, IsPlaceIn, IsGreatest, IsPlaceOf, IsMarked, heading, IsExplained}
use Rattle.wave_place.specs.Shown.{shown_lines}

-- one number is the greatest
one_greatest : (P : ℕ → Type 0) (most n k : ℕ) → IsGreatest P most n → IsGreatest P most k → n ≡ k
one_greatest P most n k g h =
    let not_less : n < k → ⊥ = λ lt. g.greatest k lt h.bound h.holds in
    let not_more : k < n → ⊥ = λ lt. h.greatest n lt g.bound g.holds in
    omega (arith, not_less, not_more)

-- two prefixes of one length
same_prefix : (xs ys us vs : List ℕ) → length xs ≡ length ys → xs ++ us ≡ ys ++ vs → (xs ≡ ys) × (us ≡ vs)
same_prefix [] [] us vs long e = (refl, e)
same_prefix [] (y ∷ ys) us vs long e = absurd (omega (arith, long))
same_prefix (x ∷ xs) [] us vs long e = absurd (omega (arith, long))
same_prefix (x ∷ xs) (y ∷ ys) us vs long e =
    let head : x ≡ y = cc in
    let tail : xs ++ us ≡ ys ++ vs = cc in
    let r = same_prefix xs ys us vs (omega (arith, long)) tail in
    (λ i. head i ∷ r.0 i, r.1)

-- ---- the lines before

-- what is behind the first byte of whole lines
tail_whole : (x : ℕ) (xs : List ℕ) → AreWholeLines (x ∷ xs) → AreWholeLines xs
tail_whole x xs (inl e) = absurd (cc)
tail_whole x xs (inr ([], e)) = inl (cc)
tail_whole x xs (inr (l ∷ lines, e)) = inr (lines, cc)

-- a line holds no line feed
no_feed : (xs ys : List ℕ) → IsInOneLine (xs ++ 10 ∷ ys) → ⊥
no_feed [] ys h = h.0 refl
no_feed (x ∷ xs) ys h = no_feed xs ys h.1

-- a line begins with no whole line
no_whole : (x : ℕ) (xs line rest : List ℕ) → AreWholeLines (x ∷ xs) → IsInOneLine line → line ≡ (x ∷ xs) ++ rest → ⊥
no_whole x xs line rest (inl e) one is = cc
no_whole x xs line rest (inr (lines, e)) one is =
    no_feed lines rest (subst IsInOneLine (is ∙ (ap (λ (z : List ℕ). z ++ rest) e ∙ append_assoc lines (10 ∷ []) rest)) one)

-- a text is whole lines and a last line in one way
one_split : (b c f g : List ℕ) → AreWholeLines b → AreWholeLines c → IsInOneLine f → IsInOneLine g → b ++ f ≡ c ++ g → (b ≡ c) × (f ≡ g)
one_split [] [] f g wb wc of og e = (refl, e)
one_split [] (y ∷ c) f g wb wc of og e = absurd (no_whole y c f g wc of e)
one_split (x ∷ b) [] f g wb wc of og e = absurd (no_whole x b g f wb og (sym e))
one_split (x ∷ b) (y ∷ c) f g wb wc of og e =
    let head : x ≡ y = cc in
    let tail : b ++ f ≡ c ++ g = cc in
    let r = one_split b c f g (tail_whole x b wb) (tail_whole y c wc) of og tail in
    (λ i. head i ∷ r.0 i, r.1)

-- ---- the rest of the line

-- a line end isn't parted
unparted : (prefix d more : List ℕ) (y : ℕ) → y ≡ 13 → d ≡ 10 ∷ more → IsBehindLine (prefix ++ y ∷ []) d → ⊥
unparted prefix d more y return feed (inl none) = cc
unparted prefix d more y return feed (inr (inl (others, both))) = let e : y ≡ 10 = cc in omega (arith, return, e)
unparted prefix d more y return feed (inr (inr (others, is, alone))) = alone (prefix, ap (λ n. prefix ++ n ∷ []) return)

-- a line ends where a line end begins
no_longer : (prefix q b d : List ℕ) (y : ℕ) → IsInOneLine (y ∷ q) → IsBehindLine (prefix ++ []) b → IsBehindLine (prefix ++ y ∷ q) d → b ≡ (y ∷ q) ++ d → ⊥
no_longer prefix q b d y one (inl none) behind e = cc
no_longer prefix [] b d y one (inr (inl (more, both))) behind e = unparted prefix d more y (cc) (cc) behind
no_longer prefix (z ∷ q) b d y one (inr (inl (more, both))) behind e = one.1.0 (cc)
no_longer prefix q b d y one (inr (inr (more, feed, alone))) behind e = one.0 (cc)

-- so the rest of the line is one
one_rest : (prefix r q b d : List ℕ) → IsInOneLine r → IsInOneLine q → IsBehindLine (prefix ++ r) b → IsBehindLine (prefix ++ q) d → r ++ b ≡ q ++ d → r ≡ q
one_rest prefix [] [] b d or oq hb hd e = refl
one_rest prefix [] (y ∷ q) b d or oq hb hd e = absurd (no_longer prefix q b d y oq hb hd e)
one_rest prefix (x ∷ r) [] b d or oq hb hd e = absurd (no_longer prefix r d b x or hd hb (sym e))
one_rest prefix (x ∷ r) (y ∷ q) b d or oq hb hd e =
    let head : x ≡ y = cc in
    let tail : r ++ b ≡ q ++ d = cc in
    let first = subst (λ (l : List ℕ). IsBehindLine l b) (sym (append_assoc prefix (x ∷ []) r)) hb in
    let second = subst (λ (l : List ℕ). IsBehindLine l d) (ap (λ n. prefix ++ n ∷ q) (sym head) ∙ sym (append_assoc prefix (x ∷ []) q)) hd in
    let same = one_rest (prefix ++ x ∷ []) r q b d or.1 oq.1 first second tail in
    λ i. head i ∷ same i

-- ---- the place, the mark and the text

-- a byte of the source stands in one line, at one column
one_place : (source : List ℕ) (at line row column scalar : ℕ) (prefix f rest r : List ℕ) → IsPlaceOf source at line column prefix rest → IsPlaceOf source at row scalar f r
    → (line ≡ row) × (column ≡ scalar) × (prefix ≡ f) × (rest ≡ r)
one_place source at line row column scalar prefix f rest r p q =
    let whole =
    append_assoc p.before prefix (rest ++ p.behind)
    ∙ (sym p.source_is ∙ (q.source_is ∙ sym (append_assoc q.before f (r ++ q.behind)))) in
    let parts = same_prefix (p.before ++ prefix) (q.before ++ f) (rest ++ p.behind) (r ++ q.behind) (p.at_is ∙ sym q.at_is) whole in
    let lines = one_split p.before q.before prefix f p.begins q.begins p.prefix_in_line q.prefix_in_line parts.0 in
    let behind = subst (λ (x : List ℕ). IsBehindLine (x ++ r) q.behind) (sym lines.1) q.ends in (
      p.line_is ∙ (ap (λ (x : List ℕ). suc (line_feeds x)) lines.0 ∙ sym q.line_is),
      p.column_is ∙ (ap (λ (x : List ℕ). suc (length (chars x))) lines.1 ∙ sym q.column_is),
      lines.1,
      one_rest prefix rest r p.behind q.behind p.rest_in_line q.rest_in_line p.ends behind parts.1,
    )

-- one part of a line is marked
one_mark : (rest r : List ℕ) (n k : ℕ) (marked m : List ℕ) → rest ≡ r → n ≡ k → IsMarked rest n marked → IsMarked r k m → marked ≡ m
one_mark rest r n k marked m same count (end, greatest, is) (last, also, so) =
    let here = subst (λ (x : List ℕ). IsGreatest (IsCharBoundary x) n last) (sym same) (subst (λ c. IsGreatest (IsCharBoundary r) c last) (sym count) also) in
    let ends = one_greatest (IsCharBoundary rest) n end last greatest here in
    is ∙ ((λ i. take (ends i) (same i)) ∙ sym so)

-- one text explains
pub one_explanation : (source message : List ℕ) (span : Range ℕ) (text other : List ℕ) → IsExplained source message span text → IsExplained source message span other → text ≡ other
one_explanation source message span text other e f =
    let there : e.there ≡ f.there = one_greatest (IsPlaceIn source) span.start e.there f.there e.place.nearest f.place.nearest in
    let placed = subst (λ n. IsPlaceOf source n f.line f.column f.prefix f.rest) (sym there) f.place.place in
    let p = one_place source e.there e.line f.line e.column f.column e.prefix f.prefix e.rest f.rest e.place.place placed in
    let m = one_mark e.rest f.rest (span.end - e.there) (span.end - f.there) e.marked f.marked p.3 (ap (λ n. span.end - n) there) e.is_marked f.is_marked in
    e.text_is ∙ ((λ i. heading message (p.0 i) (p.1 i) ++ shown_lines (p.2 i) (p.3 i) (m i)) ∙ sym f.text_is)
