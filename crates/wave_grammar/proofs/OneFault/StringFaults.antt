-- A string token has at most one fault.
use Rattle.std.proofs.Common.{◌≡◌, ℕ, ◌+◌, ◌<◌, List, [], ◌∷◌, ◌++◌, inl, inr, ◌⊎◌, refl, sym, ap, subst, ◌∙◌, length, append_assoc, arith}
use Rattle.std.proofs.lemmas.List.{append_cancel_left, append_cancel_right}
use Rattle.wave_lex.specs.Strings.{IsBadEscapeAt, IsInQuotes}
use Rattle.wave_lex.specs.Tokenization.{three_quotes}
use Rattle.wave_lex.specs.Multiline.{spaces, DropsReturn, OpensWell, IsSpaces, closing_piece, pieces, LineFault, BadLine, BadLines, BadBetween, MultilineFault, IsInThreeQuotes, opening}
use Rattle.wave_lex.proofs.StringDecoding.OneMeaning.{drops_once, ends_once, length_spaces}
use Rattle.wave_lex.proofs.MultilineStrings.Lines.{closing_last}
use Rattle.wave_lex.proofs.StringDecoding.Faults.{bad_escape_refuses, bad_line, opens_well}

-- where one text begins two ways, the longer prefix goes on from the shorter
goes_on : (f g x y : List ℕ) → f ++ x ≡ g ++ y → length f < length g → (b : ℕ) × (m : List ℕ) × (g ≡ f ++ b ∷ m) × (x ≡ b ∷ (m ++ y))
goes_on f [] x y e h = absurd (omega arith)
goes_on [] (b ∷ g) x y e h = (b, g, refl, e)
goes_on (c ∷ f) (b ∷ g) x y e h =
    let more = goes_on f g x y (cc) (omega arith) in
    (more.0, more.1, (let same : c ≡ b = cc in let is : g ≡ f ++ more.0 ∷ more.1 = more.2 in cc), more.3)

-- no bad escape before a bad escape
none_before : (s : List ℕ) (i j : ℕ) → IsBadEscapeAt s i → IsBadEscapeAt s j → i < j → ⊥
none_before s i j (f, r, t, whole, decoded, none, place) (g, q, u, again, further, some, other) before =
    let more = goes_on f g (92 ∷ r) (92 ∷ q) (sym whole ∙ again) (omega arith) in
    let same : more.0 ≡ 92 = cc in
    let behind : 92 ∷ r ≡ (92 ∷ more.1) ++ 92 ∷ q = more.3 ∙ ap (λ (b : ℕ). b ∷ (more.1 ++ 92 ∷ q)) same in
    bad_escape_refuses g (length f)
    (f, more.1, t, more.2 ∙ ap (λ (b : ℕ). f ++ b ∷ more.1) same, decoded, (λ e z c escape cut. none e (z ++ 92 ∷ q) c escape (behind ∙ (ap (λ (x : List ℕ). x ++ 92 ∷ q) cut ∙ append_assoc e z (92 ∷ q)))), refl) u
    further

-- the first bad escape is one
pub one_bad_escape : (s : List ℕ) (i j : ℕ) → IsBadEscapeAt s i → IsBadEscapeAt s j → i ≡ j
one_bad_escape s i j a b = omega (arith, none_before s i j a b, none_before s j i b a)

-- what a line is behind its spaces, without a carriage return at its end
one_line : (k : ℕ) (line x y u v : List ℕ) → line ≡ spaces k ++ x → line ≡ spaces k ++ y → DropsReturn x u → DropsReturn y v → u ≡ v
one_line k line x y u v e f drops again = drops_once y u v (subst (λ (z : List ℕ). DropsReturn z u) (append_cancel_left (spaces k) x y (sym e ∙ f)) drops) again

-- a bad line is bad in one way
one_bad_line : (k at : ℕ) (line : List ℕ) (f g : LineFault) → BadLine k at line f → BadLine k at line g → f ≡ g
one_bad_line k at line f g (inl a) (inl b) = a.1 ∙ sym b.1
one_bad_line k at line f g (inl a) (inr (z, j, (w, there, again), bad, e)) = absurd (a.0 w there)
one_bad_line k at line f g (inr (y, i, (x, whole, drops), bad, e)) (inl b) = absurd (b.0 x whole)
one_bad_line k at line f g (inr (y, i, (x, whole, drops), bad, e)) (inr (z, j, (w, there, again), other, d)) =
    let same : i ≡ j = one_bad_escape z i j (subst (λ (v : List ℕ). IsBadEscapeAt v i) (one_line k line x w y z whole there drops again) bad) other in
    cc

-- so are the lines
one_of_lines : (k at : ℕ) (ps : List (List ℕ)) (f g : LineFault) → BadLines k at ps f → BadLines k at ps g → f ≡ g
one_of_lines k at [] f g a b = absurd a
one_of_lines k at (p ∷ ps) f g (inl a) (inl b) = one_bad_line k at p f g a b
one_of_lines k at (p ∷ ps) f g (inl a) (inr (t, means, b)) = absurd (bad_line k at p t f a means)
one_of_lines k at (p ∷ ps) f g (inr (t, means, a)) (inl b) = absurd (bad_line k at p t g b means)
one_of_lines k at (p ∷ ps) f g (inr (t, means, a)) (inr (u, again, b)) = one_of_lines k (at + length p + 1) ps f g a b

-- so are the lines between
one_between : (s : List ℕ) (f g : LineFault) → BadBetween s f → BadBetween s g → f ≡ g
one_between s f g a b =
    let cut : a.first ∷ (a.between ++ spaces a.indent ∷ []) ≡ b.first ∷ (b.between ++ spaces b.indent ∷ []) = sym a.cut ∙ b.cut in
    let first : a.first ≡ b.first = cc in
    let ends = ends_once a.between b.between (spaces a.indent) (spaces b.indent) (cc) in
    let indent : a.indent ≡ b.indent = sym (length_spaces a.indent) ∙ (ap length ends.1 ∙ length_spaces b.indent) in
    one_of_lines b.indent (length b.first + 1) b.between f g
    (subst (λ (ps : List (List ℕ)). BadLines b.indent (length b.first + 1) ps f) ends.0
    (subst (λ (p : List ℕ). BadLines b.indent (length p + 1) a.between f) first (subst (λ (k : ℕ). BadLines k (length a.first + 1) a.between f) indent a.bad))) b.bad

-- where a line between is bad, the token opens well and closes well
between_opens : (s : List ℕ) (f : LineFault) → BadBetween s f → OpensWell (pieces s)
between_opens s f b = subst OpensWell (sym b.cut) (opens_well b.first b.between (spaces b.indent) b.opens)

-- a token with another fault closes well
closes_well : (s : List ℕ) (f : LineFault) → IsSpaces (closing_piece (pieces s)) × (OpensWell (pieces s) → ⊥) × (f ≡ opening) ⊎ BadBetween s f → IsSpaces (closing_piece (pieces s))
closes_well s f (inl h) = h.0
closes_well s f (inr b) = (b.indent, ap closing_piece b.cut ∙ closing_last b.first b.between (spaces b.indent))

-- the first fault of a multiline token is one
pub one_line_fault : (s : List ℕ) (f g : LineFault) → MultilineFault s f → MultilineFault s g → f ≡ g
one_line_fault s f g (inl a) (inl b) = a.1 ∙ sym b.1
one_line_fault s f g (inl a) (inr b) = absurd (a.0 (closes_well s g b))
one_line_fault s f g (inr a) (inl b) = absurd (b.0 (closes_well s f a))
one_line_fault s f g (inr (inl a)) (inr (inl b)) = a.2 ∙ sym b.2
one_line_fault s f g (inr (inl a)) (inr (inr b)) = absurd (a.1 (between_opens s g b))
one_line_fault s f g (inr (inr a)) (inr (inl b)) = absurd (b.1 (between_opens s f a))
one_line_fault s f g (inr (inr a)) (inr (inr b)) = one_between s f g a b

-- what stands in quotes is one
pub one_in_quotes : (token x y : List ℕ) → IsInQuotes token x → IsInQuotes token y → x ≡ y
one_in_quotes token x y e f = append_cancel_right x y (34 ∷ []) (let same : 34 ∷ (x ++ 34 ∷ []) ≡ 34 ∷ (y ++ 34 ∷ []) = sym e ∙ f in cc)

-- so is what stands in three quotes
pub one_in_three_quotes : (token x y : List ℕ) → IsInThreeQuotes token x → IsInThreeQuotes token y → x ≡ y
one_in_three_quotes token x y e f = append_cancel_right x y three_quotes (append_cancel_left three_quotes (x ++ three_quotes) (y ++ three_quotes) (sym e ∙ f))
