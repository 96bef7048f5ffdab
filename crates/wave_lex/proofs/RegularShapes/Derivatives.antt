-- The derivative means what it says, and a shape's texts are those that it accepts.
use Rattle.std.proofs.Common.{◌≡◌, ℕ, Bool, true, false, cond, List, [], ◌∷◌, ◌++◌, ◌⊎◌, inl, inr, refl, sym, ap, subst, ◌∙◌}
use Rattle.std.proofs.lemmas.Bool.{and_parts, or_cases, or_right}
use Rattle.wave_wasm.specs.Lists.{AllOf}
use Rattle.wave_lex.specs.Regex.{Regex, nothing, empty, range, except, seq, alt, star, is_one_of, is_within, Matches, joined}
use Rattle.wave_lex.specs.Derive.{nullable, join, choice, choice_right, derivative, derivative_by}

-- what joins to nothing is nothing
append_nil_both : (x y : List ℕ) → x ++ y ≡ [] → (x ≡ []) × (y ≡ [])
append_nil_both [] y e = (refl, e)
append_nil_both (a ∷ x) y e = cc

-- what may be empty has the empty text
pub empty_from : (r : Regex) → nullable r ≡ true → Matches r []
empty_from nothing e = cc
empty_from empty e = refl
empty_from (range lo hi) e = cc
empty_from (except cs) e = cc
empty_from (seq p q) e = let h : (nullable p ≡ true) × (nullable q ≡ true) = and_parts _ _ e in
    ([], [], refl, empty_from p h.0, empty_from q h.1)
empty_from (alt p q) e = elim (or_cases (nullable p) (nullable q) e) [ inl h ↦ inl (empty_from p h) | inr h ↦ inr (empty_from q h) ]
empty_from (star p) e = ([], refl, tt)

-- what has the empty text may be empty
pub empty_into : (r : Regex) → Matches r [] → nullable r ≡ true
empty_into nothing h = absurd h
empty_into empty h = refl
empty_into (range lo hi) (c, e, t) = cc
empty_into (except cs) (c, e, t) = cc
empty_into (seq p q) (x, y, e, hp, hq) =
    let n : (x ≡ []) × (y ≡ []) = append_nil_both x y (sym e) in
    let a : nullable p ≡ true = empty_into p (subst (λ (z : List ℕ). Matches p z) n.0 hp) in
    let b : nullable q ≡ true = empty_into q (subst (λ (z : List ℕ). Matches q z) n.1 hq) in
    rw (a, b) refl
empty_into (alt p q) (inl h) = rw (empty_into p h) refl
empty_into (alt p q) (inr h) = or_right (nullable p) (nullable q) (empty_into q h)
empty_into (star p) h = refl

-- a text of the join is one of both in turn
join_from : (p q : Regex) (s : List ℕ) → Matches (join p q) s → Matches (seq p q) s
join_from nothing q s h = absurd h
join_from empty q s h = ([], s, refl, refl, h)
join_from (range lo hi) q s h = h
join_from (except cs) q s h = h
join_from (seq p r) q s h = h
join_from (alt p r) q s h = h
join_from (star p) q s h = h

-- a text of both in turn is one of the join
join_into : (p q : Regex) (s : List ℕ) → Matches (seq p q) s → Matches (join p q) s
join_into nothing q s (x, y, e, hx, hy) = hx
join_into empty q s (x, y, e, hx, hy) = subst (λ (z : List ℕ). Matches q z) (sym (e ∙ ap (λ (z : List ℕ). z ++ y) hx)) hy
join_into (range lo hi) q s h = h
join_into (except cs) q s h = h
join_into (seq p r) q s h = h
join_into (alt p r) q s h = h
join_into (star p) q s h = h

-- a text of the choice is one of either, where the first has a text
choice_right_from : (p q : Regex) (s : List ℕ) → Matches (choice_right p q) s → Matches p s ⊎ Matches q s
choice_right_from p nothing s h = inl h
choice_right_from p empty s h = h
choice_right_from p (range lo hi) s h = h
choice_right_from p (except cs) s h = h
choice_right_from p (seq q r) s h = h
choice_right_from p (alt q r) s h = h
choice_right_from p (star q) s h = h

-- a text of either is one of the choice, where the first has a text
choice_right_into : (p q : Regex) (s : List ℕ) → Matches p s ⊎ Matches q s → Matches (choice_right p q) s
choice_right_into p nothing s (inl h) = h
choice_right_into p nothing s (inr h) = absurd h
choice_right_into p empty s h = h
choice_right_into p (range lo hi) s h = h
choice_right_into p (except cs) s h = h
choice_right_into p (seq q r) s h = h
choice_right_into p (alt q r) s h = h
choice_right_into p (star q) s h = h

-- a text of the choice is one of either
choice_from : (p q : Regex) (s : List ℕ) → Matches (choice p q) s → Matches p s ⊎ Matches q s
choice_from nothing q s h = inr h
choice_from empty q s h = choice_right_from empty q s h
choice_from (range lo hi) q s h = choice_right_from (range lo hi) q s h
choice_from (except cs) q s h = choice_right_from (except cs) q s h
choice_from (seq p r) q s h = choice_right_from (seq p r) q s h
choice_from (alt p r) q s h = choice_right_from (alt p r) q s h
choice_from (star p) q s h = choice_right_from (star p) q s h

-- a text of either is one of the choice
choice_into : (p q : Regex) (s : List ℕ) → Matches p s ⊎ Matches q s → Matches (choice p q) s
choice_into nothing q s (inl h) = absurd h
choice_into nothing q s (inr h) = h
choice_into empty q s h = choice_right_into empty q s h
choice_into (range lo hi) q s h = choice_right_into (range lo hi) q s h
choice_into (except cs) q s h = choice_right_into (except cs) q s h
choice_into (seq p r) q s h = choice_right_into (seq p r) q s h
choice_into (alt p r) q s h = choice_right_into (alt p r) q s h
choice_into (star p) q s h = choice_right_into (star p) q s h

-- a text under a condition: the condition holds
when_from : (b : Bool) (r : Regex) (s : List ℕ) → Matches (cond b r nothing) s → (b ≡ true) × Matches r s
when_from true r s h = (refl, h)
when_from false r s h = absurd h

-- under a condition that holds
when_into : (b : Bool) (r : Regex) (s : List ℕ) → b ≡ true → Matches r s → Matches (cond b r nothing) s
when_into true r s e h = h
when_into false r s e h = cc

-- a text unless a condition: the condition fails
unless_from : (b : Bool) (r : Regex) (s : List ℕ) → Matches (cond b nothing r) s → (b ≡ false) × Matches r s
unless_from true r s h = absurd h
unless_from false r s h = (refl, h)

-- unless a condition that fails
unless_into : (b : Bool) (r : Regex) (s : List ℕ) → b ≡ false → Matches r s → Matches (cond b nothing r) s
unless_into true r s e h = cc
unless_into false r s e h = h

-- what follows c, with c before it, has the shape
pub after_from : (c : ℕ) (r : Regex) (s : List ℕ) → Matches (derivative c r) s → Matches r (c ∷ s)
after_from c nothing s h = absurd h
after_from c empty s h = absurd h
after_from c (range lo hi) s h =
    let w : (is_within lo hi c ≡ true) × (s ≡ []) = when_from (is_within lo hi c) empty s h in
    (c, ap (λ (z : List ℕ). c ∷ z) w.1, w.0)
after_from c (except cs) s h =
    let w : (is_one_of c cs ≡ false) × (s ≡ []) = unless_from (is_one_of c cs) empty s h in
    (c, ap (λ (z : List ℕ). c ∷ z) w.1, w.0)
after_from c (seq p q) s h =
    elim (choice_from (join (derivative c p) q) (cond (nullable p) (derivative c q) nothing) s h) [
      | inl l ↦ let (x, y, e, hx, hy) = join_from (derivative c p) q s l in
          (c ∷ x, y, ap (λ (z : List ℕ). c ∷ z) e, after_from c p x hx, hy)
      | inr r ↦ let w : (nullable p ≡ true) × Matches (derivative c q) s = when_from (nullable p) (derivative c q) s r in
          ([], c ∷ s, refl, empty_from p w.0, after_from c q s w.1)
    ]
after_from c (alt p q) s h =
    elim (choice_from (derivative c p) (derivative c q) s h) [ inl l ↦ inl (after_from c p s l) | inr r ↦ inr (after_from c q s r) ]
after_from c (star p) s h =
    let (x, y, e, hx, hy) = join_from (derivative c p) (star p) s h in
    ((c ∷ x) ∷ hy.0, ap (λ (z : List ℕ). c ∷ z) (e ∙ ap (λ (z : List ℕ). x ++ z) hy.1), (after_from c p x hx, hy.2))

-- where the prefix of two shapes ends
both_into : (c : ℕ) (p q : Regex) (s x y : List ℕ)
    → ((t : List ℕ) → Matches p (c ∷ t) → Matches (derivative c p) t) → ((t : List ℕ) → Matches q (c ∷ t) → Matches (derivative c q) t)
    → c ∷ s ≡ x ++ y → Matches p x → Matches q y → Matches (derivative c (seq p q)) s
both_into c p q s [] y ip iq e hp hq =
    choice_into (join (derivative c p) q) (cond (nullable p) (derivative c q) nothing) s
    (inr (when_into (nullable p) (derivative c q) s (empty_into p hp) (iq s (subst (λ (z : List ℕ). Matches q z) (sym e) hq))))
both_into c p q s (d ∷ x) y ip iq e hp hq =
    let same : d ≡ c = cc in
    let rest : s ≡ x ++ y = cc in
    choice_into (join (derivative c p) q) (cond (nullable p) (derivative c q) nothing) s
    (inl (join_into (derivative c p) q s (x, y, rest, ip x (subst (λ (z : ℕ). Matches p (z ∷ x)) same hp), hq)))

-- what follows the first scalar of many texts
many_into : (c : ℕ) (p : Regex) (s : List ℕ) (parts : List (List ℕ))
    → ((t : List ℕ) → Matches p (c ∷ t) → Matches (derivative c p) t)
    → c ∷ s ≡ joined parts → AllOf (Matches p) parts → Matches (derivative c (star p)) s
many_into c p s [] ip e h = cc
many_into c p s ([] ∷ parts) ip e h = many_into c p s parts ip e h.1
many_into c p s ((d ∷ x) ∷ parts) ip e h =
    let same : d ≡ c = cc in
    let rest : s ≡ x ++ joined parts = cc in
    join_into (derivative c p) (star p) s (x, joined parts, rest, ip x (subst (λ (z : ℕ). Matches p (z ∷ x)) same h.0), (parts, refl, h.1))

-- a text of the shape that begins with c goes on as what follows c
pub after_into : (c : ℕ) (r : Regex) (s : List ℕ) → Matches r (c ∷ s) → Matches (derivative c r) s
after_into c nothing s h = absurd h
after_into c empty s h = cc
after_into c (range lo hi) s (d, e, t) =
    let same : d ≡ c = cc in
    let rest : s ≡ [] = cc in
    when_into (is_within lo hi c) empty s (subst (λ (z : ℕ). is_within lo hi z ≡ true) same t) rest
after_into c (except cs) s (d, e, t) =
    let same : d ≡ c = cc in
    let rest : s ≡ [] = cc in
    unless_into (is_one_of c cs) empty s (subst (λ (z : ℕ). is_one_of z cs ≡ false) same t) rest
after_into c (seq p q) s (x, y, e, hp, hq) = both_into c p q s x y (after_into c p) (after_into c q) e hp hq
after_into c (alt p q) s (inl h) = choice_into (derivative c p) (derivative c q) s (inl (after_into c p s h))
after_into c (alt p q) s (inr h) = choice_into (derivative c p) (derivative c q) s (inr (after_into c q s h))
after_into c (star p) s (parts, e, h) = many_into c p s parts (after_into c p) e h

-- a text after which the shape may be empty has the shape
pub matches_from : (s : List ℕ) (r : Regex) → nullable (derivative_by s r) ≡ true → Matches r s
matches_from [] r e = empty_from r e
matches_from (c ∷ s) r e = after_from c r s (matches_from s (derivative c r) e)

-- after a text of the shape the shape may be empty
pub matches_into : (s : List ℕ) (r : Regex) → Matches r s → nullable (derivative_by s r) ≡ true
matches_into [] r h = empty_into r h
matches_into (c ∷ s) r h = matches_into s (derivative c r) (after_into c r s h)
