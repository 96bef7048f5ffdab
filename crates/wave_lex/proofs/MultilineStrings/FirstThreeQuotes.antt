-- A multiline token ends at the first later three quotes.
use Rattle.std.proofs.Common.{◌≡◌, ℕ, ◌≢◌, Bool, true, false, nat_eq, List, [], ◌∷◌, ◌++◌, ◌⊎◌, inl, inr, refl, sym, ap, subst, ◌∙◌, arith, append_assoc}
use Rattle.wave_wasm.specs.Lists.{AllOf}
use Rattle.std.specs.Prelude.{codes}
use Rattle.std.proofs.lemmas.Bool.{eqb-true}
use Rattle.std.proofs.lemmas.Bool.Decides.{nat_tests}
use Rattle.wave_lex.specs.Regex.{Regex, except, seq, Matches, joined, is_one_of, is_within}
use Rattle.wave_lex.specs.Tokens.{one, word, up_to, multiline_string}
use Rattle.wave_lex.specs.Tokenization.{three_quotes, HasNoThreeQuotes, ThroughFirstQuotes}
use Rattle.wave_lex.proofs.RegularShapes.Comparisons.{one_is}

-- ---- words

-- c lies from c to c
within_one : (c : ℕ) → is_within c c c ≡ true
within_one c = grind (arith, nat_tests)

-- a text has the shape of a word exactly where it is the word
word_into : (cs s : List ℕ) → Matches (word cs) s → s ≡ cs
word_into [] s h = h
word_into (c ∷ cs) s (x, y, e, (d, f, t), m) =
    let same : d ≡ c = one_is c d t in
    let rest : y ≡ cs = word_into cs y m in
    e ∙ (ap (λ (z : List ℕ). z ++ y) f ∙ (ap (λ (z : ℕ). z ∷ y) same ∙ ap (λ (z : List ℕ). c ∷ z) rest))

-- a word has the shape of the word
word_from : (cs : List ℕ) → Matches (word cs) cs
word_from [] = refl
word_from (c ∷ cs) = (c ∷ [], cs, refl, (c, refl, within_one c), word_from cs)

-- ---- parts of the inside

-- at most two quotes and then another scalar
abbrev part : Regex
part = seq (up_to 2 (one 34)) (except (34 ∷ []))

-- a scalar other than a quote, after at most two quotes
abbrev IsPart : List ℕ → Type 0
IsPart p = (c : ℕ) × (c ≢ 34) × ((p ≡ c ∷ []) ⊎ (p ≡ 34 ∷ c ∷ []) ⊎ (p ≡ 34 ∷ 34 ∷ c ∷ []))

-- what is none of the quotes is no quote
not_one : (c : ℕ) → is_one_of c (34 ∷ []) ≡ false → c ≢ 34
not_one c e f = let w : is_one_of 34 (34 ∷ []) ≡ false = subst (λ (z : ℕ). is_one_of z (34 ∷ []) ≡ false) f e in cc

-- what is no quote is none of the quotes
none_one : (c : ℕ) → c ≢ 34 → is_one_of c (34 ∷ []) ≡ false
none_one c n = grind (arith, nat_tests)

-- a text of the shape of a part is a part
part_into : (p : List ℕ) → Matches part p → IsPart p
part_into p (x, y, e, inl f, (c, g, t)) = (c, not_one c t, inl (e ∙ (ap (λ (z : List ℕ). z ++ y) f ∙ g)))
part_into p (x, y, e, inr (a, b, f, (d, h, u), inl k), (c, g, t)) =
    let same : d ≡ 34 = one_is 34 d u in
    let prefix : x ≡ 34 ∷ [] = f ∙ (ap (λ (z : List ℕ). z ++ b) h ∙ (ap (λ (z : List ℕ). d ∷ z) k ∙ ap (λ (z : ℕ). z ∷ []) same)) in
    (c, not_one c t, inr (inl (e ∙ (ap (λ (z : List ℕ). z ++ y) prefix ∙ ap (λ (z : List ℕ). 34 ∷ z) g))))
part_into p (x, y, e, inr (a, b, f, (d, h, u), inr (a2, b2, k, (d2, h2, u2), m)), (c, g, t)) =
    let same : d ≡ 34 = one_is 34 d u in
    let same2 : d2 ≡ 34 = one_is 34 d2 u2 in
    let second : b ≡ 34 ∷ [] = k ∙ (ap (λ (z : List ℕ). z ++ b2) h2 ∙ (ap (λ (z : List ℕ). d2 ∷ z) m ∙ ap (λ (z : ℕ). z ∷ []) same2)) in
    let prefix : x ≡ 34 ∷ 34 ∷ [] = f ∙ (ap (λ (z : List ℕ). z ++ b) h ∙ (ap (λ (z : List ℕ). d ∷ z) second ∙ ap (λ (z : ℕ). z ∷ 34 ∷ []) same)) in
    (c, not_one c t, inr (inr (e ∙ (ap (λ (z : List ℕ). z ++ y) prefix ∙ ap (λ (z : List ℕ). 34 ∷ 34 ∷ z) g))))

-- a part without quotes
part_zero : (c : ℕ) → c ≢ 34 → Matches part (c ∷ [])
part_zero c n = ([], c ∷ [], refl, inl refl, (c, refl, none_one c n))

-- a part with one quote
part_one : (c : ℕ) → c ≢ 34 → Matches part (34 ∷ c ∷ [])
part_one c n = (34 ∷ [], c ∷ [], refl, inr (34 ∷ [], [], refl, (34, refl, refl), inl refl), (c, refl, none_one c n))

-- a part with two quotes
part_two : (c : ℕ) → c ≢ 34 → Matches part (34 ∷ 34 ∷ c ∷ [])
part_two c n = (34 ∷ 34 ∷ [], c ∷ [], refl, inr (34 ∷ [], 34 ∷ [], refl, (34, refl, refl), inr (34 ∷ [], [], refl, (34, refl, refl), refl)), (c, refl, none_one c n))

-- ---- no three quotes

-- another scalar before it
none_behind : (c : ℕ) (s : List ℕ) → c ≢ 34 → HasNoThreeQuotes s → HasNoThreeQuotes (c ∷ s)
none_behind c s n h [] y e = let w : c ≡ 34 = cc in n w
none_behind c s n h (a ∷ x) y e = let w : s ≡ x ++ 34 ∷ 34 ∷ 34 ∷ y = cc in h x y w

-- one quote and another scalar before it
none_one_quote : (c : ℕ) (s : List ℕ) → c ≢ 34 → HasNoThreeQuotes s → HasNoThreeQuotes (34 ∷ c ∷ s)
none_one_quote c s n h [] y e = let w : c ≡ 34 = cc in n w
none_one_quote c s n h (a ∷ x) y e = let w : c ∷ s ≡ x ++ 34 ∷ 34 ∷ 34 ∷ y = cc in none_behind c s n h x y w

-- two quotes and another scalar before it
none_two_quotes : (c : ℕ) (s : List ℕ) → c ≢ 34 → HasNoThreeQuotes s → HasNoThreeQuotes (34 ∷ 34 ∷ c ∷ s)
none_two_quotes c s n h [] y e = let w : c ≡ 34 = cc in n w
none_two_quotes c s n h (a ∷ x) y e = let w : 34 ∷ c ∷ s ≡ x ++ 34 ∷ 34 ∷ 34 ∷ y = cc in none_one_quote c s n h x y w

-- two quotes are not three
none_two : HasNoThreeQuotes (34 ∷ 34 ∷ [])
none_two [] y e = cc
none_two (a ∷ []) y e = cc
none_two (a ∷ b ∷ []) y e = cc
none_two (a ∷ b ∷ d ∷ x) y e = cc

-- a part before it
none_part : (p s : List ℕ) → IsPart p → HasNoThreeQuotes s → HasNoThreeQuotes (p ++ s)
none_part p s (c, n, inl e) h = subst (λ (z : List ℕ). HasNoThreeQuotes (z ++ s)) (sym e) (none_behind c s n h)
none_part p s (c, n, inr (inl e)) h = subst (λ (z : List ℕ). HasNoThreeQuotes (z ++ s)) (sym e) (none_one_quote c s n h)
none_part p s (c, n, inr (inr e)) h = subst (λ (z : List ℕ). HasNoThreeQuotes (z ++ s)) (sym e) (none_two_quotes c s n h)

-- parts before two quotes
none_parts : (ps : List (List ℕ)) → AllOf (Matches part) ps → HasNoThreeQuotes (joined ps ++ 34 ∷ 34 ∷ [])
none_parts [] h = none_two
none_parts (p ∷ ps) h = subst HasNoThreeQuotes (sym (append_assoc p (joined ps) (34 ∷ 34 ∷ []))) (none_part p (joined ps ++ 34 ∷ 34 ∷ []) (part_into p h.0) (none_parts ps h.1))

-- a text without three quotes, also with two after it, is split into parts
abbrev Parts : List ℕ → Type 0
Parts s = (ps : List (List ℕ)) × (s ≡ joined ps) × AllOf (Matches part) ps

-- what stands after a scalar has no three quotes either
behind : (c : ℕ) (s : List ℕ) → HasNoThreeQuotes (c ∷ s) → HasNoThreeQuotes s
behind c s h x y e = h (c ∷ x) y (ap (λ (z : List ℕ). c ∷ z) e)

-- 34 or not
test : (c : ℕ) → (c ≡ 34) ⊎ (c ≢ 34)
test c = by_test (nat_eq c 34) refl
  where
    by_test : (t : Bool) → nat_eq c 34 ≡ t → (c ≡ 34) ⊎ (c ≢ 34)
    by_test true e = inl (eqb-true c 34 e)
    by_test false e = inr (λ f. let w : nat_eq 34 34 ≡ false = subst (λ (z : ℕ). nat_eq z 34 ≡ false) f e in cc)

-- one part more
more_parts : (p s : List ℕ) → Matches part p → Parts s → Parts (p ++ s)
more_parts p s m (ps, e, h) = (p ∷ ps, ap (λ (z : List ℕ). p ++ z) e, (m, h))

-- a text without three quotes, also with two after it, is split into parts
cut : (s : List ℕ) → HasNoThreeQuotes (s ++ 34 ∷ 34 ∷ []) → Parts s
cut [] h = ([], refl, tt)
cut (a ∷ []) h = elim (test a) [ inl e ↦ absurd (h [] [] (ap (λ (z : ℕ). z ∷ 34 ∷ 34 ∷ []) e)) | inr n ↦ more_parts (a ∷ []) [] (part_zero a n) ([], refl, tt) ]
cut (a ∷ b ∷ []) h = elim (test b) [
  | inl f ↦ absurd (h (a ∷ []) [] (ap (λ (z : ℕ). a ∷ z ∷ 34 ∷ 34 ∷ []) f))
  | inr m ↦ elim (test a) [
    | inl e ↦ subst (λ (z : ℕ). Parts (z ∷ b ∷ [])) (sym e) (more_parts (34 ∷ b ∷ []) [] (part_one b m) ([], refl, tt))
    | inr n ↦ more_parts (a ∷ []) (b ∷ []) (part_zero a n) (more_parts (b ∷ []) [] (part_zero b m) ([], refl, tt))
  ]
]
cut (a ∷ b ∷ d ∷ s) h =
    let one_less = cut (b ∷ d ∷ s) (behind a (b ∷ d ∷ (s ++ 34 ∷ 34 ∷ [])) h) in
    let two_less = cut (d ∷ s) (behind b (d ∷ (s ++ 34 ∷ 34 ∷ [])) (behind a (b ∷ d ∷ (s ++ 34 ∷ 34 ∷ [])) h)) in
    let three_less = cut s (behind d (s ++ 34 ∷ 34 ∷ []) (behind b (d ∷ (s ++ 34 ∷ 34 ∷ [])) (behind a (b ∷ d ∷ (s ++ 34 ∷ 34 ∷ [])) h))) in
    elim (test a) [
      | inr n ↦ more_parts (a ∷ []) (b ∷ d ∷ s) (part_zero a n) one_less
      | inl e ↦ subst (λ (z : ℕ). Parts (z ∷ b ∷ d ∷ s)) (sym e) (elim (test b) [
        | inr m ↦ more_parts (34 ∷ b ∷ []) (d ∷ s) (part_one b m) two_less
        | inl f ↦ subst (λ (z : ℕ). Parts (34 ∷ z ∷ d ∷ s)) (sym f) (elim (test d) [
          | inr o ↦ more_parts (34 ∷ 34 ∷ d ∷ []) s (part_two d o) three_less
          | inl g ↦ absurd (h [] (s ++ 34 ∷ 34 ∷ []) (ap (λ (z : ℕ). z ∷ b ∷ d ∷ (s ++ 34 ∷ 34 ∷ [])) e
              ∙ (ap (λ (z : ℕ). 34 ∷ z ∷ d ∷ (s ++ 34 ∷ 34 ∷ [])) f ∙ ap (λ (z : ℕ). 34 ∷ 34 ∷ z ∷ (s ++ 34 ∷ 34 ∷ [])) g)))
        ])
      ])
    ]

-- ---- the law

-- a multiline token ends at the first later three quotes
pub through_into : (s : List ℕ) → Matches multiline_string s → (inside : List ℕ) × (s ≡ three_quotes ++ (inside ++ three_quotes)) × HasNoThreeQuotes (inside ++ codes "\"\"")
through_into s (x, y, e, prefix, (u, v, f, (ps, g, each), back)) =
    let first : x ≡ three_quotes = word_into three_quotes x prefix in
    let last : v ≡ three_quotes = word_into three_quotes v back in (
      u,
      e ∙ (ap (λ (z : List ℕ). z ++ y) first ∙ ap (λ (z : List ℕ). three_quotes ++ z) (f ∙ ap (λ (z : List ℕ). u ++ z) last)),
      subst (λ (z : List ℕ). HasNoThreeQuotes (z ++ codes "\"\"")) (sym g) (none_parts ps each),
    )

-- what ends at the first later three quotes is a multiline token
pub through_from : (s : List ℕ) → (inside : List ℕ) × (s ≡ three_quotes ++ (inside ++ three_quotes)) × HasNoThreeQuotes (inside ++ codes "\"\"") → Matches multiline_string s
through_from s (inside, e, h) = (three_quotes, inside ++ three_quotes, e, word_from three_quotes, (inside, three_quotes, refl, cut inside h, word_from three_quotes))

-- the law
pub through_first_quotes : ThroughFirstQuotes
through_first_quotes s = (through_into s, through_from s)
