-- The longest prefix of a text whose first bytes are read without a machine.
use Rattle.std.proofs.Common.{◌≡◌, ℕ, ◌≤◌, ◌<◌, ◌+◌, ◌-◌, true, false, zero, suc, List, [], ◌∷◌, ◌++◌, inl, inr, refl, sym, ap, subst, ◌∙◌, length, take, drop, arith, get_or, Some, None, length-append, length-drop, length-take-le, append_assoc}
use Rattle.std.specs.Prelude.{nat_lt, encode_utf8, encode_utf8_all}
use Rattle.std.specs.Str.{IsUtf8, IsCharBoundary}
use Rattle.std.proofs.lemmas.Bool.{cases_lt}
use Rattle.std.proofs.lemmas.Bool.Decides.{nat_tests}
use Rattle.std.proofs.lemmas.List.{append_cancel_left, append-nil, take-append-drop}
use Rattle.std.proofs.Math.Seq.{drop-append_seam, take-append-add, take-append_seam}
use Rattle.std.proofs.lemmas.Str.{encodes-append, encode_ascii, IsCharBoundary-end, IsCharBoundary-before_ascii}
use Rattle.wave_lex.specs.Tokens.{any}
use Rattle.wave_lex.specs.Regex.{star, Regex, nothing, empty, Matches}
use Rattle.wave_lex.specs.Derive.{nullable, derivative, derivative_by}
use Rattle.wave_lex.specs.LongestMatch.{Greatest, IsPrefixOf}
use Rattle.wave_lex.specs.Private.Reading.{LeadsTo}
use Rattle.wave_lex.proofs.RegularShapes.Derivatives.{matches_from, matches_into, empty_from}
use Rattle.wave_lex.proofs.LongestPrefix.MachineWalks.{prefix_boundary, after_all_append, after_all_nothing, begins}
use Rattle.wave_lex.proofs.LongestPrefix.ByComputing.{is_ascii, ascii_spelled}

-- one part and the next
pub take_plus : (s : List ℕ) (p k : ℕ) → p ≤ length s → take (p + k) s ≡ take p s ++ take k (drop p s)
take_plus s p k h =
    let l : length (take p s) ≡ p = length-take-le p s h in
    ap (λ (z : ℕ). take (z + k) s) (sym l) ∙ (ap (λ (z : List ℕ). take (length (take p s) + k) z) (sym (take-append-drop p s)) ∙ take-append-add (take p s) (drop p s) k)

-- what leads on from where something leads
pub leads_on : (r q w : Regex) (s t : List ℕ) (p k : ℕ) → t ≡ drop p s → LeadsTo r q s p → LeadsTo q w t k → LeadsTo r w s (p + k)
leads_on r q w s t p k e h f =
    let long : length t ≡ length (drop p s) = ap length e in
    let fits : p ≤ length s = h.fits in
    let inside : k ≤ length t = f.fits in
    record {
      scalars = h.scalars ++ f.scalars;
      fits = omega (arith, length-drop p s);
      spelled = encodes-append h.scalars f.scalars ∙ (ap (λ (z : List ℕ). z ++ encode_utf8_all f.scalars) h.spelled
          ∙ (ap (λ (z : List ℕ). take p s ++ z) (f.spelled ∙ ap (λ (z : List ℕ). take k z) e) ∙ sym (take_plus s p k fits)));
      has = after_all_append h.scalars f.scalars r ∙ (ap (λ (z : Regex). derivative_by f.scalars z) h.has ∙ f.has);
    }

-- a prefix of the rest, with what was read, is a prefix
prefix_joined : (r q : Regex) (s t : List ℕ) (p k : ℕ) → t ≡ drop p s → LeadsTo r q s p → IsPrefixOf q t k → IsPrefixOf r s (p + k)
prefix_joined r q s t p k e h f =
    let on = leads_on r q (derivative_by f.scalars q) s t p k e h (record { scalars = f.scalars; fits = f.fits; spelled = f.spelled; has = refl }) in
    record { scalars = on.scalars; fits = on.fits; spelled = on.spelled; has = matches_from on.scalars r (ap nullable on.has ∙ matches_into f.scalars q f.has) }

-- a longer prefix is a prefix of the rest
prefix_left : (r q : Regex) (s t : List ℕ) (p k : ℕ) → t ≡ drop p s → LeadsTo r q s p → IsPrefixOf r s (p + k) → IsPrefixOf q t k
prefix_left r q s t p k e h f =
    let long : length t ≡ length (drop p s) = ap length e in
    let fits : p ≤ length s = h.fits in
    let inside : p + k ≤ length s = f.fits in
    let parts : encode_utf8_all f.scalars ≡ encode_utf8_all h.scalars ++ take k (drop p s) =
    f.spelled ∙ (take_plus s p k fits ∙ ap (λ (z : List ℕ). z ++ take k (drop p s)) (sym h.spelled)) in
    let b : (length h.scalars ≤ length f.scalars) × (h.scalars ≡ take (length h.scalars) f.scalars) = begins h.scalars f.scalars (take k (drop p s)) parts in
    let more : List ℕ = drop (length h.scalars) f.scalars in
    let whole : f.scalars ≡ h.scalars ++ drop (length h.scalars) f.scalars =
    sym (take-append-drop (length h.scalars) f.scalars) ∙ ap (λ (z : List ℕ). z ++ drop (length h.scalars) f.scalars) (sym b.1) in
    let there : encode_utf8_all h.scalars ++ encode_utf8_all (drop (length h.scalars) f.scalars) ≡ encode_utf8_all h.scalars ++ take k (drop p s) =
    sym (ap encode_utf8_all whole ∙ encodes-append h.scalars (drop (length h.scalars) f.scalars)) ∙ parts in
    record {
      scalars = drop (length h.scalars) f.scalars;
      fits = omega (arith, length-drop p s);
      spelled = append_cancel_left (encode_utf8_all h.scalars) _ _ there ∙ ap (λ (z : List ℕ). take k z) (sym e);
      has = matches_from (drop (length h.scalars) f.scalars) q
          (ap nullable (sym (ap (λ (z : List ℕ). derivative_by z r) whole ∙ (after_all_append h.scalars (drop (length h.scalars) f.scalars) r ∙ ap (λ (z : Regex). derivative_by (drop (length h.scalars) f.scalars) z) h.has)))
          ∙ matches_into f.scalars r f.has);
    }

-- the longest prefix of the rest, with what was read, is the longest
pub prefix_behind : (r q : Regex) (s t : List ℕ) (p k : ℕ) → t ≡ drop p s → LeadsTo r q s p → Greatest (IsPrefixOf q t) (Some k) → Greatest (IsPrefixOf r s) (Some (p + k))
prefix_behind r q s t p k e h g = (
  prefix_joined r q s t p k e h g.0,
  λ j (f : IsPrefixOf r s j). elim (cases_lt p j) as (λ _. j ≤ p + k) [
    | inr l ↦ omega arith
    | inl l ↦ let same : j ≡ p + (j - p) = omega arith in
        let less : j - p ≤ k = g.1 (j - p) (prefix_left r q s t p (j - p) e h (subst (λ (z : ℕ). IsPrefixOf r s z) same f)) in
        omega arith
  ],
)

-- the shape of no scalar has the prefix of no byte alone
pub empty_prefix : (t : List ℕ) → Greatest (IsPrefixOf empty t) (Some 0)
empty_prefix t = (
  record { scalars = []; fits = omega arith; spelled = refl; has = refl },
  λ j f.
      let fits : j ≤ length t = f.fits in
      let none : encode_utf8_all f.scalars ≡ [] = ap encode_utf8_all f.has in
      let long : length (take j t) ≡ 0 = ap length (sym f.spelled ∙ none) in
      omega (arith, length-take-le j t fits),
)

-- a scalar, with the longest prefix of what stands behind it
pub scalar_behind : (r q : Regex) (s t : List ℕ) (c k : ℕ) → s ≡ encode_utf8 c ++ t → derivative c r ≡ q → Greatest (IsPrefixOf q t) (Some k) → Greatest (IsPrefixOf r s) (Some (length (encode_utf8 c) + k))
scalar_behind r q s t c k e h g =
    let long : length s ≡ length (encode_utf8 c) + length t = ap length e ∙ length-append (encode_utf8 c) t in
    prefix_behind r q s t (length (encode_utf8 c)) k (sym (ap (drop (length (encode_utf8 c))) e ∙ drop-append_seam (encode_utf8 c) t))
    (record { scalars = c ∷ []; fits = omega arith; spelled = append-nil (encode_utf8 c) ∙ sym (ap (take (length (encode_utf8 c))) e ∙ take-append_seam (encode_utf8 c) t); has = h })
    g

-- what leads to q passes no prefix of r
abbrev pub PassesNone : Regex → Regex → Type 0
PassesNone r q = (x y : List ℕ) → nullable (derivative_by x r) ≡ true → derivative_by (x ++ y) r ≡ q → ⊥

-- where the rest has no prefix, nothing has
pub none_behind : (r q : Regex) (s t : List ℕ) (p : ℕ) → t ≡ drop p s → LeadsTo r q s p → PassesNone r q → Greatest (IsPrefixOf q t) None → Greatest (IsPrefixOf r s) None
none_behind r q s t p e h quiet g = λ j (f : IsPrefixOf r s j). elim (cases_lt p j) as (λ _. ⊥) [
  | inl l ↦ let same : j ≡ p + (j - p) = omega arith in
      g (j - p) (prefix_left r q s t p (j - p) e h (subst (λ (z : ℕ). IsPrefixOf r s z) same f))
  | inr l ↦ let fits : p ≤ length s = h.fits in
      let same : p ≡ j + (p - j) = omega arith in
      let inside : j ≤ length s = omega arith in
      let parts : encode_utf8_all h.scalars ≡ encode_utf8_all f.scalars ++ take (p - j) (drop j s) =
      h.spelled ∙ (ap (λ (z : ℕ). take z s) same ∙ (take_plus s j (p - j) inside ∙ ap (λ (z : List ℕ). z ++ take (p - j) (drop j s)) (sym f.spelled))) in
      let b : (length f.scalars ≤ length h.scalars) × (f.scalars ≡ take (length f.scalars) h.scalars) = begins f.scalars h.scalars (take (p - j) (drop j s)) parts in
      let whole : f.scalars ++ drop (length f.scalars) h.scalars ≡ h.scalars =
      ap (λ (z : List ℕ). z ++ drop (length f.scalars) h.scalars) b.1 ∙ take-append-drop (length f.scalars) h.scalars in
      quiet f.scalars (drop (length f.scalars) h.scalars) (matches_into f.scalars r f.has) (ap (λ (z : List ℕ). derivative_by z r) whole ∙ h.has)
]

-- where the shape may be empty there is a prefix
pub prefix_there : (q : Regex) (t : List ℕ) → nullable q ≡ true → Greatest (IsPrefixOf q t) None → ⊥
prefix_there q t e h = h 0 (record { scalars = []; fits = omega arith; spelled = refl; has = empty_from q e })

-- bytes of ASCII are ASCII
run_ascii : (s : List ℕ) (n : ℕ) → n ≤ length s → ((i : ℕ) → i < n → get_or s i 0 < 128) → is_ascii (take n s) ≡ true
run_ascii s zero l h = refl
run_ascii [] (suc n) l h = refl
run_ascii (b ∷ s) (suc n) l h =
    let first : b < 128 = h 0 (omega arith) in
    let more : is_ascii (take n s) ≡ true = run_ascii s n (omega arith) (λ i k. h (suc i) (omega arith)) in
    let small : nat_lt b 128 ≡ true = grind (arith, nat_tests) in
    rw (small, more) refl

-- bytes that leave the shape as it is
pub run_stays : (q : Regex) (s : List ℕ) (n : ℕ) → n ≤ length s → ((i : ℕ) → i < n → derivative (get_or s i 0) q ≡ q) → derivative_by (take n s) q ≡ q
run_stays q s zero l h = refl
run_stays q [] (suc n) l h = refl
run_stays q (b ∷ s) (suc n) l h =
    ap (λ (z : Regex). derivative_by (take n s) z) (h 0 (omega arith)) ∙ run_stays q s n (omega arith) (λ i k. h (suc i) (omega arith))

-- a byte that leads to a shape, and bytes that leave it as it is
run_from : (r q : Regex) (s : List ℕ) (n : ℕ) → 0 < n → n ≤ length s → derivative (get_or s 0 0) r ≡ q → ((i : ℕ) → i < n → derivative (get_or s i 0) q ≡ q) → derivative_by (take n s) r ≡ q
run_from r q s zero p l f h = let w : ⊥ = omega arith in absurd w
run_from r q [] (suc n) p l f h = let w : ⊥ = omega arith in absurd w
run_from r q (b ∷ s) (suc n) p l f h =
    ap (λ (z : Regex). derivative_by (take n s) z) f ∙ run_stays q s n (omega arith) (λ i k. h (suc i) (omega arith))

-- bytes of ASCII that lead to a shape
pub ascii_leads : (r q : Regex) (s : List ℕ) (n : ℕ) → n ≤ length s → ((i : ℕ) → i < n → get_or s i 0 < 128) → derivative_by (take n s) r ≡ q → LeadsTo r q s n
ascii_leads r q s n l a e = record { scalars = take n s; fits = l; spelled = ascii_spelled (take n s) (run_ascii s n l a); has = e }

-- a first byte and a run of ASCII
pub run_leads : (r q : Regex) (s : List ℕ) (n : ℕ) → 0 < n → n ≤ length s → ((i : ℕ) → i < n → get_or s i 0 < 128) → derivative (get_or s 0 0) r ≡ q
    → ((i : ℕ) → i < n → derivative (get_or s i 0) q ≡ q) → LeadsTo r q s n
run_leads r q s n p l a f h = ascii_leads r q s n l a (run_from r q s n p l f h)

-- a byte of ASCII leads from one shape to another
first_leads : (r q : Regex) (m : ℕ) (s : List ℕ) → m < 128 → derivative m r ≡ q → 0 < length s → get_or s 0 0 ≡ m → LeadsTo r q s 1
first_leads r q m [] a h l e = let w : ⊥ = omega arith in absurd w
first_leads r q m (b ∷ s) a h l e = ascii_leads r q (b ∷ s) 1 (omega arith) (λ i k. first i k) (ap (λ (z : ℕ). derivative z r) e ∙ h)
  where
    first : (i : ℕ) → i < 1 → get_or (b ∷ s) i 0 < 128
    first zero k = omega arith
    first (suc i) k = let w : ⊥ = omega arith in absurd w

-- the same, of what the code takes as the bytes
pub first_byte : (r q : Regex) (m : ℕ) (s b : List ℕ) → b ≡ s → m < 128 → derivative m r ≡ q → 0 < length b → get_or b 0 0 ≡ m → LeadsTo r q s 1
first_byte r q m s b e a h l f = subst (λ (z : List ℕ). LeadsTo r q z 1) e (first_leads r q m b a h l f)

-- a text may be split at its end and before ASCII
pub cut_here : (s : List ℕ) (n : ℕ) → n ≤ length s → (n < length s → get_or s n 0 < 128) → IsCharBoundary s n
cut_here s n l h = elim (cases_lt n (length s)) as (λ _. IsCharBoundary s n) [
  | inl k ↦ IsCharBoundary-before_ascii s n k (h k)
  | inr k ↦ let same : n ≡ length s = omega arith in subst (λ (z : ℕ). IsCharBoundary s z) (sym same) (IsCharBoundary-end s)
]

-- any text has the shape of any scalars
any_text : (cs : List ℕ) → nullable (derivative_by cs (star any)) ≡ true
any_text [] = refl
any_text (c ∷ cs) = any_text cs

-- a text may be split after what leads to a shape
pub lead_boundary : (r q : Regex) (s : List ℕ) (k : ℕ) → IsUtf8 s → LeadsTo r q s k → IsCharBoundary s k
lead_boundary r q s k u h = prefix_boundary (star any) s k u (record { scalars = h.scalars; fits = h.fits; spelled = h.spelled; has = matches_from h.scalars (star any) (any_text h.scalars) })

-- a prefix of which no scalar may be the first is empty
no_more : (q : Regex) (t : List ℕ) (j : ℕ) (cs : List ℕ) → j ≤ length t → encode_utf8_all cs ≡ take j t → Matches q cs → ((c : ℕ) (rest : List ℕ) → t ≡ encode_utf8 c ++ rest → derivative c q ≡ nothing) → j ≤ 0
no_more q t j [] l e m h = let long : length (take j t) ≡ 0 = ap length (sym e) in omega (arith, length-take-le j t l)
no_more q t j (c ∷ cs) l e m h =
    let whole : t ≡ encode_utf8 c ++ (encode_utf8_all cs ++ drop j t) =
    sym (take-append-drop j t) ∙ (ap (λ (z : List ℕ). z ++ drop j t) (sym e) ∙ append_assoc (encode_utf8 c) (encode_utf8_all cs) (drop j t)) in
    let dead : derivative_by cs (derivative c q) ≡ nothing = ap (λ (z : Regex). derivative_by cs z) (h c (encode_utf8_all cs ++ drop j t) whole) ∙ after_all_nothing cs in
    let wrong : false ≡ true = sym (ap nullable dead) ∙ matches_into (c ∷ cs) q m in cc

-- where no scalar may follow, the longest prefix is empty
prefix_ends : (q : Regex) (t : List ℕ) → nullable q ≡ true → ((c : ℕ) (rest : List ℕ) → t ≡ encode_utf8 c ++ rest → derivative c q ≡ nothing) → Greatest (IsPrefixOf q t) (Some 0)
prefix_ends q t e h = (record { scalars = []; fits = omega arith; spelled = refl; has = empty_from q e }, λ j f. no_more q t j f.scalars f.fits f.spelled f.has h)

-- the first of the rest
drop_first : (s : List ℕ) (n c : ℕ) (rest : List ℕ) → drop n s ≡ c ∷ rest → (n < length s) × (get_or s n 0 ≡ c)
drop_first [] zero c rest e = cc
drop_first [] (suc n) c rest e = cc
drop_first (b ∷ s) zero c rest e = let same : b ≡ c = cc in (omega arith, same)
drop_first (b ∷ s) (suc n) c rest e = let h = drop_first s n c rest e in
    let l : n < length s = h.0 in (omega arith, h.1)

-- the longest prefix ends with a run, where the next byte may not follow
pub run_ends : (r q : Regex) (s : List ℕ) (n : ℕ) → LeadsTo r q s n → nullable q ≡ true → ((c : ℕ) → 128 ≤ c → derivative c q ≡ nothing) → (n < length s → derivative (get_or s n 0) q ≡ nothing) → Greatest (IsPrefixOf r s) (Some n)
run_ends r q s n h e past dead =
    let same : n + 0 ≡ n = omega arith in
    let P : ℕ → Type 0 = λ z. Greatest (IsPrefixOf r s) (Some z) in
    subst P same (prefix_behind r q s (drop n s) n 0 refl h (prefix_ends q (drop n s) e (λ c rest w. elim (cases_lt c 128) as (λ _. derivative c q ≡ nothing) [
      | inr l ↦ past c (omega arith)
      | inl l ↦ let first = drop_first s n c rest (w ∙ ap (λ (z : List ℕ). z ++ rest) (encode_ascii c l)) in
          ap (λ (z : ℕ). derivative z q) (sym first.1) ∙ dead first.0
    ])))
