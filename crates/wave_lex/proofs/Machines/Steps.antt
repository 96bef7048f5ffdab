-- What may follow a scalar or a text in a shape, by computing at each scalar up to 128.
use Rattle.std.proofs.Common.{◌≡◌, ℕ, ◌≤◌, ◌<◌, Bool, true, false, List, [], ◌∷◌, sym, ap, subst, ◌∙◌, arith, inl, inr}
use Rattle.std.specs.Prelude.{◌&&◌, ◌||◌, not}
use Rattle.std.proofs.lemmas.Bool.{cases_lt, or_cases, and_parts}
use Rattle.wave_lex.specs.Regex.{Regex}
use Rattle.wave_lex.specs.Derive.{derivative, derivative_by}
use Rattle.wave_lex.proofs.LongestPrefix.ByComputing.{or_not}
use Rattle.wave_lex.proofs.RegularShapes.Comparisons.{same, same_true, each_below, each_below_at, is_ascii_shape, after_past}

-- where the scalar passes the test q may follow it in r
abbrev pub leads_by : (ℕ → Bool) → Regex → Regex → ℕ → Bool
leads_by p r q c = same (derivative c r) q || not (p c)

-- the same at a scalar up to 128
follows_at : (p : ℕ → Bool) (r q : Regex) → each_below 129 (leads_by p r q) ≡ true → (c : ℕ) → c < 129 → p c ≡ true → derivative c r ≡ q
follows_at p r q computed c l e = same_true _ _ (or_not (same (derivative c r) q) (p c) (each_below_at 129 c (leads_by p r q) computed l) e)

-- where it does so up to 128, it does so at each scalar, where neither the shape nor the test tells scalars past ASCII apart
pub follows : (p : ℕ → Bool) (r q : Regex) → each_below 129 (leads_by p r q) ≡ true → is_ascii_shape r ≡ true → ((c : ℕ) → 128 ≤ c → p c ≡ p 128) → (c : ℕ) → p c ≡ true → derivative c r ≡ q
follows p r q computed ascii past c e =
    elim (cases_lt c 129) as (λ _. derivative c r ≡ q) [
      | inl l ↦ follows_at p r q computed c l e
      | inr l ↦ let m : 128 ≤ c = omega arith in
          let n : 128 ≤ 128 = omega arith in
          let o : 128 < 129 = omega arith in
          after_past r c 128 ascii m n ∙ follows_at p r q computed 128 o (sym (past c m) ∙ e)
    ]

-- ---- shapes that lead to each other alone

-- the shape is one of these
abbrev pub is_in : Regex → List Regex → Bool
is_in r [] = false
is_in r (q ∷ qs) = same r q || is_in r qs

-- each of the shapes passes the test
abbrev pub each_in : (Regex → Bool) → List Regex → Bool
each_in p [] = true
each_in p (q ∷ qs) = p q && each_in p qs

-- each of the shapes passes a test that they all pass
pub passed_in : (p : Regex → Bool) (qs : List Regex) (r : Regex) → each_in p qs ≡ true → is_in r qs ≡ true → p r ≡ true
passed_in p [] r e i = cc
passed_in p (q ∷ qs) r e i =
    let h : (p q ≡ true) × (each_in p qs ≡ true) = and_parts _ _ e in
    elim (or_cases (same r q) (is_in r qs) i) as (λ _. p r ≡ true) [
      | inl f ↦ subst (λ (z : Regex). p z ≡ true) (sym (same_true r q f)) h.0
      | inr f ↦ passed_in p qs r h.1 f
    ]

-- each scalar up to 128 leads from the shape to one of these
abbrev pub leads_into : List Regex → Regex → Bool
leads_into qs r = each_below 129 (λ c. is_in (derivative c r) qs) && is_ascii_shape r

-- each scalar leads from each of the shapes to one of them
abbrev pub is_closed : List Regex → Bool
is_closed qs = each_in (leads_into qs) qs

-- so does each scalar at all
one_leads : (qs : List Regex) (r : Regex) (c : ℕ) → leads_into qs r ≡ true → is_in (derivative c r) qs ≡ true
one_leads qs r c e =
    let h : (each_below 129 (λ c. is_in (derivative c r) qs) ≡ true) × (is_ascii_shape r ≡ true) = and_parts _ _ e in
    elim (cases_lt c 129) as (λ _. is_in (derivative c r) qs ≡ true) [
      | inl l ↦ each_below_at 129 c (λ c. is_in (derivative c r) qs) h.0 l
      | inr l ↦ let m : 128 ≤ c = omega arith in
          let n : 128 ≤ 128 = omega arith in
          let o : 128 < 129 = omega arith in
          ap (λ (z : Regex). is_in z qs) (after_past r c 128 h.1 m n) ∙ each_below_at 129 128 (λ c. is_in (derivative c r) qs) h.0 o
    ]

-- a text leads from one of such shapes to one of them
pub text_leads : (qs : List Regex) → is_closed qs ≡ true → (cs : List ℕ) (r : Regex) → is_in r qs ≡ true → is_in (derivative_by cs r) qs ≡ true
text_leads qs closed [] r i = i
text_leads qs closed (c ∷ cs) r i = text_leads qs closed cs (derivative c r) (one_leads qs r c (passed_in (leads_into qs) qs r closed i))
