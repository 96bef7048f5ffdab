-- Where an escape stands at the start of a text.
use Rattle.std.proofs.Common.{◌≡◌, ℕ, ◌≤◌, ◌<◌, ◌+◌, ◌*◌, ◌^◌, zero, suc, List, [], ◌∷◌, ◌++◌, inl, inr, refl, sym, ap, subst, ◌∙◌, length, take, drop, arith, Some, None, get_or, append_assoc, length-append, length-take-le, length-drop, ◌-◌, min, take-take, get_or-take}
use Rattle.std.specs.Char.{IsScalar, digit_value}
use Rattle.std.specs.Str.Parse.{AllDigits, digits_value}
use Rattle.std.proofs.lemmas.Bool.{cases_lt}
use Rattle.std.proofs.lemmas.Int.Digits.{digits_value-lt, digits_value_more}
use Rattle.std.proofs.Math.Dec.{lit≤}
use Rattle.std.proofs.Math.Seq.{take-length}
use Rattle.wave_lex.specs.Strings.{short_escape, IsEscape, UnescapesTo}
use Rattle.wave_lex.specs.Private.Lines.{IsNumberAt}

-- n digits are right: one to six, closed by `}`, the number of a scalar
pub record HasDistinctLabels (d : List ℕ) (n : ℕ) : Type 0 where
  pub some : 1 ≤ n
  pub few : n ≤ 6
  pub within : n < length d
  pub closed : get_or d n 0 ≡ 125
  pub scalar : IsScalar (digits_value 16 (take n d))

-- n hexadecimal digits stand at the start of d, and no more
pub record Counts (d : List ℕ) (n : ℕ) : Type 0 where
  pub digits : (i : ℕ) → i < n → digit_value (get_or d i 0) < 16
  pub stops : n < length d → 16 ≤ digit_value (get_or d n 0)

-- the digits of an escape are all the digits at the start
counted : (ds t : List ℕ) (n : ℕ) → AllDigits 16 ds → Counts (ds ++ 125 ∷ t) n
    → (n ≡ length ds) × (get_or (ds ++ 125 ∷ t) n 0 ≡ 125) × (take n (ds ++ 125 ∷ t) ≡ ds) × (n < length (ds ++ 125 ∷ t))
counted [] t zero a h = (refl, refl, refl, omega arith)
counted [] t (suc n) a h =
    let one : 0 < suc n = omega arith in
    let wrong : 36 < 16 = h.digits 0 one in
    let w : ⊥ = omega arith in absurd w
counted (d ∷ ds) t zero a h =
    let one : 0 < length (d ∷ (ds ++ 125 ∷ t)) = omega arith in
    let p : 16 ≤ digit_value d = h.stops one in
    let q : digit_value d < 16 = a.0 in
    let w : ⊥ = omega arith in absurd w
counted (d ∷ ds) t (suc n) a h =
    let r = counted ds t n a.1 (record {
      digits = λ i l. let m : suc i < suc n = omega arith in h.digits (suc i) m;
      stops = λ l. let m : suc n < length (d ∷ (ds ++ 125 ∷ t)) = omega arith in h.stops m;
    }) in
    let e : n ≡ length ds = r.0 in
    let f : n < length (ds ++ 125 ∷ t) = r.3 in
    (omega arith, r.1, ap (λ (z : List ℕ). d ∷ z) r.2, omega arith)

-- where the digits are not right, no escape stands
wrong : (s d e t : List ℕ) (n c : ℕ) → s ≡ 92 ∷ 117 ∷ 123 ∷ d → Counts d n → (HasDistinctLabels d n → ⊥) → IsEscape e c → s ≡ e ++ t → ⊥
wrong s d e t n c w h bad (inl a) q =
    let r : 92 ∷ 117 ∷ 123 ∷ d ≡ 92 ∷ a.0 ∷ t = sym w ∙ (q ∙ ap (λ (z : List ℕ). z ++ t) a.1) in
    let b : a.0 ≡ 117 = cc in
    let no_such : None ≡ Some c = ap short_escape (sym b) ∙ a.2 in cc
wrong s d e t n c w h bad (inr a) q =
    let r : 92 ∷ 117 ∷ 123 ∷ d ≡ 92 ∷ 117 ∷ 123 ∷ ((a.digits ++ 125 ∷ []) ++ t) = sym w ∙ (q ∙ ap (λ (z : List ℕ). z ++ t) a.spelled) in
    let r2 : d ≡ (a.digits ++ 125 ∷ []) ++ t = cc in
    let r3 : d ≡ a.digits ++ (125 ∷ t) = r2 ∙ append_assoc a.digits (125 ∷ []) t in
    let k = counted a.digits t n a.hexadecimal (subst (λ (z : List ℕ). Counts z n) r3 h) in
    let long : n ≡ length a.digits = k.0 in
    let least : 1 ≤ length a.digits = a.some in
    let most : length a.digits ≤ 6 = a.few in
    let P : List ℕ → Type 0 = λ z. HasDistinctLabels z n in
    bad (subst P (sym r3) (record {
      some = omega arith;
      few = omega arith;
      within = k.3;
      closed = k.1;
      scalar = subst (λ (z : ℕ). IsScalar z) (a.value ∙ ap (λ (z : List ℕ). digits_value 16 z) (sym k.2)) a.scalar;
    }))

-- where the digits are not right, there is no escape
pub none_long : (s d : List ℕ) (n : ℕ) → s ≡ 92 ∷ 117 ∷ 123 ∷ d → Counts d n → (HasDistinctLabels d n → ⊥) → UnescapesTo s None
none_long s d n w h bad = λ e t c esc q. wrong s d e t n c w h bad esc q

-- the digits counted are digits
pub all_digits : (d : List ℕ) (n : ℕ) → n ≤ length d → ((i : ℕ) → i < n → digit_value (get_or d i 0) < 16) → AllDigits 16 (take n d)
all_digits d zero l h = tt
all_digits [] (suc n) l h = tt
all_digits (b ∷ d) (suc n) l h =
    let first : 0 < suc n = omega arith in
    (h 0 first, all_digits d n (omega arith) (λ i k. let m : suc i < suc n = omega arith in h (suc i) m))

-- a text before the n-th byte and after it
split_at : (d : List ℕ) (n : ℕ) → n < length d → d ≡ take n d ++ (get_or d n 0 ∷ drop (suc n) d)
split_at [] n l = let w : ⊥ = omega arith in absurd w
split_at (b ∷ d) zero l = refl
split_at (b ∷ d) (suc n) l = ap (λ (z : List ℕ). b ∷ z) (split_at d n (omega arith))

-- the digits and the `}` behind them are the prefix
pub closed_at : (d : List ℕ) (n : ℕ) → n < length d → get_or d n 0 ≡ 125 → d ≡ (take n d ++ 125 ∷ []) ++ drop (suc n) d
closed_at d n l e = split_at d n l ∙ (ap (λ (z : ℕ). take n d ++ (z ∷ drop (suc n) d)) e ∙ sym (append_assoc (take n d) (125 ∷ []) (drop (suc n) d)))

-- where the digits are right, the escape is theirs
pub some_long : (s d : List ℕ) (n c : ℕ) → s ≡ 92 ∷ 117 ∷ 123 ∷ d → Counts d n → HasDistinctLabels d n → c ≡ digits_value 16 (take n d) → UnescapesTo s (Some (c, n + 4))
some_long s d n c w h g v =
    let within : n < length d = g.within in
    let cut : length (take n d) ≡ n = length-take-le n d (omega arith) in
    let least : 1 ≤ n = g.some in
    let most : n ≤ 6 = g.few in
    let e : List ℕ = 92 ∷ 117 ∷ 123 ∷ (take n d ++ 125 ∷ []) in
    let whole : d ≡ (take n d ++ 125 ∷ []) ++ drop (suc n) d = closed_at d n g.within g.closed in (
      92 ∷ 117 ∷ 123 ∷ (take n d ++ 125 ∷ []),
      drop (suc n) d,
      inr (record {
        digits = take n d;
        spelled = refl;
        hexadecimal = all_digits d n (omega arith) h.digits;
        some = omega arith;
        few = omega arith;
        value = v;
        scalar = subst (λ (z : ℕ). IsScalar z) (sym v) g.scalar;
      }),
      w ∙ ap (λ (z : List ℕ). 92 ∷ 117 ∷ 123 ∷ z) whole,
      omega (arith, length-append (take n d) (125 ∷ [])),
    )

-- a text that begins with `\u{`
pub opened : (s : List ℕ) → 3 ≤ length s → get_or s 0 0 ≡ 92 → get_or s 1 0 ≡ 117 → get_or s 2 0 ≡ 123 → s ≡ 92 ∷ 117 ∷ 123 ∷ drop 3 s
opened [] l a b c = let w : ⊥ = omega arith in absurd w
opened (x ∷ []) l a b c = let w : ⊥ = omega arith in absurd w
opened (x ∷ y ∷ []) l a b c = let w : ⊥ = omega arith in absurd w
opened (x ∷ y ∷ z ∷ s) l a b c = cc

-- what stands behind three bytes, counted, is all that stands there
pub rest_of : (s : List ℕ) → take (length s - 3) (drop 3 s) ≡ drop 3 s
rest_of s = ap (λ (z : ℕ). take z (drop 3 s)) (sym (length-drop 3 s)) ∙ take-length (drop 3 s)

-- the text is `\u{` and the rest that the code cuts off
pub opened_cut : (s : List ℕ) → 3 ≤ length s → get_or s 0 0 ≡ 92 → get_or s 1 0 ≡ 117 → get_or s 2 0 ≡ 123 → s ≡ 92 ∷ 117 ∷ 123 ∷ take (length s - 3) (drop 3 s)
opened_cut s l a b c = opened s l a b c ∙ ap (λ (z : List ℕ). 92 ∷ 117 ∷ 123 ∷ z) (sym (rest_of s))

-- a short escape
pub short : (s : List ℕ) (c : ℕ) → 2 ≤ length s → get_or s 0 0 ≡ 92 → short_escape (get_or s 1 0) ≡ Some c → UnescapesTo s (Some (c, 2))
short [] c l a b = let w : ⊥ = omega arith in absurd w
short (x ∷ []) c l a b = let w : ⊥ = omega arith in absurd w
short (x ∷ y ∷ s) c l a b = (92 ∷ y ∷ [], s, inl (y, refl, b), ap (λ (z : ℕ). z ∷ y ∷ s) a, refl)

-- five digits are a number that one more fits behind
pub fits_five : (n : ℕ) → n ≤ 5 → 16 ^ n ≤ 1048576
fits_five zero l = lit≤ tt
fits_five (suc zero) l = lit≤ tt
fits_five (suc (suc zero)) l = lit≤ tt
fits_five (suc (suc (suc zero))) l = lit≤ tt
fits_five (suc (suc (suc (suc zero)))) l = lit≤ tt
fits_five (suc (suc (suc (suc (suc zero))))) l = lit≤ tt
fits_five (suc (suc (suc (suc (suc (suc n)))))) l = let w : ⊥ = omega arith in absurd w

-- the first n bytes of s are hexadecimal digits, and v is their number
pub record DigitsSoFar (s : List ℕ) (n v : ℕ) : Type 0 where
  pub digits : (i : ℕ) → i < n → digit_value (get_or s i 0) < 16
  pub number : v ≡ digits_value 16 (take n s)

-- five digits are a small number
pub small_number : (s : List ℕ) (n v : ℕ) → n < length s → length s ≤ 6 → DigitsSoFar s n v → v < 1048576
small_number s n v l few h =
    let long : length (take n s) ≡ n = length-take-le n s (omega arith) in
    let below = digits_value-lt 16 (take n s) (all_digits s n (omega arith) h.digits) in
    let power = fits_five (length (take n s)) (omega arith) in
    let number = h.number in omega arith

-- one digit more
pub one_digit_more : (s : List ℕ) (n v b d : ℕ) → n < length s → b ≡ get_or s n 0 → (digit_value b < 16) × (d ≡ digit_value b) → DigitsSoFar s n v → DigitsSoFar s (n + 1) (v * 16 + d)
one_digit_more s n v b d l e (digit, same) h = record {
  digits = λ i j. elim (cases_lt i n) as (λ _. digit_value (get_or s i 0) < 16) [
    | inl less ↦ h.digits i less
    | inr more ↦ let last : i ≡ n = omega arith in
        subst (λ (k : ℕ). digit_value (get_or s k 0) < 16) (sym last) (subst (λ (z : ℕ). digit_value z < 16) e digit)
  ];
  number = ap (λ (z : ℕ). z * 16 + d) h.number ∙ (ap (λ (z : ℕ). digits_value 16 (take n s) * 16 + z) (same ∙ ap digit_value e) ∙ sym (digits_value_more 16 s n l));
}

-- all the digits at the start can be counted
pub count_of : (d : List ℕ) → (n : ℕ) × Counts d n
count_of [] = (0, record { digits = λ i l. let w : ⊥ = omega arith in absurd w; stops = λ l. let w : ⊥ = omega arith in absurd w })
count_of (b ∷ d) = elim (cases_lt (digit_value b) 16) [
  | inl digit ↦ let (n, h) = count_of d in (
    suc n,
    record {
      digits = λ i l. one_more i l digit h;
      stops = λ l. h.stops (omega arith);
    },
  )
  | inr other ↦ (0, record { digits = λ i l. let w : ⊥ = omega arith in absurd w; stops = λ l. other })
]
  where
    one_more : (i : ℕ) {n : ℕ} → i < suc n → digit_value b < 16 → Counts d n → digit_value (get_or (b ∷ d) i 0) < 16
    one_more zero l digit h = digit
    one_more (suc i) l digit h = h.digits i (omega arith)

-- a byte among the first six
few_at : (d f : List ℕ) (i : ℕ) → f ≡ take (min (length d) 6) d → i < length f → get_or f i 0 ≡ get_or d i 0
few_at d f i e l =
    let long : length f ≡ min (length d) 6 = ap length e ∙ length-take-le (min (length d) 6) d (omega arith) in
    ap (λ (z : List ℕ). get_or z i 0) e ∙ get_or-take (min (length d) 6) d i 0 (omega arith)

-- where all digits are six at most, those among the first six are all
few_are_all : (d f : List ℕ) (m n v : ℕ) → f ≡ take (min (length d) 6) d → Counts d m → IsNumberAt f n v → m ≤ 6 → m < length d → n ≡ m
few_are_all d f m n v e h k few inside =
    let long : length f ≡ min (length d) 6 = ap length e ∙ length-take-le (min (length d) 6) d (omega arith) in
    let fits : n ≤ length f = k.within in
    elim (cases_lt n m) as (λ _. n ≡ m) [
      | inl less ↦ (
          let here : n < length f = omega arith in
          let same = few_at d f n e here in
          let digit : digit_value (get_or d n 0) < 16 = h.digits n less in
          let other : 16 ≤ digit_value (get_or f n 0) = k.stops here in
          let other_here : 16 ≤ digit_value (get_or d n 0) = subst (λ (b : ℕ). 16 ≤ digit_value b) same other in
          absurd (omega arith))
      | inr more ↦ elim (cases_lt m n) as (λ _. n ≡ m) [
        | inl less ↦ (
            let same = few_at d f m e (omega arith) in
            let digit : digit_value (get_or f m 0) < 16 = k.digits m less in
            let digit_here : digit_value (get_or d m 0) < 16 = subst (λ (b : ℕ). digit_value b < 16) same digit in
            let other : 16 ≤ digit_value (get_or d m 0) = h.stops inside in
            absurd (omega arith))
        | inr least ↦ omega arith
      ]
    ]

-- where the digits among the first six are not right, no escape stands
pub none_few : (s d f : List ℕ) (n v : ℕ) → s ≡ 92 ∷ 117 ∷ 123 ∷ d → f ≡ take (min (length d) 6) d → IsNumberAt f n v → (HasDistinctLabels d n → ⊥) → UnescapesTo s None
none_few s d f n v w e k bad =
    let (m, h) = count_of d in
    none_long s d m w h (λ g. bad (subst (HasDistinctLabels d) (sym (few_are_all d f m n v e h k g.few g.within)) g))

-- where the digits among the first six are closed, they are all, and their number is that of the escape
pub few_closed : (d f : List ℕ) (n v : ℕ) → f ≡ take (min (length d) 6) d → IsNumberAt f n v → n < length d → get_or d n 0 ≡ 125 → Counts d n × (n ≤ 6) × (v ≡ digits_value 16 (take n d))
few_closed d f n v e k inside closed =
    let long : length f ≡ min (length d) 6 = ap length e ∙ length-take-le (min (length d) 6) d (omega arith) in
    let fits : n ≤ length f = k.within in (
      record {
        digits = λ i l. subst (λ (b : ℕ). digit_value b < 16) (few_at d f i e (omega arith)) (k.digits i l);
        stops = λ l. subst (λ (b : ℕ). 16 ≤ digit_value b) (sym closed) (omega arith);
      },
      omega arith,
      k.number ∙ ap (λ (z : List ℕ). digits_value 16 z) (ap (take n) e ∙ take-take n (min (length d) 6) d (omega arith)),
    )
