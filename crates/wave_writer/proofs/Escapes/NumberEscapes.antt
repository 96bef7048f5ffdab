-- std's escape of a scalar by its number.
use Rattle.std.proofs.Common.{◌≡◌, ℕ, zero, suc, ◌/◌, ◌%◌, ◌^◌, ◌<◌, ◌≤◌, ◌==◌, inl, inr, List, [], ◌∷◌, ◌++◌, Bool, true, false, cond, refl, sym, ap, ◌∙◌, append_assoc, arith, codes, nat_lt}
use Rattle.std.proofs.Math.Utf8.{encodes}
use Rattle.std.proofs.lemmas.Bool.{cases_Bool}
use Rattle.std.proofs.lemmas.Bool.Decides.{nat_tests}
use Rattle.std.proofs.lemmas.Fmt.{hex_one_digit}
use Rattle.std.specs.Char.{encode_utf8, digit_char}
use Rattle.std.specs.Char.Escape.{escape_unicode, hex_digit_at}
use Rattle.std.specs.Fmt.{digits, digits_onto, digit_glyph}
use Rattle.wave_writer.specs.WriterState.{Output}
use Rattle.wave_wasm.specs.TextParts.{number_escape}
use Rattle.wave_wasm.proofs.Escapes.QuotedApart.{number_encodes}
use Rattle.wave_writer.proofs.CanonicalText.WrittenParts.{Writing, writing_as, writing_none}

-- ---- the digits of a number, from the last to the first

-- the last digit
abbrev last : ℕ → ℕ
last n = digit_glyph false (n % 16)

append_by : (b : Bool) (n : ℕ) (prefix start_alone acc : List ℕ) → prefix ≡ start_alone ++ acc → cond b (last n ∷ acc) prefix ≡ cond b (last n ∷ []) start_alone ++ acc
append_by true n prefix start_alone acc h = refl
append_by false n prefix start_alone acc h = h

-- the digits of n stand before what was there
onto_append : (k n : ℕ) (acc : List ℕ) → digits_onto k 16 false n acc ≡ digits_onto k 16 false n [] ++ acc
onto_append zero n acc = refl
onto_append (suc k) n acc =
    append_by (n / 16 == 0) n _ _ acc (onto_append k (n / 16) (last n ∷ acc) ∙ (sym (append_assoc (digits_onto k 16 false (n / 16) []) (last n ∷ []) acc) ∙ ap (λ s. s ++ acc) (sym (onto_append k (n / 16) (last n ∷ [])))))

same_by : (b : Bool) (s t u : List ℕ) → t ≡ u → cond b s t ≡ cond b s u
same_by b s t u h = ap (cond b s) h

no_prefix : (n : ℕ) (s t u : List ℕ) → n < 16 → cond (n / 16 == 0) s t ≡ cond (n / 16 == 0) s u
no_prefix n s t u h = let e : (n / 16 == 0) ≡ true = search arith in rw e refl

-- room for one more digit changes nothing where there is room enough
more_room : (k n : ℕ) (acc : List ℕ) → n < 16 ^ suc k → digits_onto (suc (suc k)) 16 false n acc ≡ digits_onto (suc k) 16 false n acc
more_room zero n acc h = no_prefix n _ _ _ (omega (arith, h))
more_room (suc k) n acc h = same_by (n / 16 == 0) _ _ _ (more_room k (n / 16) (last n ∷ acc) (omega (arith, h)))

-- the last digit after those before
hex_step : (n : ℕ) → 16 ≤ n → n < 2 ^ 32 → digits 16 false n ≡ digits 16 false (n / 16) ++ (digit_glyph false (n % 16) ∷ [])
unfolding digits
hex_step n low high =
    let e : (n / 16 == 0) ≡ false = search arith in
    ap (λ b. cond b (last n ∷ []) (digits_onto 63 16 false (n / 16) (last n ∷ []))) e ∙ (sym (more_room 62 (n / 16) (last n ∷ []) (omega arith)) ∙ onto_append 64 (n / 16) (last n ∷ []))

-- ---- up to six digits, each by its place

digit_at : (p q n : ℕ) → n / 16 / p ≡ n / q → hex_digit_at p (n / 16) ≡ hex_digit_at q n
digit_at p q n e = ap (λ d. digit_char (d % 16)) e

one_digit : (n : ℕ) → n < 16 → digits 16 false n ≡ hex_digit_at 1 n ∷ []
one_digit n h = let e : n ≡ n / 1 % 16 = omega arith in hex_one_digit false n h ∙ ap (λ d. digit_glyph false d ∷ []) e

one_more : (n : ℕ) (prefix back : List ℕ) → 16 ≤ n → n < 16 ^ 6 → digits 16 false (n / 16) ≡ prefix → prefix ≡ back → digits 16 false n ≡ back ++ hex_digit_at 1 n ∷ []
one_more n prefix back low high e f =
    let one : n ≡ n / 1 = omega arith in
    hex_step n low (omega (arith, high)) ∙ (ap (λ s. s ++ digit_glyph false (n % 16) ∷ []) (e ∙ f) ∙ ap (λ d. back ++ digit_glyph false (d % 16) ∷ []) one)

two_digits : (n : ℕ) → 16 ≤ n → n < 0x100 → digits 16 false n ≡ hex_digit_at 0x10 n ∷ hex_digit_at 1 n ∷ []
two_digits n low high =
    let a = digit_at 1 0x10 n (omega arith) in
    one_more n _ (hex_digit_at 0x10 n ∷ []) low (omega arith) (one_digit (n / 16) (omega arith)) (ap (λ x. x ∷ []) a)

three_digits : (n : ℕ) → 0x100 ≤ n → n < 0x1000 → digits 16 false n ≡ hex_digit_at 0x100 n ∷ hex_digit_at 0x10 n ∷ hex_digit_at 1 n ∷ []
three_digits n low high =
    let a = digit_at 1 0x10 n (omega arith) in
    let b = digit_at 0x10 0x100 n (omega arith) in
    one_more n _ (hex_digit_at 0x100 n ∷ hex_digit_at 0x10 n ∷ []) (omega arith) (omega arith) (two_digits (n / 16) (omega arith) (omega arith)) (λ i. b i ∷ a i ∷ [])

four_digits : (n : ℕ) → 0x1000 ≤ n → n < 0x1_0000 → digits 16 false n ≡ hex_digit_at 0x1000 n ∷ hex_digit_at 0x100 n ∷ hex_digit_at 0x10 n ∷ hex_digit_at 1 n ∷ []
four_digits n low high =
    let a = digit_at 1 0x10 n (omega arith) in
    let b = digit_at 0x10 0x100 n (omega arith) in
    let d = digit_at 0x100 0x1000 n (omega arith) in
    one_more n _ (hex_digit_at 0x1000 n ∷ hex_digit_at 0x100 n ∷ hex_digit_at 0x10 n ∷ []) (omega arith) (omega arith) (three_digits (n / 16) (omega arith) (omega arith)) (λ i. d i ∷ b i ∷ a i ∷ [])

five_digits : (n : ℕ) → 0x1_0000 ≤ n → n < 0x10_0000 → digits 16 false n ≡ hex_digit_at 0x1_0000 n ∷ hex_digit_at 0x1000 n ∷ hex_digit_at 0x100 n ∷ hex_digit_at 0x10 n ∷ hex_digit_at 1 n ∷ []
five_digits n low high =
    let a = digit_at 1 0x10 n (omega arith) in
    let b = digit_at 0x10 0x100 n (omega arith) in
    let d = digit_at 0x100 0x1000 n (omega arith) in
    let e = digit_at 0x1000 0x1_0000 n (omega arith) in
    one_more n _ (hex_digit_at 0x1_0000 n ∷ hex_digit_at 0x1000 n ∷ hex_digit_at 0x100 n ∷ hex_digit_at 0x10 n ∷ []) (omega arith) (omega arith) (four_digits (n / 16) (omega arith) (omega arith)) (λ i. e i ∷ d i ∷ b i ∷ a i ∷ [])

six_digits : (n : ℕ) → 0x10_0000 ≤ n → n < 16 ^ 6 → digits 16 false n ≡ hex_digit_at 0x10_0000 n ∷ hex_digit_at 0x1_0000 n ∷ hex_digit_at 0x1000 n ∷ hex_digit_at 0x100 n ∷ hex_digit_at 0x10 n ∷ hex_digit_at 1 n ∷ []
six_digits n low high =
    let a = digit_at 1 0x10 n (omega arith) in
    let b = digit_at 0x10 0x100 n (omega arith) in
    let d = digit_at 0x100 0x1000 n (omega arith) in
    let e = digit_at 0x1000 0x1_0000 n (omega arith) in
    let f = digit_at 0x1_0000 0x10_0000 n (omega arith) in
    one_more n _ (hex_digit_at 0x10_0000 n ∷ hex_digit_at 0x1_0000 n ∷ hex_digit_at 0x1000 n ∷ hex_digit_at 0x100 n ∷ hex_digit_at 0x10 n ∷ []) (omega arith) high (five_digits (n / 16) (omega arith) (omega arith)) (λ i. f i ∷ e i ∷ d i ∷ b i ∷ a i ∷ [])

-- ---- the escape

below : (n m : ℕ) → nat_lt n m ≡ true → n < m
below n m h = grind (arith, nat_tests)

above : (n m : ℕ) → nat_lt n m ≡ false → m ≤ n
above n m h = grind (arith, nat_tests)

between : {s t : List ℕ} → s ≡ t → codes "\\u{" ++ (t ++ codes "}") ≡ codes "\\u{" ++ (s ++ codes "}")
between e = ap (λ z. codes "\\u{" ++ (z ++ codes "}")) (sym e)

unicode_escape : (c : ℕ) → c < 16 ^ 6 → escape_unicode c ≡ number_escape c
unicode_escape c h = elim (cases_Bool (nat_lt c 0x10)) [
  | inl t ↦ rw t (between (one_digit c (below c 0x10 t)))
  | inr a ↦ elim (cases_Bool (nat_lt c 0x100)) [
    | inl t ↦ rw (a, t) (between (two_digits c (above c 0x10 a) (below c 0x100 t)))
    | inr b ↦ elim (cases_Bool (nat_lt c 0x1000)) [
      | inl t ↦ rw (a, b, t) (between (three_digits c (above c 0x100 b) (below c 0x1000 t)))
      | inr d ↦ elim (cases_Bool (nat_lt c 0x1_0000)) [
        | inl t ↦ rw (a, b, d, t) (between (four_digits c (above c 0x1000 d) (below c 0x1_0000 t)))
        | inr e ↦ elim (cases_Bool (nat_lt c 0x10_0000)) [
          | inl t ↦ rw (a, b, d, e, t) (between (five_digits c (above c 0x1_0000 e) (below c 0x10_0000 t)))
          | inr f ↦ rw (a, b, d, e, f) (between (six_digits c (above c 0x10_0000 f) h))
        ]
      ]
    ]
  ]
]

-- nothing of the escape was written
pub escape_start : (c : ℕ) (rest : List ℕ) (old : Output) → c < 16 ^ 6 → rest ≡ escape_unicode c → Writing (number_escape c) (encodes rest) old old
escape_start c rest old h e = writing_as (number_encodes c (omega (arith, h)) ∙ ap encodes (sym (e ∙ unicode_escape c h))) (writing_none (number_escape c) old)

-- what is left of the escape begins with its next scalar
pub escape_next : {whole : List ℕ} {old now : Output} (rest later part : List ℕ) (x : ℕ) → rest ≡ x ∷ later → part ≡ encode_utf8 x → Writing whole (encodes rest) old now → Writing whole (part ++ encodes later) old now
escape_next rest later part x e p w = writing_as (ap encodes e ∙ ap (λ z. z ++ encodes later) (sym p)) w
