-- Escaped scalars can be told apart.
use Rattle.std.proofs.Common.{ℕ, ◌≡◌, ◌≢◌, ◌<◌, ◌^◌, ◌==◌, ◌⊎◌, inl, inr, List, [], ◌∷◌, ◌++◌, Bool, true, false, ◌&&◌, if◌then◌else◌, refl, sym, ap, ◌∙◌, get_or, drop, arith, codes, append_assoc, flat_map, chars, IsUtf8}
use Rattle.std.proofs.Math.Utf8.{scalar, scalars, scalar_fits, encode, encodes}
use Rattle.std.proofs.lemmas.Bool.{cases_Bool, eqb-true}
use Rattle.std.proofs.lemmas.Bool.Decides.{nat_tests}
use Rattle.std.proofs.lemmas.Fmt.{digits_is_IsNumeral}
use Rattle.std.proofs.lemmas.List.{append-nil}
use Rattle.std.proofs.lemmas.Str.{encode_ascii, encodes-append, encodes-chars, encodes_same, scalars-chars}
use Rattle.std.specs.Char.{digit_value}
use Rattle.std.specs.Cmp.{unsigned_Decides}
use Rattle.std.specs.Fmt.{digits}
use Rattle.std.specs.Str.Parse.{AllDigits, digits_value}
use Rattle.wave_wasm.specs.Lists.{AllOf}
use Rattle.wave_wasm.specs.Text.{escaped, is_escaped, quoted, quoted_char}
use Rattle.wave_wasm.specs.TextParts.{number_escape}

-- the escape of a scalar, as scalars
abbrev escape : ℕ → List ℕ
escape c =
    if c == 0x5c then codes "\\\\"
    else (if c == 0x22 then codes "\\\""
    else (if c == 0x27 then codes "\\'"
    else (if c == 0x09 then codes "\\t"
    else (if c == 0x0d then codes "\\r"
    else (if c == 0x0a then codes "\\n"
    else (if is_escaped c then number_escape c
    else c ∷ []))))))

-- ---- the escape in UTF-8

digit_small : (c : ℕ) → digit_value c < 16 → c < 123
digit_small c h = grind (arith, nat_tests)

digits_small : (ds : List ℕ) → AllDigits 16 ds → AllOf (λ d. d < 123) ds
digits_small [] h = tt
digits_small (d ∷ ds) h = (digit_small d h.0, digits_small ds h.1)

ascii_encodes : (bs : List ℕ) → AllOf (λ b. b < 123) bs → encodes bs ≡ bs
ascii_encodes [] h = refl
ascii_encodes (b ∷ bs) h = ap (λ s. s ++ encodes bs) (encode_ascii b (omega (arith, h.0))) ∙ ap (λ s. b ∷ s) (ascii_encodes bs h.1)

numeral : (c : ℕ) → c < 2 ^ 32 → AllDigits 16 (digits 16 false c)
numeral c h = (digits_is_IsNumeral 16 false (omega arith) (omega arith) c (omega (arith, h))).0.1

scalar_small : (c : ℕ) → scalar c ≡ true → c < 2 ^ 32
scalar_small c s = let f = scalar_fits c s in omega (arith, f)

opening_encodes : encodes (codes "\\u{") ≡ codes "\\u{"
unfolding encode
opening_encodes = refl

closing_encodes : encodes (codes "}") ≡ codes "}"
unfolding encode
closing_encodes = refl

-- the escape by a number is ASCII
pub number_encodes : (c : ℕ) → c < 2 ^ 32 → number_escape c ≡ encodes (number_escape c)
number_encodes c h =
    sym (encodes-append (codes "\\u{") (digits 16 false c ++ codes "}") ∙ (ap (λ z. z ++ encodes (digits 16 false c ++ codes "}")) opening_encodes ∙ ap (λ z. codes "\\u{" ++ z) (encodes-append (digits 16 false c) (codes "}") ∙ (ap (λ z. z ++ encodes (codes "}")) (ascii_encodes (digits 16 false c) (digits_small (digits 16 false c) (numeral c h))) ∙ ap (λ z. digits 16 false c ++ z) closing_encodes))))

either_encodes : (b : Bool) (s t u v : List ℕ) → s ≡ encodes u → t ≡ encodes v → (if b then s else t) ≡ encodes (if b then u else v)
either_encodes true s t u v e f = e
either_encodes false s t u v e f = f

escaped_encodes : (c : ℕ) → scalar c ≡ true → escaped c ≡ encodes (escape c)
unfolding escaped encode
escaped_encodes c s =
    either_encodes (c == 0x5c) _ _ _ _ refl (either_encodes (c == 0x22) _ _ _ _ refl (either_encodes (c == 0x27) _ _ _ _ refl (either_encodes (c == 0x09) _ _ _ _ refl (either_encodes (c == 0x0d) _ _ _ _ refl (either_encodes (c == 0x0a) _ _ _ _ refl (either_encodes (is_escaped c) _ _ _ _ (number_encodes c (scalar_small c s)) (sym (append-nil (encode c)))))))))

-- ---- what an escape looks like

-- what the letter after a `\` stands for
abbrev meant : ℕ → ℕ
meant x = if x == 116 then 9 else (if x == 114 then 13 else (if x == 110 then 10 else x))

abbrev IsShort : ℕ → List ℕ → Type 0
IsShort c t = (x : ℕ) × (t ≡ 92 ∷ x ∷ []) × (c ≡ meant x) × (x ≢ 117)

abbrev IsLong : ℕ → List ℕ → Type 0
IsLong c t = t ≡ 92 ∷ 117 ∷ 123 ∷ (digits 16 false c ++ 125 ∷ [])

abbrev IsItself : ℕ → List ℕ → Type 0
IsItself c t = (t ≡ c ∷ []) × (c ≢ 92) × (c ≢ 34)

differ : (c n : ℕ) → (c == n) ≡ false → c ≢ n
differ c n h e = let t = (unsigned_Decides c n).1 e in cc

form : (c : ℕ) → IsShort c (escape c) ⊎ (IsLong c (escape c) ⊎ IsItself c (escape c))
form c = elim (cases_Bool (c == 0x5c)) [
  | inl h ↦ inl (92, rw h refl, eqb-true c 0x5c h, λ e. omega (arith, e))
  | inr a ↦ elim (cases_Bool (c == 0x22)) [
    | inl h ↦ inl (34, rw (a, h) refl, eqb-true c 0x22 h, λ e. omega (arith, e))
    | inr b ↦ elim (cases_Bool (c == 0x27)) [
      | inl h ↦ inl (39, rw (a, b, h) refl, eqb-true c 0x27 h, λ e. omega (arith, e))
      | inr f ↦ elim (cases_Bool (c == 0x09)) [
        | inl h ↦ inl (116, rw (a, b, f, h) refl, eqb-true c 0x09 h, λ e. omega (arith, e))
        | inr g ↦ elim (cases_Bool (c == 0x0d)) [
          | inl h ↦ inl (114, rw (a, b, f, g, h) refl, eqb-true c 0x0d h, λ e. omega (arith, e))
          | inr i ↦ elim (cases_Bool (c == 0x0a)) [
            | inl h ↦ inl (110, rw (a, b, f, g, i, h) refl, eqb-true c 0x0a h, λ e. omega (arith, e))
            | inr j ↦ elim (cases_Bool (is_escaped c)) [
              | inl h ↦ inr (inl (rw (a, b, f, g, i, j, h) refl))
              | inr k ↦ inr (inr (rw (a, b, f, g, i, j, k) refl, differ c 92 a, differ c 34 b))
            ]
          ]
        ]
      ]
    ]
  ]
]

-- ---- the prefix of two texts

-- what stands before the first 125 is one
before_close : (ds es r s : List ℕ) → AllOf (λ d. d < 123) ds → AllOf (λ d. d < 123) es → ds ++ 125 ∷ r ≡ es ++ 125 ∷ s → (ds ≡ es) × (r ≡ s)
before_close [] [] r s h k e = (refl, ap (drop 1) e)
before_close [] (y ∷ es) r s h k e = absurd (omega (arith, ap (λ l. get_or l 0 0) e, k.0))
before_close (x ∷ ds) [] r s h k e = absurd (omega (arith, ap (λ l. get_or l 0 0) e, h.0))
before_close (x ∷ ds) (y ∷ es) r s h k e =
    let p : x ≡ y = ap (λ l. get_or l 0 0) e in
    let q = before_close ds es r s h.1 k.1 (ap (drop 1) e) in
    ((λ i. p i ∷ q.0 i), q.1)

same_digits : (c d : ℕ) → scalar c ≡ true → scalar d ≡ true → digits 16 false c ≡ digits 16 false d → c ≡ d
same_digits c d s t e =
    let f = scalar_fits c s in
    let g = scalar_fits d t in
    sym (digits_is_IsNumeral 16 false (omega arith) (omega arith) c (omega (arith, f))).1 ∙ (ap (digits_value 16) e ∙ (digits_is_IsNumeral 16 false (omega arith) (omega arith) d (omega (arith, g))).1)

-- the two texts with their forms in place
placed : (t u v w r s : List ℕ) → t ≡ v → u ≡ w → t ++ r ≡ u ++ s → v ++ r ≡ w ++ s
placed t u v w r s e f h = ap (λ z. z ++ r) (sym e) ∙ (h ∙ ap (λ z. z ++ s) f)

prefix : (c d : ℕ) → scalar c ≡ true → scalar d ≡ true → (t u : List ℕ) → IsShort c t ⊎ (IsLong c t ⊎ IsItself c t) → IsShort d u ⊎ (IsLong d u ⊎ IsItself d u) → (r s : List ℕ) → t ++ r ≡ u ++ s → (c ≡ d) × (r ≡ s)
prefix c d m n t u (inl (x, e, p, a)) (inl (y, f, q, b)) r s h =
    let g = placed t u _ _ r s e f h in
    let xy : x ≡ y = ap (λ l. get_or l 1 0) g in
    (p ∙ (ap meant xy ∙ sym q), ap (drop 2) g)
prefix c d m n t u (inl (x, e, p, a)) (inr (inl f)) r s h = absurd (a (ap (λ l. get_or l 1 0) (placed t u _ _ r s e f h)))
prefix c d m n t u (inl (x, e, p, a)) (inr (inr (f, k, l))) r s h = absurd (k (sym (ap (λ l. get_or l 0 0) (placed t u _ _ r s e f h))))
prefix c d m n t u (inr (inl e)) (inl (y, f, q, b)) r s h = absurd (b (sym (ap (λ l. get_or l 1 0) (placed t u _ _ r s e f h))))
prefix c d m n t u (inr (inl e)) (inr (inl f)) r s h =
    let g : (digits 16 false c ++ 125 ∷ []) ++ r ≡ (digits 16 false d ++ 125 ∷ []) ++ s = ap (drop 3) (placed t u _ _ r s e f h) in
    let b = before_close (digits 16 false c) (digits 16 false d) r s (digits_small (digits 16 false c) (numeral c (scalar_small c m))) (digits_small (digits 16 false d) (numeral d (scalar_small d n))) (sym (append_assoc (digits 16 false c) (125 ∷ []) r) ∙ (g ∙ append_assoc (digits 16 false d) (125 ∷ []) s)) in
    (same_digits c d m n b.0, b.1)
prefix c d m n t u (inr (inl e)) (inr (inr (f, k, l))) r s h = absurd (k (sym (ap (λ l. get_or l 0 0) (placed t u _ _ r s e f h))))
prefix c d m n t u (inr (inr (e, k, l))) (inl (y, f, q, b)) r s h = absurd (k (ap (λ l. get_or l 0 0) (placed t u _ _ r s e f h)))
prefix c d m n t u (inr (inr (e, k, l))) (inr (inl f)) r s h = absurd (k (ap (λ l. get_or l 0 0) (placed t u _ _ r s e f h)))
prefix c d m n t u (inr (inr (e, k, l))) (inr (inr (f, o, q))) r s h =
    let g = placed t u _ _ r s e f h in
    (ap (λ l. get_or l 0 0) g, ap (drop 1) g)

-- an escape is no quote
no_quote : (c : ℕ) (t : List ℕ) → IsShort c t ⊎ (IsLong c t ⊎ IsItself c t) → (r s : List ℕ) → t ++ r ≡ 34 ∷ s → ⊥
no_quote c t (inl (x, e, p, a)) r s h = omega (arith, ap (λ l. get_or l 0 0) (ap (λ z. z ++ r) (sym e) ∙ h))
no_quote c t (inr (inl e)) r s h = omega (arith, ap (λ l. get_or l 0 0) (ap (λ z. z ++ r) (sym e) ∙ h))
no_quote c t (inr (inr (e, k, l))) r s h = l (ap (λ l. get_or l 0 0) (ap (λ z. z ++ r) (sym e) ∙ h))

-- ---- whole texts

both_scalars : (c : ℕ) (cs : List ℕ) → scalars (c ∷ cs) ≡ true → (scalar c ≡ true) × (scalars cs ≡ true)
both_scalars c cs h = split (scalar c) (scalars cs) h
  where
    split : (a b : Bool) → (a && b) ≡ true → (a ≡ true) × (b ≡ true)
    split true b e = (refl, e)
    split false b e = cc

all_escaped : (cs : List ℕ) → scalars cs ≡ true → flat_map escaped cs ≡ encodes (flat_map escape cs)
all_escaped [] h = refl
all_escaped (c ∷ cs) h =
    let p = both_scalars c cs h in
    ap (λ z. z ++ flat_map escaped cs) (escaped_encodes c p.0) ∙ (ap (λ z. encodes (escape c) ++ z) (all_escaped cs p.1) ∙ sym (encodes-append (escape c) (flat_map escape cs)))

texts_apart : (cs ds : List ℕ) → scalars cs ≡ true → scalars ds ≡ true → flat_map escape cs ++ 34 ∷ [] ≡ flat_map escape ds ++ 34 ∷ [] → cs ≡ ds
texts_apart [] [] m n e = refl
texts_apart [] (d ∷ ds) m n e = absurd (no_quote d (escape d) (form d) (flat_map escape ds ++ 34 ∷ []) [] (sym (append_assoc (escape d) (flat_map escape ds) (34 ∷ [])) ∙ sym e))
texts_apart (c ∷ cs) [] m n e = absurd (no_quote c (escape c) (form c) (flat_map escape cs ++ 34 ∷ []) [] (sym (append_assoc (escape c) (flat_map escape cs) (34 ∷ [])) ∙ e))
texts_apart (c ∷ cs) (d ∷ ds) m n e =
    let p = both_scalars c cs m in
    let q = both_scalars d ds n in
    let f = prefix c d p.0 q.0 (escape c) (escape d) (form c) (form d) (flat_map escape cs ++ 34 ∷ []) (flat_map escape ds ++ 34 ∷ []) (sym (append_assoc (escape c) (flat_map escape cs) (34 ∷ [])) ∙ (e ∙ append_assoc (escape d) (flat_map escape ds) (34 ∷ []))) in
    let g = texts_apart cs ds p.1 q.1 f.1 in
    λ i. f.0 i ∷ g i

-- a text that is all ASCII here stands for itself
close_encodes : (b : ℕ) → b < 123 → encodes (b ∷ []) ≡ b ∷ []
close_encodes b h = ascii_encodes (b ∷ []) (h, tt)

-- a text between quotes determines the text
pub quoted_apart : (s t : List ℕ) → IsUtf8 s → IsUtf8 t → quoted s ≡ quoted t → s ≡ t
quoted_apart s t u v e =
    let m = scalars-chars s u in
    let n = scalars-chars t v in
    let inner : flat_map escaped (chars s) ++ 34 ∷ [] ≡ flat_map escaped (chars t) ++ 34 ∷ [] = ap (drop 1) e in
    let whole = λ (cs : List ℕ) (h : scalars cs ≡ true). ap (λ z. z ++ 34 ∷ []) (all_escaped cs h) ∙ (ap (λ z. encodes (flat_map escape cs) ++ z) (sym (close_encodes 34 (omega arith))) ∙ sym (encodes-append (flat_map escape cs) (34 ∷ []))) in
    let same = texts_apart (chars s) (chars t) m n (encodes_same _ _ (sym (whole (chars s) m) ∙ (inner ∙ whole (chars t) n))) in
    sym (encodes-chars s u) ∙ (ap encodes same ∙ encodes-chars t v)

-- a scalar between quotes determines the scalar
pub quoted_char_apart : (c d : ℕ) → scalar c ≡ true → scalar d ≡ true → quoted_char c ≡ quoted_char d → c ≡ d
quoted_char_apart c d m n e =
    let inner : escaped c ++ 39 ∷ [] ≡ escaped d ++ 39 ∷ [] = ap (drop 1) e in
    let whole = λ (c : ℕ) (h : scalar c ≡ true). ap (λ z. z ++ 39 ∷ []) (escaped_encodes c h) ∙ (ap (λ z. encodes (escape c) ++ z) (sym (close_encodes 39 (omega arith))) ∙ sym (encodes-append (escape c) (39 ∷ []))) in
    (prefix c d m n (escape c) (escape d) (form c) (form d) (39 ∷ []) (39 ∷ []) (encodes_same _ _ (sym (whole c m) ∙ (inner ∙ whole d n)))).0
