-- How a scalar that is written in a char or a string reads back.
use Rattle.std.proofs.Common.{◌≡◌, ℕ, ◌≤◌, ◌<◌, ◌+◌, ◌*◌, ◌/◌, ◌%◌, ◌^◌, ◌≢◌, Bool, true, false, nat_lt, zero, suc, List, [], ◌∷◌, ◌++◌, ◌⊎◌, inl, inr, refl, sym, subst, ◌∙◌, length, get_or, arith}
use Rattle.std.specs.Prelude.{◌||◌, ◌==◌, codes, encode_utf8, if◌then◌else◌}
use Rattle.std.specs.Char.{IsScalar, digit_value}
use Rattle.std.specs.Fmt.{digits, digits_onto, digit_glyph}
use Rattle.std.specs.Str.Parse.{AllDigits}
use Rattle.std.proofs.lemmas.Bool.{eqb-true, eqb-false, or_cases}
use Rattle.std.proofs.lemmas.Bool.Decides.{nat_tests}
use Rattle.std.proofs.lemmas.Fmt.{digits_is_IsNumeral}
use Rattle.std.proofs.lemmas.List.{append-nil}
use Rattle.std.proofs.lemmas.Str.{inside_one}
use Rattle.wave_wasm.specs.Text.{escaped, is_escaped}
use Rattle.wave_lex.specs.Regex.{Matches, is_one_of, is_within}
use Rattle.wave_lex.specs.Tokens.{escape, hexadecimal, up_to, one, word}
use Rattle.wave_lex.specs.Strings.{IsEscape}
use Rattle.wave_lex.proofs.StringDecoding.Parts.{AllPlain}
use Rattle.wave_lex.proofs.RegularShapes.Derivatives.{matches_from}
use Rattle.wave_lex.proofs.LongestPrefix.ByComputing.{is_ascii}

-- ---- hexadecimal digits

-- at most this many digits
abbrev bound : ℕ → ℕ
bound zero = 1
bound (suc m) = 16 * bound m

few_onto : (k m n : ℕ) (acc : List ℕ) → n < bound (suc m) → length (digits_onto k 16 false n acc) ≤ suc m + length acc
few_onto zero m n acc l = omega arith
few_onto (suc k) m n acc l = by_test m (n / 16 == 0) refl l (λ more h. few_onto k more (n / 16) (digit_glyph false (n % 16) ∷ acc) h)
  where
    by_test : (m : ℕ) (t : Bool) → (n / 16 == 0) ≡ t → n < bound (suc m)
        → ((more : ℕ) → n / 16 < bound (suc more) → length (digits_onto k 16 false (n / 16) (digit_glyph false (n % 16) ∷ acc)) ≤ suc more + suc (length acc))
        → length (if t then digit_glyph false (n % 16) ∷ acc else digits_onto k 16 false (n / 16) (digit_glyph false (n % 16) ∷ acc)) ≤ suc m + length acc
    by_test m true e h others = omega arith
    by_test zero false e h others = let some : n / 16 ≢ 0 = eqb-false (n / 16) 0 e in absurd (some (omega arith))
    by_test (suc m) false e h others =
        let big : n < 16 * bound (suc m) = h in
        let w = others m (omega arith) in omega arith

-- a scalar has at most six
few_digits : (c : ℕ) → c < 16777216 → length (digits 16 false c) ≤ 6
unfolding digits
few_digits c l = few_onto 64 5 c [] l

is_hexadecimal : (d : ℕ) → digit_value d < 16 → (is_within 48 57 d || (is_within 97 102 d || is_within 65 70 d)) ≡ true
is_hexadecimal d h = grind (arith, nat_tests)

hexadecimal_small : (d : ℕ) → digit_value d < 16 → nat_lt d 128 ≡ true
hexadecimal_small d h = grind (arith, nat_tests)

one_hexadecimal : (d : ℕ) → digit_value d < 16 → Matches hexadecimal (d ∷ [])
one_hexadecimal d h =
    elim (or_cases (is_within 48 57 d) (is_within 97 102 d || is_within 65 70 d) (is_hexadecimal d h)) [
      | inl e ↦ inl (d, refl, e)
      | inr e ↦ elim (or_cases (is_within 97 102 d) (is_within 65 70 d) e) [ inl f ↦ inr (inl (d, refl, f)) | inr f ↦ inr (inr (d, refl, f)) ]
    ]

-- at most n digits
some_hexadecimal : (n : ℕ) (ds : List ℕ) → length ds ≤ n → AllDigits 16 ds → Matches (up_to n hexadecimal) ds
some_hexadecimal zero [] l h = refl
some_hexadecimal zero (d ∷ ds) l h = absurd (omega arith)
some_hexadecimal (suc n) [] l h = inl refl
some_hexadecimal (suc n) (d ∷ ds) l h = inr (d ∷ [], ds, refl, one_hexadecimal d h.0, some_hexadecimal n ds (omega arith) h.1)

-- the digits and the close after them
pub digits_ascii : (ds : List ℕ) → AllDigits 16 ds → is_ascii (ds ++ 125 ∷ []) ≡ true
digits_ascii [] h = refl
digits_ascii (d ∷ ds) h = rw (hexadecimal_small d h.0, digits_ascii ds h.1) refl

-- `\u{`, the digits and `}` are an escape
long_shape : (ds : List ℕ) → 1 ≤ length ds → length ds ≤ 6 → AllDigits 16 ds → Matches escape (92 ∷ 117 ∷ 123 ∷ (ds ++ 125 ∷ []))
long_shape [] some few h = absurd (omega arith)
long_shape (d ∷ ds) some few h = (
  92 ∷ [],
  117 ∷ 123 ∷ ((d ∷ ds) ++ 125 ∷ []),
  refl,
  (92, refl, refl),
  inr (
    117 ∷ 123 ∷ [],
    (d ∷ ds) ++ 125 ∷ [],
    refl,
    matches_from (117 ∷ 123 ∷ []) (word (codes "u{")) refl,
    (d ∷ [], ds ++ 125 ∷ [], refl, one_hexadecimal d h.0, (ds, 125 ∷ [], refl, some_hexadecimal 5 ds (omega arith) h.1, (125, refl, refl))),
  ),
)

-- ---- scalars

-- how a scalar is written: as itself, where it may stand in each of the quotes, or as an escape
abbrev pub IsForm : ℕ → List ℕ → Type 0
IsForm c x =
    (c ≢ 92) × (is_one_of c (92 ∷ 39 ∷ 10 ∷ []) ≡ false) × (is_one_of c (92 ∷ 34 ∷ 10 ∷ []) ≡ false) × (x ≡ encode_utf8 c)
    ⊎ IsEscape x c × Matches escape x × (is_ascii x ≡ true)

-- by its number
long_form : (c : ℕ) → IsScalar c → IsForm c (codes "\\u{" ++ (digits 16 false c ++ codes "}"))
long_form c scalar =
    let small : c < 16777216 = scalar_small c scalar in
    let w = digits_is_IsNumeral 16 false (omega arith) (omega arith) c (wide c small) in
    let few : length (digits 16 false c) ≤ 6 = few_digits c small in
    let some : 1 ≤ length (digits 16 false c) = w.0.0 in inr (
      inr (record { digits = digits 16 false c; spelled = refl; hexadecimal = w.0.1; some = some; few = few; value = sym w.1; scalar = scalar }),
      long_shape (digits 16 false c) some few w.0.1,
      digits_ascii (digits 16 false c) w.0.1,
    )
  where
    scalar_small : (c : ℕ) → IsScalar c → c < 16777216
    scalar_small c h = grind (arith, nat_tests)

    wide : (c : ℕ) → c < 16777216 → c < 16 ^ 64
    wide c l = omega arith

-- one case or the other
picked : {c : ℕ} (t : Bool) (x y : List ℕ) → (t ≡ true → IsForm c x) → (t ≡ false → IsForm c y) → IsForm c (if t then x else y)
picked true x y one other = one refl
picked false x y one other = other refl

-- by a short escape
short_form : (c d : ℕ) (x : List ℕ) → IsForm d x → (c == d) ≡ true → IsForm c x
short_form c d x form e = let same : c ≡ d = eqb-true c d e in subst (λ (z : ℕ). IsForm z x) (sym same) form

plain_form : (c : ℕ) → (c == 0x5c) ≡ false → (c == 0x22) ≡ false → (c == 0x27) ≡ false → (c == 0x0a) ≡ false → IsForm c (encode_utf8 c)
plain_form c slash double single line =
    inl (eqb-false c 92 slash, (let e : is_one_of c (92 ∷ 39 ∷ 10 ∷ []) ≡ false = grind (arith, nat_tests) in e), (let e : is_one_of c (92 ∷ 34 ∷ 10 ∷ []) ≡ false = grind (arith, nat_tests) in e), refl)

pub is_form : (c : ℕ) → IsScalar c → IsForm c (escaped c)
unfolding escaped
is_form c scalar =
    picked (c == 0x5c) _ _ (short_form c 0x5c (codes "\\\\") (inr (inl (92, refl, refl), matches_from _ escape refl, refl)))
    (λ slash. picked (c == 0x22) _ _ (short_form c 0x22 (codes "\\\"") (inr (inl (34, refl, refl), matches_from _ escape refl, refl)))
    (λ double. picked (c == 0x27) _ _ (short_form c 0x27 (codes "\\'") (inr (inl (39, refl, refl), matches_from _ escape refl, refl)))
    (λ single. picked (c == 0x09) _ _ (short_form c 0x09 (codes "\\t") (inr (inl (116, refl, refl), matches_from _ escape refl, refl)))
    (λ tabulator. picked (c == 0x0d) _ _ (short_form c 0x0d (codes "\\r") (inr (inl (114, refl, refl), matches_from _ escape refl, refl)))
    (λ return. picked (c == 0x0a) _ _ (short_form c 0x0a (codes "\\n") (inr (inl (110, refl, refl), matches_from _ escape refl, refl)))
    (λ line. picked (is_escaped c) _ _ (λ hidden. long_form c scalar)
    (λ shown. plain_form c slash double single line)))))))

-- ---- the bytes of a scalar

plain_bytes : (bs : List ℕ) → ((k : ℕ) → k < length bs → get_or bs k 0 ≢ 92) → AllPlain bs
plain_bytes [] h = tt
plain_bytes (b ∷ bs) h = (h 0 (omega arith), plain_bytes bs (λ k l. h (suc k) (omega arith)))

-- no byte of a scalar other than `\` is a `\`
pub all_plain : (c : ℕ) → c ≢ 92 → AllPlain (encode_utf8 c)
all_plain c n = plain_bytes (encode_utf8 c) (λ k l e.
    n (inside_one c [] (encode_utf8 c) k (sym (append-nil (encode_utf8 c))) l (let small : get_or (encode_utf8 c) k 0 < 128 = omega (arith, e) in small) ∙ e))
