-- Keys of one type are equal where their texts are.
use Rattle.std.proofs.Common.{ℕ, ℤ, pos, negsuc, suc, ◌≡◌, ◌<◌, ◌-◌, ◌^◌, inl, inr, List, [], ◌∷◌, Bool, true, false, refl, sym, ap, ◌∙◌, get_or, drop, arith, decimal, bytes_eq}
use Rattle.std.proofs.Math.Dec.{leb→le, ltb→lt}
use Rattle.std.proofs.lemmas.Bool.{cases_Bool}
use Rattle.std.proofs.lemmas.Bool.Decides.{nat_tests}
use Rattle.std.proofs.lemmas.Fmt.{digits_is_IsNumeral, decimal_injective}
use Rattle.std.proofs.lemmas.Slice.Eq.{bytes_eq-Decides}
use Rattle.std.specs.Char.{digit_value}
use Rattle.std.specs.Fmt.{signed_decimal}
use Rattle.std.specs.Str.Parse.{IsNumeral}
use Rattle.wave_wasm.specs.Types as type
use Rattle.wave_wasm.specs.Types.{Simple, Whole}
use Rattle.wave_wasm.specs.Numbers.{IsInRange}
use Rattle.wave_wasm.specs.Values as value
use Rattle.wave_wasm.specs.Values.{Leaf, leaf_type}
use Rattle.wave_wasm.specs.HasType.{IsLeafOf}
use Rattle.wave_wasm.specs.Merge.{leaf_eq}
use Rattle.wave_wasm.specs.Text.{leaf_text, bool_text}
use Rattle.wave_wasm.proofs.Merging.LastValues.{leaf_eq-true, leaf_eq-self}
use Rattle.wave_wasm.proofs.Escapes.QuotedApart.{quoted_apart, quoted_char_apart}

bools_apart : (a b : Bool) → bool_text a ≡ bool_text b → a ≡ b
bools_apart true true e = refl
bools_apart true false e = absurd (omega (arith, ap (λ l. get_or l 0 0) e))
bools_apart false true e = absurd (omega (arith, ap (λ l. get_or l 0 0) e))
bools_apart false false e = refl

-- ---- whole numbers

-- no whole number of these types is farther from zero
abbrev IsNear : ℤ → Type 0
IsNear (pos n) = n < 2 ^ 64
IsNear (negsuc n) = suc n < 2 ^ 64

near : (kind : Whole) (z : ℤ) → IsInRange kind z → IsNear z
near type.s8 (pos n) h = omega (arith, ltb→lt n (2 ^ 7) h.1.lt)
near type.s8 (negsuc n) h = omega (arith, leb→le n (2 ^ 7 - 1) h.0.le)
near type.s16 (pos n) h = omega (arith, ltb→lt n (2 ^ 15) h.1.lt)
near type.s16 (negsuc n) h = omega (arith, leb→le n (2 ^ 15 - 1) h.0.le)
near type.s32 (pos n) h = omega (arith, ltb→lt n (2 ^ 31) h.1.lt)
near type.s32 (negsuc n) h = omega (arith, leb→le n (2 ^ 31 - 1) h.0.le)
near type.s64 (pos n) h = omega (arith, ltb→lt n (2 ^ 63) h.1.lt)
near type.s64 (negsuc n) h = omega (arith, leb→le n (2 ^ 63 - 1) h.0.le)
near type.u8 (pos n) h = omega (arith, ltb→lt n (2 ^ 8) h.1.lt)
near type.u8 (negsuc n) h = absurd h.0.le
near type.u16 (pos n) h = omega (arith, ltb→lt n (2 ^ 16) h.1.lt)
near type.u16 (negsuc n) h = absurd h.0.le
near type.u32 (pos n) h = omega (arith, ltb→lt n (2 ^ 32) h.1.lt)
near type.u32 (negsuc n) h = absurd h.0.le
near type.u64 (pos n) h = omega (arith, ltb→lt n (2 ^ 64) h.1.lt)
near type.u64 (negsuc n) h = absurd h.0.le

no_digit : (ds : List ℕ) (s : List ℕ) → IsNumeral 10 ds → ds ≡ 45 ∷ s → ⊥
no_digit [] s h e = omega (arith, h.0)
no_digit (d ∷ ds) s h e = let is : d ≡ 45 = ap (λ l. get_or l 0 0) e in let small : digit_value d < 10 = h.1.0 in grind (arith, nat_tests)

no_minus : (n : ℕ) (s : List ℕ) → n < 2 ^ 64 → decimal n ≡ 45 ∷ s → ⊥
no_minus n s h e = no_digit (decimal n) s (digits_is_IsNumeral 10 false (omega arith) (omega arith) n (omega (arith, h))).0 e

numbers_apart : (y z : ℤ) → IsNear y → IsNear z → signed_decimal y ≡ signed_decimal z → y ≡ z
numbers_apart (pos m) (pos n) h k e = ap pos (decimal_injective m n h k e)
numbers_apart (pos m) (negsuc n) h k e = absurd (no_minus m (decimal (suc n)) h e)
numbers_apart (negsuc m) (pos n) h k e = absurd (no_minus n (decimal (suc m)) k (sym e))
numbers_apart (negsuc m) (negsuc n) h k e = let s : suc m ≡ suc n = decimal_injective (suc m) (suc n) h k (ap (drop 1) e) in let p : m ≡ n = omega (arith, s) in ap negsuc p

-- ---- keys

-- keys of one type that have one text are one
pub leaves_apart : (S : Simple) (a b : Leaf) → IsLeafOf S a → IsLeafOf S b → leaf_text a ≡ leaf_text b → a ≡ b
leaves_apart S (value.bool a) (value.bool b) p q e = ap value.bool (bools_apart a b e)
leaves_apart S (value.whole kind y) (value.whole other z) p q e =
    let t : type.whole kind ≡ type.whole other = p.0 ∙ sym q.0 in
    let k : kind ≡ other = cc in
    let n : y ≡ z = numbers_apart y z (near kind y p.1) (near other z q.1) e in
    λ i. value.whole (k i) (n i)
leaves_apart S (value.char c) (value.char d) p q e = ap value.char (quoted_char_apart c d p.1 q.1 e)
leaves_apart S (value.string s) (value.string t) p q e = ap value.string (quoted_apart s t p.1 q.1 e)
leaves_apart S a b p q e = let t : leaf_type a ≡ leaf_type b = p.0 ∙ sym q.0 in absurd (cc)

-- the test of texts is the test of values
pub leaf_tests : (S : Simple) (a b : Leaf) → IsLeafOf S a → IsLeafOf S b → bytes_eq (leaf_text a) (leaf_text b) ≡ leaf_eq a b
leaf_tests S a b p q = elim (cases_Bool (bytes_eq (leaf_text a) (leaf_text b))) [
  | inl t ↦ t ∙ sym (equal a b (leaves_apart S a b p q ((bytes_eq-Decides (leaf_text a) (leaf_text b)).0 t)))
  | inr f ↦ f ∙ sym (unequal a b f)
]
  where
    equal : (a b : Leaf) → a ≡ b → leaf_eq a b ≡ true
    equal a b e = ap (leaf_eq a) (sym e) ∙ leaf_eq-self a

    unequal : (a b : Leaf) → bytes_eq (leaf_text a) (leaf_text b) ≡ false → leaf_eq a b ≡ false
    unequal a b f = elim (cases_Bool (leaf_eq a b)) [
      | inl t ↦ let u = (bytes_eq-Decides (leaf_text a) (leaf_text b)).1 (ap leaf_text (leaf_eq-true a b t)) in cc
      | inr g ↦ g
    ]
