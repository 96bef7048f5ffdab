-- The decimal text of a whole number is a number token, and stands for that number.
use Rattle.std.proofs.Common.{◌≡◌, ℕ, ℤ, pos, negsuc, ◌≤◌, ◌<◌, ◌+◌, ◌-◌, ◌*◌, ◌/◌, ◌%◌, ◌^◌, Bool, true, false, nat_le, nat_eq, suc, List, [], ◌∷◌, ◌++◌, refl, sym, ap, ◌∙◌, arith, Some, None}
use Rattle.std.specs.Prelude.{◌&&◌, option_map, neg_ℤ}
use Rattle.std.specs.Fmt.{decimal, signed_decimal}
use Rattle.std.proofs.lemmas.Fmt.{decimal_by_steps}
use Rattle.std.proofs.lemmas.Bool.Decides.{nat_tests}
use Rattle.wave_wasm.specs.Types.{Whole, s8, s16, s32, s64, u8, u16, u32, u64}
use Rattle.wave_wasm.specs.Numbers.{IsInRange, is_signed}
use Rattle.wave_lex.specs.Regex.{Matches}
use Rattle.wave_lex.specs.Tokens.{number}
use Rattle.wave_lex.specs.Machines.{is_digit}
use Rattle.std.proofs.lemmas.Int.{ints}
use Rattle.wave_lex.proofs.LongestPrefix.ByComputing.{is_ascii}
use Rattle.wave_lex.proofs.Tokenization.Decimals.{decimal_ascii, decimal_number, negative_number}
use Rattle.wave_grammar.specs.NumberText.{all_digits, digits, signed_text, whole_text}

-- ---- one more digit

-- a digit's byte is one
digit_test : (d : ℕ) → d < 10 → is_digit (48 + d) ≡ true
digit_test d l = grind (arith, nat_tests)

-- the number with one more digit after
digit_more : (ds : List ℕ) (a m d : ℕ) → d < 10 → digits a ds ≡ Some m → digits a (ds ++ (48 + d) ∷ []) ≡ Some (m * 10 + d)
digit_more [] a m d l e =
    let test : (nat_le 48 (48 + d) && nat_le (48 + d) 57) ≡ true = digit_test d l in
    let same : a ≡ m = cc in
    rw (test, digits) (ap Some (let f : a * 10 + (48 + d - 48) ≡ m * 10 + d = omega arith in f))
digit_more (b ∷ ds) a m d l e = more (nat_le 48 b && nat_le b 57) (digit_more ds (a * 10 + (b - 48)) m d l) e
  where
    more : (t : Bool) → (digits (a * 10 + (b - 48)) ds ≡ Some m → digits (a * 10 + (b - 48)) (ds ++ (48 + d) ∷ []) ≡ Some (m * 10 + d))
        → (elim t [ true ↦ digits (a * 10 + (b - 48)) ds | false ↦ None ]) ≡ Some m
        → (elim t [ true ↦ digits (a * 10 + (b - 48)) (ds ++ (48 + d) ∷ []) | false ↦ None ]) ≡ Some (m * 10 + d)
    more true step f = step f
    more false step f = cc

-- ---- the decimal text

-- the decimal text of a number has digits, and stands for it
record IsDecimal (n : ℕ) (ds : List ℕ) : Type 0 where
  value : digits 0 ds ≡ Some n
  some : (b : ℕ) × (bs : List ℕ) × (ds ≡ b ∷ bs)

one_digit : (n : ℕ) → n < 10 → IsDecimal n ((48 + n) ∷ [])
one_digit n l = record {
  value = digit_more [] 0 0 n l refl ∙ ap Some (let e : 0 * 10 + n ≡ n = omega arith in e);
  some = (48 + n, [], refl);
}

more_digits : (n : ℕ) (ds : List ℕ) → 10 ≤ n → IsDecimal (n / 10) ds → IsDecimal n (ds ++ ((48 + n % 10) ∷ []))
more_digits n ds l h = record {
  value = digit_more ds 0 (n / 10) (n % 10) (omega arith) h.value ∙ ap Some (let e : n / 10 * 10 + n % 10 ≡ n = omega arith in e);
  some = let (b, bs, e) = h.some in (b, bs ++ (48 + n % 10) ∷ [], ap (λ (z : List ℕ). z ++ (48 + n % 10) ∷ []) e);
}

is_decimal : (n : ℕ) → n < 2 ^ 64 → IsDecimal n (decimal n)
is_decimal n l = decimal_by_steps IsDecimal one_digit more_digits n l

-- ---- tokens

-- no digit is a minus
no_minus : (b : ℕ) (bs : List ℕ) (n : ℕ) → digits 0 (b ∷ bs) ≡ Some n → nat_eq b 45 ≡ false
no_minus b bs n e = test (nat_le 48 b && nat_le b 57) refl e
  where
    test : (t : Bool) → (nat_le 48 b && nat_le b 57) ≡ t → (elim t [ true ↦ digits (0 * 10 + (b - 48)) bs | false ↦ None ]) ≡ Some n → nat_eq b 45 ≡ false
    test true w f = grind (arith, nat_tests)
    test false w f = cc

all_value : (n : ℕ) (ds : List ℕ) → IsDecimal n ds → all_digits ds ≡ Some n
all_value n ds h = let (b, bs, e) = h.some in ap all_digits e ∙ (ap (digits 0) (sym e) ∙ h.value)

signed_plain : (n : ℕ) (ds : List ℕ) → IsDecimal n ds → signed_text ds ≡ Some (pos n)
signed_plain n ds h =
    let (b, bs, e) = h.some in
    let value : digits 0 (b ∷ bs) ≡ Some n = ap (digits 0) (sym e) ∙ h.value in
    let test : nat_eq b 45 ≡ false = no_minus b bs n value in
    ap signed_text e ∙ rw (test, value) refl

-- the text of a whole number is a number token of this value
pub record IsWritten (kind : Whole) (z : ℤ) : Type 0 where
  pub shaped : Matches number (signed_decimal z)
  pub ascii : is_ascii (signed_decimal z) ≡ true
  pub value : whole_text kind (signed_decimal z) ≡ Some z

written_plain : (kind : Whole) (n : ℕ) (signed : Bool) → is_signed kind ≡ signed → n < 2 ^ 64 → IsWritten kind (pos n)
written_plain kind n signed e l =
    record { shaped = decimal_number n l; ascii = decimal_ascii n l; value = text signed e }
  where
    text : (t : Bool) → is_signed kind ≡ t → whole_text kind (decimal n) ≡ Some (pos n)
    text true f = rw f (signed_plain n (decimal n) (is_decimal n l))
    text false f = rw f (ap (option_map pos) (all_value n (decimal n) (is_decimal n l)))

written_negative : (kind : Whole) (n : ℕ) → is_signed kind ≡ true → suc n < 2 ^ 64 → IsWritten kind (negsuc n)
written_negative kind n e l =
    record {
      shaped = negative_number n l;
      ascii = decimal_ascii (suc n) l;
      value = rw e (ap (option_map (λ (k : ℕ). neg_ℤ (pos k))) (all_value (suc n) (decimal (suc n)) (is_decimal (suc n) l)));
    }

pub is_written : (kind : Whole) (z : ℤ) → IsInRange kind z → IsWritten kind z
is_written s8 (pos n) h = written_plain s8 n true refl (omega (arith, ints))
is_written s8 (negsuc n) h = written_negative s8 n refl (omega (arith, ints))
is_written s16 (pos n) h = written_plain s16 n true refl (omega (arith, ints))
is_written s16 (negsuc n) h = written_negative s16 n refl (omega (arith, ints))
is_written s32 (pos n) h = written_plain s32 n true refl (omega (arith, ints))
is_written s32 (negsuc n) h = written_negative s32 n refl (omega (arith, ints))
is_written s64 (pos n) h = written_plain s64 n true refl (omega (arith, ints))
is_written s64 (negsuc n) h = written_negative s64 n refl (omega (arith, ints))
is_written u8 (pos n) h = written_plain u8 n false refl (omega (arith, ints))
is_written u8 (negsuc n) h = absurd (omega (arith, ints))
is_written u16 (pos n) h = written_plain u16 n false refl (omega (arith, ints))
is_written u16 (negsuc n) h = absurd (omega (arith, ints))
is_written u32 (pos n) h = written_plain u32 n false refl (omega (arith, ints))
is_written u32 (negsuc n) h = absurd (omega (arith, ints))
is_written u64 (pos n) h = written_plain u64 n false refl (omega (arith, ints))
is_written u64 (negsuc n) h = absurd (omega (arith, ints))
