-- A number of a type, by its text.
use Rattle.std.proofs.Common.{◌≡◌, ℕ, ℤ, pos, negsuc, ◌^◌, ◌<◌, nat_lt, rules, tests, Bool, true, List, Option, Some, None, refl, ap, inl, inr, if◌then◌else◌, arith}
use Rattle.std.proofs.lemmas.Bool.{cases_Bool}
use Rattle.std.proofs.lemmas.Int.{ints}
use Rattle.std.specs.Prelude.{option_and_then}
use Rattle.wave_wasm.specs.Numbers.{IsInRange, IsSignedWithin, IsUnsignedWithin}
use Rattle.wave_wasm.specs.Types.{Whole, s8, s16, s32, s64, u8, u16, u32, u64}
use Rattle.wave_grammar.specs.NumberText.{IsNumberOf, whole_text}
use Rattle.wave_json.specs.Reading.{is_in_range, is_signed_within, is_unsigned_within, whole_of}

-- the test says so
pub below_of : (n m : ℕ) → nat_lt n m ≡ true → n < m
below_of n m h = search (rules, tests)

signed_in : (half : ℕ) (z : ℤ) → is_signed_within half z ≡ true → IsSignedWithin half z
signed_in half (pos n) h = let lt = below_of n half h in (omega (arith, ints, lt), omega (arith, ints, lt))
signed_in half (negsuc n) h = let lt = below_of n half h in (omega (arith, ints, lt), omega (arith, ints, lt))

unsigned_in : (end : ℕ) (z : ℤ) → is_unsigned_within end z ≡ true → IsUnsignedWithin end z
unsigned_in end (pos n) h = let lt = below_of n end h in (omega (arith, ints, lt), omega (arith, ints, lt))
unsigned_in end (negsuc n) h = absurd (cc)

in_range : (kind : Whole) (z : ℤ) → is_in_range kind z ≡ true → IsInRange kind z
in_range s8 z h = signed_in (2 ^ 7) z h
in_range s16 z h = signed_in (2 ^ 15) z h
in_range s32 z h = signed_in (2 ^ 31) z h
in_range s64 z h = signed_in (2 ^ 63) z h
in_range u8 z h = unsigned_in (2 ^ 8) z h
in_range u16 z h = unsigned_in (2 ^ 16) z h
in_range u32 z h = unsigned_in (2 ^ 32) z h
in_range u64 z h = unsigned_in (2 ^ 64) z h

-- no number of the type is the text's
pub no_number : (kind : Whole) (s : List ℕ) → IsNumberOf kind s None → whole_of kind s ≡ None
no_number kind s none = by (whole_text kind s) (λ z e. none z e)
  where
    by : (o : Option ℤ) → ((z : ℤ) → o ≡ Some z → IsInRange kind z → ⊥) → option_and_then (λ (z : ℤ). if is_in_range kind z then Some z else None) o ≡ None
    by None h = refl
    by (Some z) h = elim (cases_Bool (is_in_range kind z)) [
      | inl t ↦ absurd (h z refl (in_range kind z t))
      | inr f ↦ ap (λ (b : Bool). if b then Some z else None) f
    ]
