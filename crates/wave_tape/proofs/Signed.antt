-- Numbers of a signed type fit its width, and so their bits are read again.
use Rattle.std.proofs.Common.{◌≡◌, ◌<◌, ◌^◌, ℕ, ℤ, pos, negsuc, [], ◌∷◌, sym, ap, ◌∙◌, arith}
use Rattle.std.specs.Int.{Width, w8, w16, w32, w64, to_le_bytes, cast_unsigned, cast_signed}
use Rattle.std.proofs.lemmas.Int.{ints, to_z-of_z, of_z-to_z}
use mir.Val.{SFits, bits}
use mir.ValLaws.{of_z_fits}
use Rattle.wave_wasm.specs.Numbers.{IsInRange}
use Rattle.wave_wasm.specs.Types as type
use Rattle.wave_tape.proofs.Puts.{byte_is}

pub fits8 : (z : ℤ) → IsInRange type.s8 z → SFits w8 z
fits8 (pos n) h = record { sfits = omega (arith, ints) }
fits8 (negsuc n) h = record { sfits = omega (arith, ints) }

pub fits16 : (z : ℤ) → IsInRange type.s16 z → SFits w16 z
fits16 (pos n) h = record { sfits = omega (arith, ints) }
fits16 (negsuc n) h = record { sfits = omega (arith, ints) }

pub fits32 : (z : ℤ) → IsInRange type.s32 z → SFits w32 z
fits32 (pos n) h = record { sfits = omega (arith, ints) }
fits32 (negsuc n) h = record { sfits = omega (arith, ints) }

pub fits64 : (z : ℤ) → IsInRange type.s64 z → SFits w64 z
fits64 (pos n) h = record { sfits = omega (arith, ints) }
fits64 (negsuc n) h = record { sfits = omega (arith, ints) }

-- the bytes of the bits of a signed number, as the code makes them
pub signed_bytes : (w : Width) (z : ℤ) → SFits w z → to_le_bytes w (cast_unsigned w z) ≡ to_le_bytes w (cast_unsigned w (cast_signed w (cast_unsigned w z)))
signed_bytes w z f = ap (λ (y : ℤ). to_le_bytes w (cast_unsigned w y)) (sym (to_z-of_z w z f))

-- the signed reading of bits, as the code hands it over
pub signed_read : (w : Width) (n : ℕ) (z : ℤ) → n < 2 ^ bits w → z ≡ cast_signed w n → cast_signed w n ≡ cast_signed w (cast_unsigned w z)
signed_read w n z lt e = ap (cast_signed w) (sym (of_z-to_z w n lt)) ∙ ap (λ (y : ℤ). cast_signed w (cast_unsigned w y)) (sym e)

pub signed_byte : (z : ℤ) → SFits w8 z → to_le_bytes w8 (cast_unsigned w8 z) ≡ cast_unsigned w8 (cast_signed w8 (cast_unsigned w8 z)) ∷ []
signed_byte z f =
    let small = (of_z_fits w8 z f).fits in
    byte_is (cast_unsigned w8 z) (omega (arith, small)) ∙ ap (λ (y : ℤ). cast_unsigned w8 y ∷ []) (sym (to_z-of_z w8 z f))
