-- Which whole number the text of a number token is.
use Rattle.std.specs.Prelude.{ℕ, ℤ, pos, neg_ℤ, ◌≡◌, ◌+◌, ◌-◌, ◌*◌, ◌==◌}
use Rattle.std.specs.Prelude.{nat_le, ◌&&◌, true, false, if◌then◌else◌, List, [], ◌∷◌, Option, Some, None, option_map}
use Rattle.wave_wasm.specs.Types.{Whole}
use Rattle.wave_wasm.specs.Numbers.{is_signed, IsInRange}

-- the number that decimal digits stand for, after those that stand for n; none where another byte stands among them
abbrev pub digits : ℕ → List ℕ → Option ℕ
digits n [] = Some n
digits n (d ∷ ds) = elim (nat_le 48 d && nat_le d 57) [ true ↦ digits (n * 10 + (d - 48)) ds | false ↦ None ]

-- the number of at least one digit
abbrev pub all_digits : List ℕ → Option ℕ
all_digits [] = None
all_digits (d ∷ ds) = digits 0 (d ∷ ds)

-- the number of digits alone
abbrev pub unsigned_text : List ℕ → Option ℤ
unsigned_text text = option_map pos (all_digits text)

-- the number of digits, perhaps after a minus
abbrev pub signed_text : List ℕ → Option ℤ
signed_text [] = None
signed_text (b ∷ bs) = if b == 45 then option_map (λ n. neg_ℤ (pos n)) (all_digits bs) else unsigned_text (b ∷ bs)

-- the text as a whole number: no fraction, no exponent, no word, and a minus only where the type is signed
abbrev pub whole_text : Whole → List ℕ → Option ℤ
whole_text kind text = if is_signed kind then signed_text text else unsigned_text text

-- the text is a number of the type, and this one; or it is none
abbrev pub IsNumberOf : Whole → List ℕ → Option ℤ → Type 0
IsNumberOf kind text (Some z) = (whole_text kind text ≡ Some z) × IsInRange kind z
IsNumberOf kind text None = (z : ℤ) → whole_text kind text ≡ Some z → IsInRange kind z → ⊥
