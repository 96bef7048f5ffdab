-- The number of digits grows with each of them.
use Rattle.std.proofs.Common.{ℕ, zero, suc, ◌+◌, ◌-◌, ◌*◌, ◌^◌, ◌≤◌, ◌<◌, ◌≡◌, Bool, true, false, List, [], ◌∷◌, length, get_or, drop, Option, Some, None, sym, ap, ◌∙◌, refl, lit<, arith}
use Rattle.std.proofs.Math.Nat.{pow-le-pow_right}
use Rattle.wave_grammar.specs.NumberText.{digits, all_digits}
use Rattle.wave_grammar.specs.Private.NumberText.{IsMagnitude}

-- after a digit the number goes on
passed : (b : Bool) (x : Option ℕ) (n : ℕ) → elim b [ true ↦ x | false ↦ None ] ≡ Some n → x ≡ Some n
passed true x n e = e
passed false x n e = absurd (cc)

abbrev number_or : ℕ → Option ℕ → ℕ
number_or k None = k
number_or k (Some n) = n

-- the number is no less than that of the digits before
grows : (ds : List ℕ) (m n : ℕ) → digits m ds ≡ Some n → m ≤ n
grows [] m n e = omega (arith, ap (number_or 0) e)
grows (d ∷ ds) m n e = omega (arith, grows ds (m * 10 + (d - 48)) n (passed _ _ n e))

-- nor than that with the next digit
grows_at : (ds : List ℕ) (i m n : ℕ) → i < length ds → digits m (drop i ds) ≡ Some n → m * 10 + (get_or ds i 0 - 48) ≤ n
grows_at [] i m n lt e = absurd (omega (arith, lt))
grows_at (d ∷ ds) zero m n lt e = grows ds (m * 10 + (d - 48)) n (passed _ _ n e)
grows_at (d ∷ ds) (suc i) m n lt e = grows_at ds i m n (omega (arith, lt)) e

-- at least one digit
whole : (ds : List ℕ) (i : ℕ) → i < length ds → all_digits ds ≡ digits 0 ds
whole [] i lt = absurd (omega (arith, lt))
whole (d ∷ ds) i lt = refl

-- with the next digit the number is too great
pub too_great : (ds : List ℕ) (i m : ℕ) → i < length ds → digits 0 ds ≡ digits m (drop i ds) → 2 ^ 64 ≤ m * 10 + (get_or ds i 0 - 48) → IsMagnitude ds None
too_great ds i m lt so_far great = λ n e.
    let after : digits m (drop i ds) ≡ Some n = sym so_far ∙ (sym (whole ds i lt) ∙ e) in
    omega (arith, grows_at ds i m n lt after)

-- up to the 18th, each power of 10 is at most that one
pub lower_power : (i : ℕ) → i ≤ 18 → 10 ^ i ≤ 10 ^ 18
lower_power i few = pow-le-pow_right (lit< tt) few
