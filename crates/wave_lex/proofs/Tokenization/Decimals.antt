-- The decimal text of a natural number is a number token, after a `-` too where it isn't 0.
use Rattle.std.proofs.Common.{◌≡◌, ℕ, ◌≤◌, ◌<◌, ◌+◌, ◌/◌, ◌%◌, ◌^◌, true, nat_lt, zero, suc, List, [], ◌∷◌, ◌++◌, refl, sym, ap, subst, ◌∙◌, arith}
use Rattle.std.specs.Fmt.{decimal}
use Rattle.std.proofs.lemmas.Fmt.{decimal_by_steps}
use Rattle.std.proofs.lemmas.Bool.Decides.{nat_tests}
use Rattle.std.proofs.lemmas.Bool.{and_parts}
use Rattle.wave_lex.specs.declared.machine.Start.TheVariants.{WholePart}
use Rattle.wave_lex.specs.Regex.{Matches}
use Rattle.wave_lex.specs.Derive.{nullable, derivative, derivative_by}
use Rattle.wave_lex.specs.Tokens.{number}
use Rattle.wave_lex.specs.Machines.{rest, is_digit}
use Rattle.wave_lex.specs.Private.Machines.{after_sign}
use Rattle.wave_lex.proofs.RegularShapes.Derivatives.{matches_from}
use Rattle.wave_lex.proofs.LongestPrefix.ByComputing.{is_ascii}
use Rattle.wave_lex.proofs.LongestPrefix.MachineWalks.{after_all_append}
use Rattle.wave_lex.proofs.QuickScan.ByteRuns.{is_nonzero, nonzero_begins, digit_stays}

-- what holds of the decimal text of a number
record IsDecimal (n : ℕ) (ds : List ℕ) : Type 0 where
  ascii : is_ascii ds ≡ true
  nought : n ≡ 0 → ds ≡ 48 ∷ []
  plain : 0 < n → derivative_by ds (after_sign 0) ≡ rest WholePart
  negative : 0 < n → derivative_by ds (after_sign 1) ≡ rest WholePart

ascii_more : (ds : List ℕ) (b : ℕ) → nat_lt b 128 ≡ true → is_ascii ds ≡ true → is_ascii (ds ++ b ∷ []) ≡ true
ascii_more [] b small h = rw small refl
ascii_more (d ∷ ds) b small h =
    let p : (nat_lt d 128 ≡ true) × (is_ascii ds ≡ true) = and_parts _ _ h in rw (p.0, ascii_more ds b small p.1) refl

one_digit : (n : ℕ) → n < 10 → IsDecimal n ((48 + n) ∷ [])
one_digit n l = record {
  ascii = let e : nat_lt (48 + n) 128 ≡ true = grind (arith, nat_tests) in rw e refl;
  nought = λ e. ap (λ (z : ℕ). (48 + z) ∷ []) e;
  plain = λ some. nonzero_begins 0 (48 + n) (let e : is_nonzero (48 + n) ≡ true = grind (arith, nat_tests) in e);
  negative = λ some. nonzero_begins 1 (48 + n) (let e : is_nonzero (48 + n) ≡ true = grind (arith, nat_tests) in e);
}

-- after a digit another
whole_more : (d : ℕ) → d < 10 → derivative (48 + d) (rest WholePart) ≡ rest WholePart
whole_more d l = digit_stays (48 + d) (let e : is_digit (48 + d) ≡ true = grind (arith, nat_tests) in e)

more_digits : (n : ℕ) (ds : List ℕ) → 10 ≤ n → IsDecimal (n / 10) ds → IsDecimal n (ds ++ ((48 + n % 10) ∷ []))
more_digits n ds l h =
    let small : n % 10 < 10 = omega arith in
    let there : 0 < n / 10 = omega arith in record {
      ascii = ascii_more ds (48 + n % 10) (let e : nat_lt (48 + n % 10) 128 ≡ true = grind (arith, nat_tests) in e) h.ascii;
      nought = λ e. absurd (omega arith);
      plain = λ some. after_all_append ds ((48 + n % 10) ∷ []) (after_sign 0) ∙ (ap (derivative (48 + n % 10)) (h.plain there) ∙ whole_more (n % 10) small);
      negative = λ some. after_all_append ds ((48 + n % 10) ∷ []) (after_sign 1) ∙ (ap (derivative (48 + n % 10)) (h.negative there) ∙ whole_more (n % 10) small);
    }

is_decimal : (n : ℕ) → n < 2 ^ 64 → IsDecimal n (decimal n)
is_decimal n l = decimal_by_steps IsDecimal one_digit more_digits n l

-- the text is ASCII
pub decimal_ascii : (n : ℕ) → n < 2 ^ 64 → is_ascii (decimal n) ≡ true
decimal_ascii n l = (is_decimal n l).ascii

-- the text is a number
pub decimal_number : (n : ℕ) → n < 2 ^ 64 → Matches number (decimal n)
decimal_number zero l = subst (λ (z : List ℕ). Matches number z) (sym ((is_decimal zero l).nought refl)) (matches_from (48 ∷ []) number refl)
decimal_number (suc n) l = matches_from (decimal (suc n)) number (ap nullable ((is_decimal (suc n) l).plain (omega arith)))

-- so is it after a `-`
pub negative_number : (n : ℕ) → suc n < 2 ^ 64 → Matches number (45 ∷ decimal (suc n))
negative_number n l = matches_from (45 ∷ decimal (suc n)) number (ap nullable ((is_decimal (suc n) l).negative (omega arith)))
