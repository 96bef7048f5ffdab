-- The count that a token is, by what `parse` reads of it.
use Rattle.std.proofs.Common.{◌≡◌, ℕ, ◌<◌, Bool, true, false, List, Some, None, Result, Ok, Err, refl, sym, ap, subst, ◌∙◌, arith}
use Rattle.std.specs.Prelude.{◌&&◌, ◌^◌, nat_lt, if◌then◌else◌}
use Rattle.std.specs.Fmt.{decimal}
use Rattle.std.specs.Str.{bytes_eq}
use Rattle.std.specs.Str.Parse.{digits_value, ParsesUnsigned}
use Rattle.std.proofs.lemmas.Bool.{and_parts, and_from}
use Rattle.std.proofs.lemmas.Bool.Decides.{nat_tests}
use Rattle.std.proofs.lemmas.Fmt.{parse-decimal, decimal_is_IsNumeral}
use Rattle.std.proofs.lemmas.Slice.Eq.{bytes_eq-Decides}
use Rattle.wave_type.proofs.TypeReading.Sound.{below_back}
use Rattle.wave_type.specs.TypeWords.{count_of_token}

if_not : {A : Type 0} (b : Bool) (a : A) → (b ≡ true → ⊥) → None ≡ (if b then Some a else None)
if_not true a never = absurd (never refl)
if_not false a never = refl

if_so : {A : Type 0} (b : Bool) (a c : A) → b ≡ true → a ≡ c → Some c ≡ (if b then Some a else None)
if_so true a c h same = λ i. Some (sym same i)
if_so false a c h same = absurd (cc)

-- a count is parsed
parsed : {E : Type 0} (t : List ℕ) (r : Result ℕ E) → ParsesUnsigned 32 10 t r → (let n = digits_value 10 t in (bytes_eq t (decimal n) && nat_lt n (2 ^ 32)) ≡ true) → r ≡ Ok (digits_value 10 t)
parsed t r h e =
    let n = digits_value 10 t in
    let p = and_parts _ _ e in
    let small : n < 2 ^ 32 = below_back n (2 ^ 32) p.1 in
    parse-decimal 32 n t r small (omega arith) ((bytes_eq-Decides t (decimal n)).0 p.0) h

-- what isn't parsed is no count
pub unparsed_count : {E : Type 0} (t : List ℕ) (r : Result ℕ E) (e : E) → ParsesUnsigned 32 10 t r → r ≡ Err e → None ≡ count_of_token t
unparsed_count t r e h is = if_not _ _ (λ h1. let wrong : Err e ≡ Ok (digits_value 10 t) = sym is ∙ parsed t r h h1 in cc)

-- what is parsed, but is written otherwise, is none
pub other_count : {E : Type 0} (t : List ℕ) (r : Result ℕ E) (n : ℕ) → ParsesUnsigned 32 10 t r → r ≡ Ok n → bytes_eq (decimal n) t ≡ false → None ≡ count_of_token t
other_count t r n h is other =
    if_not _ _ (λ h1.
    let same : Ok n ≡ Ok (digits_value 10 t) = sym is ∙ parsed t r h h1 in
    let one : n ≡ digits_value 10 t = cc in
    let spelled = (bytes_eq-Decides t (decimal (digits_value 10 t))).0 (and_parts _ _ h1).0 in
    let wrong : true ≡ false = sym ((bytes_eq-Decides (decimal n) t).1 (ap decimal one ∙ sym spelled)) ∙ other in
    cc)

-- what is parsed is small
pub parsed_small : {E : Type 0} (t : List ℕ) (r : Result ℕ E) (n : ℕ) → ParsesUnsigned 32 10 t r → r ≡ Ok n → n < 2 ^ 32
parsed_small t r n h is = let p = subst (ParsesUnsigned 32 10 t) is h in omega (arith, p.0.1, p.1)

-- and what is written so is
pub same_count : (t : List ℕ) (n : ℕ) → n < 2 ^ 32 → bytes_eq (decimal n) t ≡ true → Some n ≡ count_of_token t
same_count t n small h =
    let is : decimal n ≡ t = (bytes_eq-Decides (decimal n) t).0 h in
    let value : digits_value 10 t ≡ n = ap (digits_value 10) (sym is) ∙ (decimal_is_IsNumeral n (omega arith)).1 in
    let spelled : bytes_eq t (decimal (digits_value 10 t)) ≡ true = (bytes_eq-Decides t (decimal (digits_value 10 t))).1 (sym is ∙ ap decimal (sym value)) in
    let below : nat_lt (digits_value 10 t) (2 ^ 32) ≡ true = grind (arith, nat_tests) in
    if_so _ (digits_value 10 t) n (and_from _ _ spelled below) value
