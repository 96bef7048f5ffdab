-- Bytes of ASCII that stand for themselves between quotes.
use Rattle.std.proofs.Common.{ℕ, ◌≡◌, ◌<◌, [], ◌∷◌, Bool, true, false, refl, arith, get_or, nat_eq, bytes_eq}
use Rattle.std.specs.Prelude.{not, ◌||◌}
use Rattle.std.specs.Bool.{beq}
use Rattle.std.specs.Char.{is_ascii, is_ascii_control}
use Rattle.std.proofs.lemmas.Bool.Decides.{nat_tests}
use Rattle.std.proofs.lemmas.Slice.Eq.{bytes_eq-Decides}
use Rattle.ucd_category.proofs.Computing.{ucd_category}
use Rattle.wave_wasm.proofs.EachNumber.{each_below, each_below_at, tests_agree}
use Rattle.wave_writer.specs.declared.plain.TheConstants.{PLAINS}
use Rattle.wave_wasm.specs.Text.{escaped, is_escaped}
use Rattle.wave_wasm.specs.TextParts.{is_plain_byte}

where_true : (a b : Bool) → (not a || b) ≡ true → a ≡ true → b ≡ true
where_true true b e f = e
where_true false b e f = cc

-- by computing
plain_computed : each_below 127 (λ b. not (is_plain_byte b) || bytes_eq (escaped b) (b ∷ [])) ≡ true
unfolding escaped ucd_category lib.Utf8.encode
plain_computed = refl

-- a plain byte is ASCII
pub plain_below : (b : ℕ) → is_plain_byte b ≡ true → b < 127
plain_below b e = grind (arith, nat_tests)

-- and it is written as it is
pub plain_escaped : (b : ℕ) → is_plain_byte b ≡ true → escaped b ≡ b ∷ []
plain_escaped b e = (bytes_eq-Decides (escaped b) (b ∷ [])).0 (where_true _ _ (each_below_at 127 b (λ x. not (is_plain_byte x) || bytes_eq (escaped x) (x ∷ [])) plain_computed (plain_below b e)) e)

-- the table of bytes
pub plain_table : (b : ℕ) → b < 256 → nat_eq (get_or PLAINS b 0) 46 ≡ is_plain_byte b
plain_table b l = tests_agree 256 (λ k. nat_eq (get_or PLAINS k 0) 46) is_plain_byte b l refl

controls_computed : each_below 128 (λ c. beq (is_ascii_control c) (is_escaped c)) ≡ true
unfolding ucd_category
controls_computed = refl

-- of ASCII the controls are written by their numbers
pub controls_escaped : (c : ℕ) → is_ascii c ≡ true → is_ascii_control c ≡ is_escaped c
controls_escaped c e = tests_agree 128 is_ascii_control is_escaped c (grind (arith, nat_tests)) controls_computed
