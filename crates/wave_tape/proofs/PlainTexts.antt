-- Texts of bytes that stand for themselves between quotes.
use Rattle.std.proofs.Common.{◌≡◌, ◌<◌, ◌≤◌, ℕ, zero, suc, List, [], ◌∷◌, ◌++◌, true, length, get_or, refl, ap, subst, ◌∙◌, arith, codes, nat_eq}
use Rattle.std.specs.List.{flat_map}
use Rattle.std.specs.Str.{IsAscii}
use Rattle.std.proofs.lemmas.Str.{chars-IsAscii}
use Rattle.std.proofs.lemmas.Bool.{cases_lt}
use Rattle.std.proofs.lemmas.List.{get_or_past}
use Rattle.std.proofs.Common.{inl, inr}
use Rattle.wave_tape.specs.declared.plain.TheConstants.{PLAINS}
use Rattle.wave_wasm.specs.Text.{escaped, quoted}
use Rattle.wave_wasm.specs.TextParts.{is_plain_byte}
use Rattle.wave_wasm.proofs.EachNumber.{tests_agree}
use Rattle.wave_writer.proofs.Escapes.PlainBytes.{plain_below, plain_escaped}

-- the table of bytes
pub plain_table : (b : ℕ) → b < 256 → nat_eq (get_or PLAINS b 0) 46 ≡ is_plain_byte b
plain_table b l = tests_agree 256 (λ k. nat_eq (get_or PLAINS k 0) 46) is_plain_byte b l refl

abbrev ArePlain : List ℕ → Type 0
ArePlain s = (i : ℕ) → i < length s → is_plain_byte (get_or s i 0) ≡ true

escaped_plain : (s : List ℕ) → ArePlain s → flat_map escaped s ≡ s
escaped_plain [] h = refl
escaped_plain (b ∷ s) h =
    let lt : zero < length (b ∷ s) = omega arith in
    ap (λ (e : List ℕ). e ++ flat_map escaped s) (plain_escaped b (h zero lt)) ∙ ap (λ (l : List ℕ). b ∷ l) (escaped_plain s (λ i lt. h (suc i) (omega (arith, lt))))

plain_ascii : (s : List ℕ) → ArePlain s → IsAscii s
plain_ascii s h i =
    elim (cases_lt i (length s)) [
      | inl lt ↦ let k = plain_below (get_or s i 0) (h i lt) in omega (arith, k)
      | inr le ↦ rw (get_or_past s i 0 le) (omega arith)
    ]

-- a text of plain bytes between quotes
pub plain_quoted : (s bytes : List ℕ) (n : ℕ) → bytes ≡ s → length s ≤ n → ((i : ℕ) → i < n → is_plain_byte (get_or bytes i 0) ≡ true) → quoted s ≡ codes "\"" ++ (s ++ codes "\"")
plain_quoted s bytes n same long h =
    let plain : ArePlain s = λ i lt. subst (λ (l : List ℕ). is_plain_byte (get_or l i 0) ≡ true) same (h i (omega (arith, lt, long))) in
    ap (λ (l : List ℕ). codes "\"" ++ (flat_map escaped l ++ codes "\"")) (chars-IsAscii s (plain_ascii s plain)) ∙ ap (λ (l : List ℕ). codes "\"" ++ (l ++ codes "\"")) (escaped_plain s plain)
