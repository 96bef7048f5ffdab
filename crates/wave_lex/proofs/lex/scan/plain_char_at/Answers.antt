use Rattle.std.proofs.Common.{◌≡◌, ℕ, ◌≤◌, ◌<◌, ◌+◌, List, ◌++◌, Some, arith, refl, sym, ap, subst, length, ◌∙◌}
use Rattle.std.specs.Prelude.{◌≢◌, ◌||◌, Bool, true, not, nat_eq, encode_utf8, codes}
use Rattle.std.proofs.lemmas.Bool.Decides.{nat_tests}
use Rattle.std.proofs.lemmas.Str.{encode_ascii}
use Rattle.wave_lex.specs.Regex.{Regex, empty}
use Rattle.wave_lex.specs.Derive.{derivative, derivative_by}
use Rattle.wave_lex.specs.LongestMatch.{Greatest, IsPrefixOf}
use Rattle.wave_lex.specs.Tokens.{character}
use Rattle.wave_lex.proofs.Machines.Steps.{follows}
use Rattle.wave_lex.proofs.QuickScan.Prefixes.{empty_prefix, scalar_behind}
use Rattle.wave_lex.proofs.lex.scan.plain_char_at.Goals as goal

-- what may follow the first quote
abbrev opened : Regex
opened = derivative_by (codes "'") character

-- what may follow the scalar
abbrev filled : Regex
filled = derivative_by (codes "'a") character

-- a scalar that stands for itself
abbrev is_plain : ℕ → Bool
is_plain c = not (nat_eq c 92 || nat_eq c 39 || nat_eq c 10)

plain_past : (c : ℕ) → 128 ≤ c → is_plain c ≡ true
plain_past c l = grind (arith, nat_tests)

plain_there : (c : ℕ) → c ≢ 92 → c ≢ 39 → c ≢ 10 → is_plain c ≡ true
plain_there c e f g = grind (arith, nat_tests)

-- one scalar that stands for itself, between its quotes, is the char
quoted : (s a b t : List ℕ) (o c e : ℕ) → s ≡ encode_utf8 o ++ a → o ≡ 39 → a ≡ encode_utf8 c ++ b → c ≢ 92 → c ≢ 39 → c ≢ 10 → b ≡ encode_utf8 e ++ t → e ≡ 39 → Greatest (IsPrefixOf character s) (Some (length (encode_utf8 c) + 2))
quoted s a b t o c e first opens second f g h third closes =
    let small : 39 < 128 = omega arith in
    let one : length (encode_utf8 39) ≡ 1 = ap length (encode_ascii 39 small) in
    let before : length (encode_utf8 o) ≡ 1 = ap (λ (z : ℕ). length (encode_utf8 z)) opens ∙ one in
    let behind : length (encode_utf8 e) ≡ 1 = ap (λ (z : ℕ). length (encode_utf8 z)) closes ∙ one in
    let all : length (encode_utf8 o) + (length (encode_utf8 c) + (length (encode_utf8 e) + 0)) ≡ length (encode_utf8 c) + 2 = omega arith in
    subst (λ (z : ℕ). Greatest (IsPrefixOf character s) (Some z)) all
    (scalar_behind character opened s a o _ first (ap (λ (z : ℕ). derivative z character) opens)
    (scalar_behind opened filled a b c _ second (follows is_plain opened filled refl refl plain_past c (plain_there c f g h))
    (scalar_behind filled empty b t e 0 third (ap (λ (z : ℕ). derivative z filled) closes)
    (empty_prefix t))))

pub returns : goal.returns
returns c = rw c.len_utf8.ensures.len
    (quoted _ _ _ _ _ _ _ (sym c.chars-scalars.ensures.rest ∙ c.in_ok-next.ensures.steps.0) c.if-branch-ne39.false c.in_ok-scalar.ensures.steps.0 (omega arith) (omega arith) (omega arith)
    c.in_ok-next-2.ensures.steps.0 c.if-branch-ne39-2.false)
