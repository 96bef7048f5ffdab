-- Shapes that are compared by computing, and numbers that are tried one by one.
use Rattle.std.proofs.Common.{◌≡◌, ℕ, ◌≤◌, ◌<◌, Bool, true, false, cond, nat_eq, nat_lt, List, [], ◌∷◌, refl, sym, ap, ◌∙◌, arith}
use Rattle.std.specs.Prelude.{◌&&◌}
use Rattle.std.specs.Bool.{beq}
use Rattle.std.proofs.lemmas.Bool.{eqb-true, ltb-true, and_parts}
use Rattle.std.proofs.lemmas.Bool.Decides.{nat_tests}
pub use Rattle.wave_wasm.proofs.EachNumber.{each_below, each_below_at}
use Rattle.wave_wasm.proofs.EachNumber.{tests_agree}
use Rattle.wave_lex.specs.Regex.{Regex, nothing, empty, range, except, seq, alt, star, is_one_of, is_within}
use Rattle.wave_lex.specs.Derive.{derivative, join, choice, nullable}

-- a scalar from c to c is c
pub one_is : (c d : ℕ) → is_within c c d ≡ true → d ≡ c
one_is c d e = grind (arith, nat_tests)

-- two lists are equal, by computing
abbrev pub same_list : List ℕ → List ℕ → Bool
same_list [] [] = true
same_list [] (b ∷ bs) = false
same_list (a ∷ as1) [] = false
same_list (a ∷ as1) (b ∷ bs) = nat_eq a b && same_list as1 bs

-- two shapes are equal, by computing
abbrev pub same : Regex → Regex → Bool
same nothing nothing = true
same empty empty = true
same (range a b) (range c d) = nat_eq a c && nat_eq b d
same (except a) (except b) = same_list a b
same (seq a b) (seq c d) = same a c && same b d
same (alt a b) (alt c d) = same a c && same b d
same (star a) (star b) = same a b
same p q = false

-- lists that pass the test are equal
pub same_list_true : (a b : List ℕ) → same_list a b ≡ true → a ≡ b
same_list_true [] [] e = refl
same_list_true [] (b ∷ bs) e = cc
same_list_true (a ∷ x) [] e = cc
same_list_true (a ∷ x) (b ∷ y) e = let h : (nat_eq a b ≡ true) × (same_list x y ≡ true) = and_parts _ _ e in
    let i : a ≡ b = eqb-true a b h.0 in
    let j : x ≡ y = same_list_true x y h.1 in cc

-- shapes that pass the test are equal
pub same_true : (p q : Regex) → same p q ≡ true → p ≡ q
same_true nothing nothing e = refl
same_true empty empty e = refl
same_true (range a b) (range c d) e = let h : (nat_eq a c ≡ true) × (nat_eq b d ≡ true) = and_parts _ _ e in
    let i : a ≡ c = eqb-true a c h.0 in let j : b ≡ d = eqb-true b d h.1 in cc
same_true (except a) (except b) e = ap except (same_list_true a b e)
same_true (seq a b) (seq c d) e = let h : (same a c ≡ true) × (same b d ≡ true) = and_parts _ _ e in
    let i : a ≡ c = same_true a c h.0 in let j : b ≡ d = same_true b d h.1 in cc
same_true (alt a b) (alt c d) e = let h : (same a c ≡ true) × (same b d ≡ true) = and_parts _ _ e in
    let i : a ≡ c = same_true a c h.0 in let j : b ≡ d = same_true b d h.1 in cc
same_true (star a) (star b) e = ap star (same_true a b e)
same_true p q e = cc

-- tests that agree on each byte, by computing, agree
pub bytes_agree : (p q : ℕ → Bool) (b : ℕ) → b < 256 → each_below 256 (λ k. beq (p k) (q k)) ≡ true → p b ≡ q b
bytes_agree p q b l computed = tests_agree 256 p q b l computed

-- the shape tells no scalar past ASCII apart from another
abbrev pub all_ascii : List ℕ → Bool
all_ascii [] = true
all_ascii (d ∷ ds) = nat_lt d 128 && all_ascii ds

-- the shape tells no scalar past ASCII apart from another
abbrev pub is_ascii_shape : Regex → Bool
is_ascii_shape nothing = true
is_ascii_shape empty = true
is_ascii_shape (range lo hi) = nat_lt hi 128
is_ascii_shape (except cs) = all_ascii cs
is_ascii_shape (seq p q) = is_ascii_shape p && is_ascii_shape q
is_ascii_shape (alt p q) = is_ascii_shape p && is_ascii_shape q
is_ascii_shape (star p) = is_ascii_shape p

-- a scalar past ASCII lies in no range of ASCII
pub outside : (lo hi c : ℕ) → hi < 128 → 128 ≤ c → is_within lo hi c ≡ false
outside lo hi c h k = grind (arith, nat_tests)

-- a scalar past ASCII is none of some ASCII
none_of : (cs : List ℕ) (c : ℕ) → all_ascii cs ≡ true → 128 ≤ c → is_one_of c cs ≡ false
none_of [] c e k = refl
none_of (d ∷ ds) c e k =
    let h : (nat_lt d 128 ≡ true) × (all_ascii ds ≡ true) = and_parts _ _ e in
    let a : d < 128 = ltb-true d 128 h.0 in
    let b : nat_eq c d ≡ false = grind (arith, nat_tests) in
    rw (b, none_of ds c h.1 k) refl

-- all scalars past ASCII are followed by one shape
pub after_past : (r : Regex) (c d : ℕ) → is_ascii_shape r ≡ true → 128 ≤ c → 128 ≤ d → derivative c r ≡ derivative d r
after_past nothing c d e k l = refl
after_past empty c d e k l = refl
after_past (range lo hi) c d e k l =
    let a : hi < 128 = ltb-true hi 128 e in
    let x : is_within lo hi c ≡ false = outside lo hi c a k in
    let y : is_within lo hi d ≡ false = outside lo hi d a l in
    ap (λ (z : Bool). cond z empty nothing) (x ∙ sym y)
after_past (except cs) c d e k l = ap (λ (z : Bool). cond z nothing empty) (none_of cs c e k ∙ sym (none_of cs d e l))
after_past (seq p q) c d e k l =
    let h : (is_ascii_shape p ≡ true) × (is_ascii_shape q ≡ true) = and_parts _ _ e in
    ap (λ (z : Regex). choice (join z q) (cond (nullable p) (derivative c q) nothing)) (after_past p c d h.0 k l)
    ∙ ap (λ (z : Regex). choice (join (derivative d p) q) (cond (nullable p) z nothing)) (after_past q c d h.1 k l)
after_past (alt p q) c d e k l =
    let h : (is_ascii_shape p ≡ true) × (is_ascii_shape q ≡ true) = and_parts _ _ e in
    ap (λ (z : Regex). choice z (derivative c q)) (after_past p c d h.0 k l) ∙ ap (λ (z : Regex). choice (derivative d p) z) (after_past q c d h.1 k l)
after_past (star p) c d e k l = ap (λ (z : Regex). join z (star p)) (after_past p c d e k l)
