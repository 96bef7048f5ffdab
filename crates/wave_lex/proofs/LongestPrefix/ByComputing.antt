-- Fronts that are found by computing, in a text of ASCII.
use Rattle.std.proofs.Common.{◌≡◌, ℕ, ◌≤◌, ◌<◌, ◌+◌, Bool, true, false, nat_le, nat_lt, not, zero, suc, List, [], ◌∷◌, ◌++◌, refl, sym, ap, subst, ◌∙◌, length, take, arith, Some, length-take-le, length-append}
use Rattle.std.specs.Prelude.{◌&&◌, ◌||◌, encode_utf8, encode_utf8_all}
use Rattle.std.proofs.lemmas.Bool.{ltb-true, leb-true, and_parts}
use Rattle.std.proofs.lemmas.Str.{encode_same, encode_ascii, len_utf8_bounds, length-encode}
use Rattle.wave_lex.specs.declared.lex.Token.{Token}
use Rattle.wave_lex.specs.declared.lex.Token.TheVariants.{BraceOpen, BraceClose, ParenOpen, ParenClose, BracketOpen, BracketClose, Colon, Comma, Number, LabelOrKeyword, Char, String, MultilineString}
use Rattle.wave_lex.specs.Regex.{Regex, Matches}
use Rattle.wave_lex.specs.Derive.{nullable, derivative_by}
use Rattle.wave_lex.specs.LongestMatch.{Greatest, IsPrefixOf}
use Rattle.wave_lex.specs.Tokens.{shape}
use Rattle.wave_lex.specs.Tokenization.{MayStandAt, IsLongestToken, NoToken}
use Rattle.wave_lex.proofs.RegularShapes.Derivatives.{matches_from, matches_into, empty_into}
use Rattle.wave_lex.proofs.RegularShapes.Comparisons.{each_below, each_below_at}

-- a text of a shape that is never empty has a byte
positive : (r : Regex) (s : List ℕ) (k : ℕ) (cs : List ℕ) → nullable r ≡ false → k ≤ length s → encode_utf8_all cs ≡ take k s → Matches r cs → 0 < k
positive r s k [] e l spelled h = let wrong : true ≡ false = sym (empty_into r h) ∙ e in cc
positive r s k (c ∷ cs) e l spelled h =
    let a : length (encode_utf8_all (c ∷ cs)) ≡ k = ap length spelled ∙ length-take-le k s l in
    let b = len_utf8_bounds c in
    omega (arith, length-append (encode_utf8 c) (encode_utf8_all cs), length-encode c, b.0)

-- a prefix of a shape that no empty text has takes a byte at least

-- a prefix of a shape that is never empty has a byte
pub prefix_positive : (r : Regex) (s : List ℕ) (k : ℕ) → nullable r ≡ false → IsPrefixOf r s k → 0 < k
prefix_positive r s k e f = positive r s k f.scalars e f.fits f.spelled f.has

-- what is left gets less

-- each byte is ASCII
abbrev pub is_ascii : List ℕ → Bool
is_ascii [] = true
is_ascii (b ∷ s) = nat_lt b 128 && is_ascii s

-- a prefix of ASCII is ASCII
ascii_take : (k : ℕ) (s : List ℕ) → is_ascii s ≡ true → is_ascii (take k s) ≡ true
ascii_take zero s h = refl
ascii_take (suc k) [] h = refl
ascii_take (suc k) (b ∷ s) h = let p : (nat_lt b 128 ≡ true) × (is_ascii s ≡ true) = and_parts _ _ h in
    let q : is_ascii (take k s) ≡ true = ascii_take k s p.1 in cc

-- ASCII stands for itself
pub ascii_spelled : (s : List ℕ) → is_ascii s ≡ true → encode_utf8_all s ≡ s
ascii_spelled [] h = refl
ascii_spelled (b ∷ s) h = let p : (nat_lt b 128 ≡ true) × (is_ascii s ≡ true) = and_parts _ _ h in
    let q : encode_utf8 b ≡ b ∷ [] = encode_ascii b (ltb-true b 128 p.0) in
    ap (λ (z : List ℕ). z ++ encode_utf8_all s) q ∙ ap (λ (z : List ℕ). b ∷ z) (ascii_spelled s p.1)

-- what is spelled in ASCII is that ASCII
ascii_scalars : (cs s : List ℕ) → is_ascii s ≡ true → encode_utf8_all cs ≡ s → cs ≡ s
ascii_scalars [] s h e = e
ascii_scalars (y ∷ ds) [] h e =
    let n : length (encode_utf8 y ++ encode_utf8_all ds) ≡ 0 = ap length e in
    let w : ⊥ = omega (arith, n, length-append (encode_utf8 y) (encode_utf8_all ds), length-encode y, len_utf8_bounds y) in absurd w
ascii_scalars (y ∷ ds) (b ∷ s) h e =
    let p : (nat_lt b 128 ≡ true) × (is_ascii s ≡ true) = and_parts _ _ h in
    let q : encode_utf8 b ≡ b ∷ [] = encode_ascii b (ltb-true b 128 p.0) in
    let w = encode_same y b (encode_utf8_all ds) s (e ∙ sym (ap (λ (z : List ℕ). z ++ s) q)) in
    let t : ds ≡ s = ascii_scalars ds s p.1 w.1 in
    let u : y ≡ b = w.0 in cc

-- the first k bytes have the shape, by computing
abbrev pub has_prefix : Regex → List ℕ → ℕ → Bool
has_prefix r s k = nullable (derivative_by (take k s) r)

-- no longer prefix than of k bytes has the shape, by computing
abbrev pub no_longer : Regex → List ℕ → ℕ → Bool
no_longer r s k = each_below (length s + 1) (λ j. nat_le j k || not (has_prefix r s j))

-- no prefix has the shape, by computing
abbrev pub no_prefix : Regex → List ℕ → Bool
no_prefix r s = each_below (length s + 1) (λ j. not (has_prefix r s j))

-- a prefix of the shape passes the test
prefix_computed : (r : Regex) (s : List ℕ) (k : ℕ) → is_ascii s ≡ true → IsPrefixOf r s k → has_prefix r s k ≡ true
prefix_computed r s k h f =
    let same : f.scalars ≡ take k s = ascii_scalars f.scalars (take k s) (ascii_take k s h) f.spelled in
    matches_into (take k s) r (subst (λ (z : List ℕ). Matches r z) same f.has)

-- what passes the test is a prefix of the shape
pub prefix_here : (r : Regex) (s : List ℕ) (k : ℕ) → is_ascii s ≡ true → nat_le k (length s) ≡ true → has_prefix r s k ≡ true → IsPrefixOf r s k
prefix_here r s k h fits e = record { scalars = take k s; fits = leb-true k (length s) fits; spelled = ascii_spelled (take k s) (ascii_take k s h); has = matches_from (take k s) r e }

-- one of two holds where the other fails
pub or_not : (a b : Bool) → (a || not b) ≡ true → b ≡ true → a ≡ true
or_not true b e f = refl
or_not false true e f = cc
or_not false false e f = cc

-- no longer prefix has the shape
pub none_longer : (r : Regex) (s : List ℕ) (k : ℕ) → is_ascii s ≡ true → no_longer r s k ≡ true → (j : ℕ) → IsPrefixOf r s j → j ≤ k
none_longer r s k h e j f =
    let fits : j ≤ length s = f.fits in
    let l : j < length s + 1 = omega arith in
    let t = or_not (nat_le j k) (has_prefix r s j) (each_below_at (length s + 1) j (λ j. nat_le j k || not (has_prefix r s j)) e l) (prefix_computed r s j h f) in
    leb-true j k t

-- no prefix has the shape
pub no_prefix_here : (r : Regex) (s : List ℕ) → is_ascii s ≡ true → no_prefix r s ≡ true → (j : ℕ) → IsPrefixOf r s j → ⊥
no_prefix_here r s h e j f =
    let fits : j ≤ length s = f.fits in
    let l : j < length s + 1 = omega arith in
    let t = each_below_at (length s + 1) j (λ j. not (has_prefix r s j)) e l in
    let u = prefix_computed r s j h f in
    let wrong : false ≡ true = sym (ap not u) ∙ t in cc

-- the longest prefix, by computing
pub longest_here : (r : Regex) (s : List ℕ) (k : ℕ) → is_ascii s ≡ true → nat_le k (length s) ≡ true → has_prefix r s k ≡ true → no_longer r s k ≡ true → Greatest (IsPrefixOf r s) (Some k)
longest_here r s k h fits e f = (prefix_here r s k h fits e, none_longer r s k h f)

-- the test holds of each class
abbrev pub each_class : (Token → Bool) → Bool
each_class p = p BraceOpen && (p BraceClose && (p ParenOpen && (p ParenClose && (p BracketOpen && (p BracketClose && (p Colon && (p Comma && (p Number && (p LabelOrKeyword && (p Char && (p String && p MultilineString)))))))))))

-- what is tested of each class holds of one
each_class_at : (p : Token → Bool) → each_class p ≡ true → (c : Token) → p c ≡ true
each_class_at p e c =
    let a = and_parts _ _ e in let b = and_parts _ _ a.1 in let d = and_parts _ _ b.1 in let f = and_parts _ _ d.1 in
    let g = and_parts _ _ f.1 in let h = and_parts _ _ g.1 in let i = and_parts _ _ h.1 in let j = and_parts _ _ i.1 in
    let k = and_parts _ _ j.1 in let l = and_parts _ _ k.1 in let m = and_parts _ _ l.1 in let n = and_parts _ _ m.1 in
    of_class p c a.0 b.0 d.0 f.0 g.0 h.0 i.0 j.0 k.0 l.0 m.0 n.0 n.1
  where
    of_class : (p : Token → Bool) (c : Token) → p BraceOpen ≡ true → p BraceClose ≡ true → p ParenOpen ≡ true → p ParenClose ≡ true → p BracketOpen ≡ true → p BracketClose ≡ true → p Colon ≡ true → p Comma ≡ true → p Number ≡ true → p LabelOrKeyword ≡ true → p Char ≡ true → p String ≡ true → p MultilineString ≡ true → p c ≡ true
    of_class p BraceOpen a b d f g h i j k l m n o = a
    of_class p BraceClose a b d f g h i j k l m n o = b
    of_class p ParenOpen a b d f g h i j k l m n o = d
    of_class p ParenClose a b d f g h i j k l m n o = f
    of_class p BracketOpen a b d f g h i j k l m n o = g
    of_class p BracketClose a b d f g h i j k l m n o = h
    of_class p Colon a b d f g h i j k l m n o = i
    of_class p Comma a b d f g h i j k l m n o = j
    of_class p Number a b d f g h i j k l m n o = k
    of_class p LabelOrKeyword a b d f g h i j k l m n o = l
    of_class p Char a b d f g h i j k l m n o = m
    of_class p String a b d f g h i j k l m n o = n
    of_class p MultilineString a b d f g h i j k l m n o = o

-- the longest token, by computing
pub token_here : (r : List ℕ) (k : ℕ) (c : Token) → is_ascii r ≡ true → nat_le k (length r) ≡ true → has_prefix (shape c) r k ≡ true → MayStandAt r k c → each_class (λ d. no_longer (shape d) r k) ≡ true → IsLongestToken r k c
token_here r k c h fits e may longer = record {
  is = (prefix_here (shape c) r k h fits e, may);
  longest = λ j d t. none_longer (shape d) r k h (each_class_at (λ d. no_longer (shape d) r k) longer d) j t.0;
}

-- no token, by computing
pub no_token_here : (r : List ℕ) → is_ascii r ≡ true → each_class (λ d. no_prefix (shape d) r) ≡ true → NoToken r
no_token_here r h e k c t = no_prefix_here (shape c) r h (each_class_at (λ d. no_prefix (shape d) r) e c) k t.0
