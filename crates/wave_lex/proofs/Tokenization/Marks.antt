-- A mark is known by its byte.
use Rattle.std.proofs.Common.{◌≡◌, ℕ, ◌<◌, ◌≢◌, get_or, List, [], ◌∷◌, ◌++◌, sym, ap, subst, ◌∙◌, length, drop, arith, nat_eq, true, false, inl, inr, refl, Option, Some, None}
use Rattle.std.specs.Prelude.{◌-◌, ◌||◌, IfSome, codes, encode_utf8}
use Rattle.std.proofs.lemmas.Bool.{eqb-true, or_cases}
use Rattle.std.proofs.lemmas.Str.{encode_ascii}
use Rattle.wave_lex.specs.declared.lex.TheConstants.{MARKS}
use Rattle.wave_lex.specs.declared.lex.Token.{Token}
use Rattle.wave_lex.specs.declared.lex.Token.TheVariants.{BraceOpen, BraceClose, ParenOpen, ParenClose, BracketOpen, BracketClose, Colon, Comma}
use Rattle.wave_lex.specs.Regex.{Regex}
use Rattle.wave_lex.specs.LongestMatch.{Greatest, IsPrefixOf}
use Rattle.wave_lex.specs.Tokens.{shape, one}
use Rattle.wave_lex.specs.Tokenization.{MayStandAt, IsLongestToken}
use Rattle.wave_lex.specs.Classes.{class_of, ClassAt}
use Rattle.wave_lex.specs.Private.Reading.{IsMark, IsFirstMark}
use Rattle.wave_lex.proofs.Tokenization.Classes.{class_here, not_quoted}
use Rattle.wave_lex.proofs.QuickScan.ByteRuns.{mark_here, no_whitespace}
use Rattle.wave_lex.proofs.RegularShapes.Comparisons.{each_below_at}

-- the mark that a digit numbers; no other byte has the digit
abbrev pub mark_numbered : ℕ → ℕ
mark_numbered d = get_or (codes "{}()[]:,") (d - 48) 0

-- the table has a digit at the mark that it numbers alone, by computing
pub numbered : (b d : ℕ) → b < 256 → get_or MARKS b 0 ≡ d → nat_eq d 46 ≡ false → b ≡ mark_numbered d
numbered b d l e f =
    elim (or_cases (nat_eq (get_or MARKS b 0) 46) (nat_eq b (mark_numbered (get_or MARKS b 0))) (each_below_at 256 b (λ (k : ℕ). nat_eq (get_or MARKS k 0) 46 || nat_eq k (mark_numbered (get_or MARKS k 0))) refl l)) as (λ _. b ≡ mark_numbered d) [
      | inl t ↦ let wrong : true ≡ false = sym t ∙ (ap (λ (z : ℕ). nat_eq z 46) e ∙ f) in cc
      | inr t ↦ eqb-true _ _ t ∙ ap mark_numbered e
    ]

-- no mark is a blank, a slash or a quote
mark_bounds : (m : ℕ) (c : Token) → IsMark m c → (m < 128) × (32 < m) × (m ≢ 47) × (m ≢ 34)
mark_bounds m BraceOpen e = (omega arith, omega arith, λ q. omega arith, λ q. omega arith)
mark_bounds m BraceClose e = (omega arith, omega arith, λ q. omega arith, λ q. omega arith)
mark_bounds m ParenOpen e = (omega arith, omega arith, λ q. omega arith, λ q. omega arith)
mark_bounds m ParenClose e = (omega arith, omega arith, λ q. omega arith, λ q. omega arith)
mark_bounds m BracketOpen e = (omega arith, omega arith, λ q. omega arith, λ q. omega arith)
mark_bounds m BracketClose e = (omega arith, omega arith, λ q. omega arith, λ q. omega arith)
mark_bounds m Colon e = (omega arith, omega arith, λ q. omega arith, λ q. omega arith)
mark_bounds m Comma e = (omega arith, omega arith, λ q. omega arith, λ q. omega arith)
mark_bounds m _ e = absurd e

-- the shape of its class is the mark alone
mark_shape : (m : ℕ) (c : Token) → IsMark m c → one m ≡ shape c
mark_shape m BraceOpen e = ap one e
mark_shape m BraceClose e = ap one e
mark_shape m ParenOpen e = ap one e
mark_shape m ParenClose e = ap one e
mark_shape m BracketOpen e = ap one e
mark_shape m BracketClose e = ap one e
mark_shape m Colon e = ap one e
mark_shape m Comma e = ap one e
mark_shape m _ e = absurd e

-- it shows its class
mark_class : (m : ℕ) (c : Token) → IsMark m c → Some c ≡ class_of m
mark_class m BraceOpen e = ap class_of (sym e)
mark_class m BraceClose e = ap class_of (sym e)
mark_class m ParenOpen e = ap class_of (sym e)
mark_class m ParenClose e = ap class_of (sym e)
mark_class m BracketOpen e = ap class_of (sym e)
mark_class m BracketClose e = ap class_of (sym e)
mark_class m Colon e = ap class_of (sym e)
mark_class m Comma e = ap class_of (sym e)
mark_class m _ e = absurd e

-- it may stand at any place
mark_stands : (m : ℕ) (c : Token) (s : List ℕ) → IsMark m c → MayStandAt s 1 c
mark_stands m BraceOpen s e = tt
mark_stands m BraceClose s e = tt
mark_stands m ParenOpen s e = tt
mark_stands m ParenClose s e = tt
mark_stands m BracketOpen s e = tt
mark_stands m BracketClose s e = tt
mark_stands m Colon s e = tt
mark_stands m Comma s e = tt
mark_stands m _ s e = absurd e

-- a list with a first element is that one and the others
pub first_then : (s : List ℕ) (m : ℕ) → 0 < length s → get_or s 0 0 ≡ m → s ≡ m ∷ drop 1 s
first_then [] m l e = let w : ⊥ = omega arith in absurd w
first_then (a ∷ s) m l e = ap (λ (z : ℕ). z ∷ s) e

-- a mark at the start is the longest token there
pub mark_token : (m : ℕ) (c : Token) (s b : List ℕ) → IsMark m c → b ≡ s → 0 < length b → get_or b 0 0 ≡ m → IsLongestToken s 1 c
mark_token m c s b mark e l f =
    let bounds = mark_bounds m c mark in
    let prefix = subst (λ (z : Regex). Greatest (IsPrefixOf z s) (Some 1)) (mark_shape m c mark) (mark_here s b m e bounds.0 l f) in
    let at : s ≡ encode_utf8 m ++ drop 1 s =
    subst (λ (z : List ℕ). z ≡ encode_utf8 m ++ drop 1 z) e (first_then b m l f ∙ ap (λ (z : List ℕ). z ++ drop 1 b) (sym (encode_ascii m bounds.0))) in
    let there : ClassAt s (Some c) = class_here s (drop 1 s) m (Some c) at (not_quoted s (drop 1 s) m at bounds.3) (mark_class m c mark) in
    record { is = (prefix.0, mark_stands m c s mark); longest = λ j d t. prefix.1 j (subst (λ (z : Token). IsPrefixOf (shape z) s j) (there.0 j d t) t.0) }

-- and no whitespace stands before it
pub first_mark_here : (m : ℕ) (o : Option Token) (s b : List ℕ) → IfSome o (IsMark m) → b ≡ s → 0 < length b → get_or b 0 0 ≡ m → IfSome o (IsFirstMark s)
first_mark_here m None s b mark e l f = tt
first_mark_here m (Some c) s b mark e l f =
    let bounds = mark_bounds m c mark in
    (no_whitespace s b e (omega (arith, bounds.1)) (λ q. bounds.2 (sym f ∙ q)), mark_token m c s b mark e l f)
