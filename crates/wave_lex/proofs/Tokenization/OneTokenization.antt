-- A text is tokenized in one way.
use Rattle.std.proofs.Common.{◌≡◌, ℕ, ◌≤◌, ◌<◌, ◌+◌, Bool, true, false, List, [], ◌∷◌, ◌++◌, inl, refl, sym, ap, subst, ◌∙◌, length, take, drop, arith, Option, Some, None, length-drop, append_assoc}
use Rattle.std.specs.Prelude.{encode_utf8, encode_utf8_all}
use Rattle.std.proofs.lemmas.List.{take-append-drop}
use Rattle.wave_lex.specs.declared.lex.Token.{Token}
use Rattle.wave_lex.specs.declared.lex.Token.TheVariants.{LabelOrKeyword, MultilineString}
use Rattle.wave_lex.specs.Regex.{Matches}
use Rattle.wave_lex.specs.Tokens.{shape}
use Rattle.wave_lex.specs.Tokenization.{three_quotes, IsToken, NoToken, IsLongestToken, IsWhitespace, Lexeme, Prefix, OneTokenization, NoLongerLabel}
use Rattle.wave_lex.specs.Classes.{ClassAt, class_of}
use Rattle.wave_lex.proofs.RegularShapes.Derivatives.{empty_into}
use Rattle.wave_lex.proofs.RegularShapes.Comparisons.{same_list, same_list_true}
use Rattle.wave_lex.proofs.Tokenization.Classes.{class_here, class_quoted, shape_not_empty}
use Rattle.wave_lex.proofs.LongestPrefix.ByComputing.{prefix_positive, is_ascii, no_prefix, no_prefix_here}
use Rattle.wave_lex.specs.LongestMatch.{IsPrefixOf}

-- a token has a first scalar
first_scalar : (r cs : List ℕ) (k : ℕ) (c : Token) → encode_utf8_all cs ≡ take k r → Matches (shape c) cs → (x : ℕ) × (rest : List ℕ) × (r ≡ encode_utf8 x ++ rest)
first_scalar r [] k c e h = let wrong : false ≡ true = sym (shape_not_empty c) ∙ empty_into (shape c) h in cc
first_scalar r (y ∷ ds) k c e h = (
  y,
  encode_utf8_all ds ++ drop k r,
  sym (take-append-drop k r) ∙ (ap (λ (z : List ℕ). z ++ drop k r) (sym e) ∙ append_assoc (encode_utf8 y) (encode_utf8_all ds) (drop k r)),
)

-- at each place one class stands
class_there : (r rest : List ℕ) (x : ℕ) (b : Bool) → r ≡ encode_utf8 x ++ rest → same_list (take 3 r) three_quotes ≡ b → (o : Option Token) × ClassAt r o
class_there r rest x true w e = (
  Some MultilineString,
  class_quoted r (drop 3 r)
      (sym (take-append-drop 3 r) ∙ ap (λ (z : List ℕ). z ++ drop 3 r) (same_list_true (take 3 r) three_quotes e)),
)
class_there r rest x false w e = (
  class_of x,
  class_here r rest x (class_of x) w
      (λ more q. let wrong : true ≡ false = sym (ap (λ (z : List ℕ). same_list (take 3 z) three_quotes) q) ∙ e in cc) refl,
)

-- two tokens at one place lie in one class, where it is known
one_of_class : (r : List ℕ) (o : Option Token) (k j : ℕ) (c d : Token) → ClassAt r o → IsToken r k c → IsToken r j d → c ≡ d
one_of_class r None k j c d h t u = absurd (h k c t)
one_of_class r (Some a) k j c d h t u = h.0 k c t ∙ sym (h.0 j d u)

-- two tokens at one place lie in one class
pub one_class : (r : List ℕ) (k j : ℕ) (c d : Token) → IsToken r k c → IsToken r j d → c ≡ d
one_class r k j c d t u =
    let f = first_scalar r t.0.scalars k c t.0.spelled t.0.has in
    let w = class_there r f.1 f.0 (same_list (take 3 r) three_quotes) f.2 refl in
    one_of_class r w.0 k j c d w.1 t u

-- whitespace at one place has one length
pub same_whitespace : (s : List ℕ) (g h : ℕ) → IsWhitespace s g → IsWhitespace s h → g ≡ h
same_whitespace s g h a b = let x : h ≤ g = a.1 h b.0 in let y : g ≤ h = b.1 g a.0 in omega arith

-- where only whitespace is left, no token stands after it
pub no_token_left : (s : List ℕ) (g k : ℕ) (c : Token) → IsWhitespace s (length s) → IsWhitespace s g → IsLongestToken (drop g s) k c → ⊥
no_token_left s g k c a b t =
    let all : g ≡ length s = same_whitespace s g (length s) b a in
    let some : 0 < k = prefix_positive (shape c) (drop g s) k (shape_not_empty c) t.is.0 in
    let fits : k ≤ length (drop g s) = t.is.0.fits in
    omega (arith, length-drop g s)

-- two lists of tokens with one head and one tail are one
same_lexemes : (t u : Lexeme) (ts us : List Lexeme) → t.0 ≡ u.0 → t.1 ≡ u.1 → ts ≡ us → t ∷ ts ≡ u ∷ us
same_lexemes (a, x) (b, y) ts us p q r = cc

-- two tokenizations of one text are one
same_cut : (s : List ℕ) (ts us : List Lexeme) (r q : List ℕ) → Prefix s ts r → IsWhitespace r (length r) → Prefix s us q → IsWhitespace q (length q) → ts ≡ us
same_cut s [] [] r q f a g b = refl
same_cut s [] (u ∷ us) r q f a g b = absurd (no_token_left s g.0 g.1 u.0 (subst (λ (z : List ℕ). IsWhitespace z (length z)) (sym f) a) g.2 g.3)
same_cut s (t ∷ ts) [] r q f a g b = absurd (no_token_left s f.0 f.1 t.0 (subst (λ (z : List ℕ). IsWhitespace z (length z)) (sym g) b) f.2 f.3)
same_cut s (t ∷ ts) (u ∷ us) r q f a g b =
    let whitespaces : g.0 ≡ f.0 = same_whitespace s g.0 f.0 g.2 f.2 in
    let there : IsLongestToken (drop f.0 s) g.1 u.0 = subst (λ (z : ℕ). IsLongestToken (drop z s) g.1 u.0) whitespaces g.3 in
    let x : g.1 ≤ f.1 = f.3.longest g.1 u.0 there.is in
    let y : f.1 ≤ g.1 = there.longest f.1 t.0 f.3.is in
    let sizes : g.1 ≡ f.1 = omega arith in
    let class : t.0 ≡ u.0 = one_class (drop f.0 s) f.1 g.1 t.0 u.0 f.3.is there.is in
    let text : t.1 ≡ u.1 = f.4 ∙ sym (g.4 ∙ (ap (λ (z : ℕ). take g.1 (drop z s)) whitespaces ∙ ap (λ (z : ℕ). take z (drop f.0 s)) sizes)) in
    let rest : Prefix (drop (f.0 + f.1) s) us q = subst (λ (z : ℕ). Prefix (drop (f.0 + z) s) us q) sizes (subst (λ (z : ℕ). Prefix (drop (z + g.1) s) us q) whitespaces g.5) in
    let tail : ts ≡ us = same_cut (drop (f.0 + f.1) s) ts us r q f.5 a rest b in
    same_lexemes t u ts us class text tail

-- no text is tokenized in two ways
pub cuts_once : OneTokenization
cuts_once s ts us a b = same_cut s ts us a.0 b.0 a.1 a.2 b.1 b.2

-- where three quotes are no multiline string, no token stands at them
pub no_token_quoted : (r rest : List ℕ) → r ≡ three_quotes ++ rest → is_ascii r ≡ true → no_prefix (shape MultilineString) r ≡ true → NoToken r
no_token_quoted r rest b h e k c t =
    let same : c ≡ MultilineString = (class_quoted r rest b).0 k c t in
    no_prefix_here (shape MultilineString) r h e k (subst (λ z. IsPrefixOf (shape z) r k) same t.0)

-- a label is no longer than the token that stands at its place
pub no_longer_label : NoLongerLabel
no_longer_label r k j c t f = t.longest j LabelOrKeyword (record { scalars = f.scalars; fits = f.fits; spelled = f.spelled; has = ([], f.scalars, refl, inl refl, f.has) }, tt)
