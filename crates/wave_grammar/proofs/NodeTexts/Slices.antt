-- How a slice of a source is tokenized: into the tokens that stand there.
use Rattle.std.proofs.Common.{◌≡◌, ℕ, ◌≤◌, ◌+◌, ◌-◌, inl, inr, true, false, List, [], ◌∷◌, ◌++◌, refl, sym, ap, subst, ◌∙◌, length, take, drop, arith, Some, None, Ok, append_assoc, map}
use Rattle.wave_wasm.specs.Lists.{AllOf}
use Rattle.std.specs.Prelude.{◌⊎◌, encode_utf8, encode_utf8_all, slice_range}
use Rattle.std.proofs.lemmas.List.{take-append-drop, take-take, drop-drop, drop-take, length-take, length-take-le}
use Rattle.wave_lex.specs.declared.lex.Token as lex
use Rattle.wave_lex.specs.declared.lex.Token.TheVariants.{BraceOpen, BraceClose, ParenOpen, ParenClose, BracketOpen, BracketClose, Colon, Comma, Number, LabelOrKeyword, Char, String, MultilineString}
use Rattle.wave_lex.specs.LongestMatch.{IsPrefixOf}
use Rattle.wave_lex.specs.Regex.{Regex, alt, seq, empty, Matches, joined}
use Rattle.wave_lex.specs.Tokens.{shape, whitespace, blank, comment_text, one}
use Rattle.wave_lex.specs.Tokenization.{three_quotes, MayStandAt, IsToken, IsLongestToken, IsWhitespace, Lexeme, Prefix, remainder_of}
use Rattle.wave_lex.specs.Classes.{class_of}
use Rattle.wave_lex.proofs.RegularShapes.Derivatives.{empty_from, empty_into}
use Rattle.wave_lex.proofs.RegularShapes.Comparisons.{one_is}
use Rattle.wave_lex.proofs.Tokenization.Classes.{no_string, token_shows}
use Rattle.wave_lex.proofs.Tokenization.OneTokenization.{one_class}
use Rattle.wave_grammar.specs.Token.{Token, lexeme_of}
use Rattle.wave_grammar.specs.ParserPosition.{Place, TakesItem, TakesTokens, token_of, text_at}

-- ---- prefixes within a beginning of a text

-- a prefix is one of each beginning that has it
prefix_cut : (p : Regex) (r : List ℕ) (k n : ℕ) → k ≤ n → IsPrefixOf p r k → IsPrefixOf p (take n r) k
prefix_cut p r k n l f = record {
  scalars = f.scalars;
  fits = (let a = length-take n r in let b = f.fits in omega (arith, a, b, l));
  spelled = f.spelled ∙ sym (take-take k n r l);
  has = f.has;
}

-- a prefix of a beginning is one of the text
prefix_uncut : (p : Regex) (r : List ℕ) (k n : ℕ) → IsPrefixOf p (take n r) k → IsPrefixOf p r k
prefix_uncut p r k n f =
    let a = length-take n r in
    let b = f.fits in
    let c : k ≤ n = omega (arith, a, b) in
    record { scalars = f.scalars; fits = omega (arith, a, b); spelled = f.spelled ∙ take-take k n r c; has = f.has }

-- the whitespace before a token is that of each beginning that has it
pub whitespace_cut : (s : List ℕ) (g n : ℕ) → g ≤ n → IsWhitespace s g → IsWhitespace (take n s) g
whitespace_cut s g n l h = (prefix_cut whitespace s g n l h.0, λ j f. h.1 j (prefix_uncut whitespace s j n f))

-- no whitespace stands at a beginning either
pub whitespace_zero : (r : List ℕ) (n : ℕ) → IsWhitespace r 0 → IsWhitespace (take n r) 0
whitespace_zero r n h = whitespace_cut r 0 n (omega arith) h

may_cut : (c : lex.Token) (r : List ℕ) (k n : ℕ) → MayStandAt r k c → MayStandAt (take n r) k c
may_cut String r k n h = λ e q. h e (three q)
  where
    three : take 3 (take n r) ≡ three_quotes → take 3 r ≡ three_quotes
    three q =
        let a : length (take 3 (take n r)) ≡ 3 = ap length q in
        let b = length-take 3 (take n r) in
        let c = length-take n r in
        let d : 3 ≤ n = omega (arith, a, b, c) in
        sym (take-take 3 n r d) ∙ q
may_cut c r k n h = tt

may_uncut : (c : lex.Token) (r : List ℕ) (k j : ℕ) → IsToken r k c → MayStandAt r j c
may_uncut String r k j t = λ e q. no_string r (drop 3 r) k (sym (ap (λ z. z ++ drop 3 r) (sym q) ∙ take-append-drop 3 r)) t
may_uncut c r k j t = tt

-- the longest token is that of each beginning that has it
token_cut : (r : List ℕ) (k n : ℕ) (c : lex.Token) → k ≤ n → IsLongestToken r k c → IsLongestToken (take n r) k c
token_cut r k n c l t =
    let here : IsToken (take n r) k c = (prefix_cut (shape c) r k n l t.is.0, may_cut c r k n t.is.1) in
    record {
      is = here;
      longest = λ j d u.
          let same : d ≡ c = one_class (take n r) j k d c u here in
          let prefix : IsPrefixOf (shape c) r j = prefix_uncut (shape c) r j n (subst (λ z. IsPrefixOf (shape z) (take n r) j) same u.0) in
          t.longest j c (prefix, may_uncut c r k j t.is);
    }

-- ---- no whitespace stands where a token does

-- scalars that begin whitespace
abbrev BeginsWhitespace : ℕ → Type 0
BeginsWhitespace x = (x ≡ 32) ⊎ (x ≡ 9) ⊎ (x ≡ 10) ⊎ (x ≡ 13) ⊎ (x ≡ 47)

no_class : (x : ℕ) → BeginsWhitespace x → class_of x ≡ None
no_class x (inl e) = ap class_of e
no_class x (inr (inl e)) = ap class_of e
no_class x (inr (inr (inl e))) = ap class_of e
no_class x (inr (inr (inr (inl e)))) = ap class_of e
no_class x (inr (inr (inr (inr e)))) = ap class_of e

blank_begins : (x : ℕ) (cs : List ℕ) → Matches blank (x ∷ cs) → BeginsWhitespace x
blank_begins x cs (inl (c, e, w)) = let f : x ≡ c = cc in inl (f ∙ one_is 32 c w)
blank_begins x cs (inr (inl (c, e, w))) = let f : x ≡ c = cc in inr (inl (f ∙ one_is 9 c w))
blank_begins x cs (inr (inr (inl (c, e, w)))) = let f : x ≡ c = cc in inr (inr (inl (f ∙ one_is 10 c w)))
blank_begins x cs (inr (inr (inr (c, e, w)))) = let f : x ≡ c = cc in inr (inr (inr (inl (f ∙ one_is 13 c w))))

comment_begins : (x : ℕ) (cs : List ℕ) → Matches comment_text (x ∷ cs) → BeginsWhitespace x
comment_begins x cs (a, b, e, (a1, a2, e1, (c, e2, w), more), rest) = let f : x ≡ c = cc in inr (inr (inr (inr (f ∙ one_is 47 c w))))

-- the parts of whitespace
abbrev part : Regex
part = alt blank (seq comment_text (one 10))

part_begins : (x : ℕ) (cs : List ℕ) → Matches part (x ∷ cs) → BeginsWhitespace x
part_begins x cs (inl h) = blank_begins x cs h
part_begins x cs (inr ([], b, e, h, k)) = absurd (no_comment h)
  where
    no_comment : Matches comment_text [] → ⊥
    no_comment h = let wrong : false ≡ true = empty_into comment_text h in cc
part_begins x cs (inr (y ∷ ys, b, e, h, k)) = let f : x ≡ y = cc in subst BeginsWhitespace (sym f) (comment_begins y ys h)

parts_begin : (x : ℕ) (cs : List ℕ) (parts : List (List ℕ)) (more : List ℕ) → AllOf (Matches part) parts → Matches (alt empty comment_text) more → x ∷ cs ≡ joined parts ++ more → BeginsWhitespace x
parts_begin x cs [] more h (inl k) e = absurd (let wrong : x ∷ cs ≡ [] = e ∙ k in cc)
parts_begin x cs [] more h (inr k) e = comment_begins x cs (subst (Matches comment_text) (sym e) k)
parts_begin x cs ([] ∷ parts) more (h, hs) k e = absurd (let wrong : false ≡ true = empty_into part h in cc)
parts_begin x cs ((y ∷ ys) ∷ parts) more (h, hs) k e = let f : x ≡ y = cc in subst BeginsWhitespace (sym f) (part_begins y ys h)

whitespace_begins : (x : ℕ) (cs : List ℕ) → Matches whitespace (x ∷ cs) → BeginsWhitespace x
whitespace_begins x cs (a, more, e, (parts, f, each), k) = parts_begin x cs parts more each k (e ∙ ap (λ z. z ++ more) f)

whitespace_empty : (r : List ℕ) (k : ℕ) (c : lex.Token) → IsToken r k c → (j : ℕ) (cs : List ℕ) → j ≤ length r → encode_utf8_all cs ≡ take j r → Matches whitespace cs → j ≤ 0
whitespace_empty r k c t j [] l e h = let a : 0 ≡ length (take j r) = ap length e in let b = length-take-le j r l in omega (arith, a, b)
whitespace_empty r k c t j (x ∷ cs) l e h =
    let begins : r ≡ encode_utf8 x ++ (encode_utf8_all cs ++ drop j r) =
    sym (take-append-drop j r) ∙ (ap (λ z. z ++ drop j r) (sym e) ∙ append_assoc (encode_utf8 x) (encode_utf8_all cs) (drop j r)) in
    let shown = token_shows r (encode_utf8_all cs ++ drop j r) k x c begins t in
    let none = no_class x (whitespace_begins x cs h) in
    absurd (let wrong : None ≡ Some _ = sym none ∙ shown in cc)

-- where a token stands there is no whitespace
pub whitespace_none : (r : List ℕ) (k : ℕ) (c : lex.Token) → IsToken r k c → IsWhitespace r 0
whitespace_none r k c t = (record { scalars = []; fits = omega arith; spelled = refl; has = empty_from whitespace refl }, λ j f. whitespace_empty r k c t j f.scalars f.fits f.spelled f.has)

-- ---- tokens by their class and text

-- the text of a mark
mark_text : (m : ℕ) (r : List ℕ) (k : ℕ) → encode_utf8_all (m ∷ []) ≡ m ∷ [] → IsPrefixOf (one m) r k → m ∷ [] ≡ take k r
mark_text m r k a f =
    let (c, e, w) = f.has in
    let same : c ≡ m = one_is m c w in
    sym (ap encode_utf8_all (e ∙ ap (λ z. z ∷ []) same) ∙ a) ∙ f.spelled

-- a token is its class and its text
pub lexeme_is : (c : lex.Token) (r : List ℕ) (k : ℕ) → IsToken r k c → lexeme_of (token_of c (take k r)) ≡ (c, take k r)
unfolding lib.Utf8.encode
lexeme_is BraceOpen r k t = ap (λ z. (BraceOpen, z)) (mark_text 123 r k refl t.0)
lexeme_is BraceClose r k t = ap (λ z. (BraceClose, z)) (mark_text 125 r k refl t.0)
lexeme_is ParenOpen r k t = ap (λ z. (ParenOpen, z)) (mark_text 40 r k refl t.0)
lexeme_is ParenClose r k t = ap (λ z. (ParenClose, z)) (mark_text 41 r k refl t.0)
lexeme_is BracketOpen r k t = ap (λ z. (BracketOpen, z)) (mark_text 91 r k refl t.0)
lexeme_is BracketClose r k t = ap (λ z. (BracketClose, z)) (mark_text 93 r k refl t.0)
lexeme_is Colon r k t = ap (λ z. (Colon, z)) (mark_text 58 r k refl t.0)
lexeme_is Comma r k t = ap (λ z. (Comma, z)) (mark_text 44 r k refl t.0)
lexeme_is Number r k t = refl
lexeme_is LabelOrKeyword r k t = refl
lexeme_is Char r k t = refl
lexeme_is String r k t = refl
lexeme_is MultilineString r k t = refl

-- ---- tokens that a parser takes

-- what one taken token is in the source
pub record Taken (p q : Place) (c : lex.Token) : Type 0 where
  pub g : ℕ
  pub k : ℕ
  pub source : q.lexer.source ≡ p.lexer.source
  pub whitespace_is : IsWhitespace (remainder_of p.lexer) g
  pub token_is : IsLongestToken (drop g (remainder_of p.lexer)) k c
  pub start : q.lexer.start ≡ p.lexer.end + g
  pub end : q.lexer.end ≡ p.lexer.end + g + k
  pub text : text_at q ≡ take k (drop g (remainder_of p.lexer))
  pub left : remainder_of q.lexer ≡ drop (g + k) (remainder_of p.lexer)

pub taken_is : (p q : Place) (c : lex.Token) → TakesItem p (Some (Ok c)) q → Taken p q c
taken_is p q c ((g, k, h, t), n) =
    let source_is = h.source in
    record {
      g = g;
      k = k;
      source = h.source;
      whitespace_is = h.skipped;
      token_is = t;
      start = h.start;
      end = h.end;
      text = ap (λ z. slice_range z q.lexer.start q.lexer.end) h.source
          ∙ (ap (λ z. take z (drop q.lexer.start p.lexer.source)) (let a = h.start in let b = h.end in omega (arith, a, b))
          ∙ ap (take k) (ap (λ z. drop z p.lexer.source) h.start ∙ sym (drop-drop g p.lexer.end p.lexer.source)));
      left = ap (λ z. drop q.lexer.end z) h.source
          ∙ (ap (λ z. drop z p.lexer.source) (let b = h.end in omega (arith, b)) ∙ sym (drop-drop (g + k) p.lexer.end p.lexer.source));
    }

-- a tokenized text after some of its bytes
pub drop_cut : (n k : ℕ) (r : List ℕ) → k ≤ n → drop k (take n r) ≡ take (n - k) (drop k r)
drop_cut n k r l = ap (λ z. drop k (take z r)) (omega (arith, l)) ∙ drop-take k (n - k) r

-- the lexer only goes forward
pub tokens_forward : (p q : Place) (ts : List Token) → TakesTokens p ts q → p.lexer.end ≤ q.lexer.end
tokens_forward p q [] e = subst (λ z. p.lexer.end ≤ z.lexer.end) e (omega arith)
tokens_forward p q (t ∷ ts) (m, (c, h, e), more) = let a = (taken_is p m c h).end in let b = tokens_forward m q ts more in omega (arith, a, b)

-- the source stays
pub tokens_source : (p q : Place) (ts : List Token) → TakesTokens p ts q → q.lexer.source ≡ p.lexer.source
tokens_source p q [] e = ap (λ z. z.lexer.source) (sym e)
tokens_source p q (t ∷ ts) (m, (c, h, e), more) = tokens_source m q ts more ∙ (taken_is p m c h).source

-- the tokens that are taken are a prefix of each beginning of what is left that has them
pub tokens_prefix : (p q : Place) (ts : List Token) (n : ℕ) → TakesTokens p ts q → q.lexer.end ≤ p.lexer.end + n →
    Prefix (take n (remainder_of p.lexer)) (map lexeme_of ts) (take (n - (q.lexer.end - p.lexer.end)) (remainder_of q.lexer))
tokens_prefix p q [] n e l =
    let same : q.lexer.end - p.lexer.end ≡ 0 = (let a = ap (λ z. z.lexer.end) e in omega (arith, a)) in
    ap (λ z. take n (remainder_of z.lexer)) e ∙ ap (λ z. take z (remainder_of q.lexer)) (omega (arith, same))
tokens_prefix p q (t ∷ ts) n (m, (c, h, e), more) l =
    let one = taken_is p m c h in
    let r = remainder_of p.lexer in
    let a = one.end in
    let b = tokens_forward m q ts more in
    let g_fits : one.g ≤ n = omega (arith, a, b, l) in
    let k_fits : one.k ≤ n - one.g = omega (arith, a, b, l) in
    let both_fit : one.g + one.k ≤ n = omega (arith, a, b, l) in
    let cut = drop_cut n one.g r g_fits in
    let text_is : text_at m ≡ take one.k (drop one.g (take n r)) = one.text ∙ (sym (take-take one.k (n - one.g) (drop one.g r) k_fits) ∙ ap (take one.k) (sym cut)) in
    let lexeme : lexeme_of t ≡ (c, text_at m) = ap lexeme_of e ∙ (ap (λ z. lexeme_of (token_of c z)) one.text ∙ (lexeme_is c (drop one.g r) one.k one.token_is.is ∙ ap (λ z. (c, z)) (sym one.text))) in
    let behind : take (n - (one.g + one.k)) (remainder_of m.lexer) ≡ drop (one.g + one.k) (take n r) = ap (take (n - (one.g + one.k))) one.left ∙ sym (drop_cut n (one.g + one.k) r both_fit) in
    let rest_is : n - (one.g + one.k) - (q.lexer.end - m.lexer.end) ≡ n - (q.lexer.end - p.lexer.end) = omega (arith, a, b, l) in
    let rest = tokens_prefix m q ts (n - (one.g + one.k)) more (omega (arith, a, b, l)) in (
      one.g,
      one.k,
      whitespace_cut r one.g n g_fits one.whitespace_is,
      subst (λ z. IsLongestToken z one.k (lexeme_of t).0) (sym cut) (subst (λ z. IsLongestToken (take (n - one.g) (drop one.g r)) one.k z) (ap (λ (z : Lexeme). z.0) (sym lexeme)) (token_cut (drop one.g r) one.k (n - one.g) c k_fits one.token_is)),
      ap (λ (z : Lexeme). z.1) lexeme ∙ text_is,
      subst (λ z. Prefix z (map lexeme_of ts) (take (n - (q.lexer.end - p.lexer.end)) (remainder_of q.lexer))) behind
          (subst (λ z. Prefix (take (n - (one.g + one.k)) (remainder_of m.lexer)) (map lexeme_of ts) (take z (remainder_of q.lexer))) rest_is rest),
    )
