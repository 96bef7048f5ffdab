-- A char, a string, a multiline string mean one thing.
use Rattle.std.proofs.Common.{◌≡◌, ℕ, ◌<◌, ◌≢◌, zero, suc, List, [], ◌∷◌, ◌++◌, ◌⊎◌, inl, inr, refl, sym, ap, subst, ◌∙◌, length, arith, Some, None, append_assoc}
use Rattle.std.specs.Prelude.{encode_utf8}
use Rattle.std.specs.Char.{digit_value}
use Rattle.std.specs.Str.Parse.{AllDigits, digits_value}
use Rattle.std.proofs.lemmas.List.{append_cancel_left, append_cancel_right, append-nil}
use Rattle.std.proofs.lemmas.Str.{encode_same}
use Rattle.wave_lex.specs.Tokenization.{three_quotes}
use Rattle.wave_lex.specs.Multiline.{DropsReturn, LineMeans, LinesMean, spaces, in_lines, DecodesLines, MultilineMeans}
use Rattle.wave_lex.specs.Strings.{CharMeans, StringMeans, short_escape, IsEscape, StringPiece, IsSplitInto, Decodes}

-- an escape begins with `\`
pub escape_head : (e : List ℕ) (c : ℕ) → IsEscape e c → (x : List ℕ) × (e ≡ 92 ∷ x)
escape_head e c (inl h) = (h.0 ∷ [], h.1)
escape_head e c (inr h) = (117 ∷ 123 ∷ (h.digits ++ 125 ∷ []), h.spelled)

-- the digits end at the first }
digits_unique : (ds es t u : List ℕ) → AllDigits 16 ds → AllDigits 16 es → ds ++ (125 ∷ t) ≡ es ++ (125 ∷ u) → (ds ≡ es) × (t ≡ u)
digits_unique [] [] t u a b e = let s : t ≡ u = cc in (refl, s)
digits_unique [] (d ∷ es) t u a b e =
    let s : d ≡ 125 = cc in
    let wrong : 36 < 16 = subst (λ (z : ℕ). digit_value z < 16) s b.0 in
    let w : ⊥ = omega arith in absurd w
digits_unique (d ∷ ds) [] t u a b e =
    let s : d ≡ 125 = cc in
    let wrong : 36 < 16 = subst (λ (z : ℕ). digit_value z < 16) s a.0 in
    let w : ⊥ = omega arith in absurd w
digits_unique (d ∷ ds) (f ∷ es) t u a b e =
    let s : d ≡ f = cc in
    let r : ds ++ (125 ∷ t) ≡ es ++ (125 ∷ u) = cc in
    let h : (ds ≡ es) × (t ≡ u) = digits_unique ds es t u a.1 b.1 r in
    let k : ds ≡ es = h.0 in
    let l : d ∷ ds ≡ f ∷ es = cc in (l, h.1)

-- no escape begins another, and each stands for one scalar
pub escape_unique : (e f t u : List ℕ) (c d : ℕ) → IsEscape e c → IsEscape f d → e ++ t ≡ f ++ u → (c ≡ d) × (t ≡ u)
escape_unique e f t u c d (inl a) (inl b) w =
    let q : 92 ∷ a.0 ∷ t ≡ 92 ∷ b.0 ∷ u = sym (ap (λ (z : List ℕ). z ++ t) a.1) ∙ (w ∙ ap (λ (z : List ℕ). z ++ u) b.1) in
    let s : a.0 ≡ b.0 = cc in
    let r : t ≡ u = cc in
    let same : Some c ≡ Some d = sym a.2 ∙ (ap short_escape s ∙ b.2) in
    let v : c ≡ d = cc in (v, r)
escape_unique e f t u c d (inl a) (inr b) w =
    let q : 92 ∷ a.0 ∷ t ≡ 92 ∷ 117 ∷ 123 ∷ ((b.digits ++ 125 ∷ []) ++ u) = sym (ap (λ (z : List ℕ). z ++ t) a.1) ∙ (w ∙ ap (λ (z : List ℕ). z ++ u) b.spelled) in
    let s : a.0 ≡ 117 = cc in
    let wrong : None ≡ Some c = ap short_escape (sym s) ∙ a.2 in cc
escape_unique e f t u c d (inr a) (inl b) w =
    let q : 92 ∷ 117 ∷ 123 ∷ ((a.digits ++ 125 ∷ []) ++ t) ≡ 92 ∷ b.0 ∷ u = sym (ap (λ (z : List ℕ). z ++ t) a.spelled) ∙ (w ∙ ap (λ (z : List ℕ). z ++ u) b.1) in
    let s : b.0 ≡ 117 = cc in
    let wrong : None ≡ Some d = ap short_escape (sym s) ∙ b.2 in cc
escape_unique e f t u c d (inr a) (inr b) w =
    let q : 92 ∷ 117 ∷ 123 ∷ ((a.digits ++ 125 ∷ []) ++ t) ≡ 92 ∷ 117 ∷ 123 ∷ ((b.digits ++ 125 ∷ []) ++ u) =
    sym (ap (λ (z : List ℕ). z ++ t) a.spelled) ∙ (w ∙ ap (λ (z : List ℕ). z ++ u) b.spelled) in
    let p : (a.digits ++ 125 ∷ []) ++ t ≡ (b.digits ++ 125 ∷ []) ++ u = cc in
    let r : a.digits ++ (125 ∷ t) ≡ b.digits ++ (125 ∷ u) = sym (append_assoc a.digits (125 ∷ []) t) ∙ (p ∙ append_assoc b.digits (125 ∷ []) u) in
    let h = digits_unique a.digits b.digits t u a.hexadecimal b.hexadecimal r in
    (a.value ∙ (ap (λ (z : List ℕ). digits_value 16 z) h.0 ∙ sym b.value), h.1)

-- what is left of the meaning when the part is taken off
abbrev pub After : List ℕ → List ℕ → List ℕ → Type 0
After part s t = (u : List ℕ) × (t ≡ part ++ u) × Decodes s u

-- after a byte other than `\` the rest decodes
pub plain_into : (b : ℕ) (s t : List ℕ) → b ≢ 92 → Decodes (b ∷ s) t → After (b ∷ []) s t
plain_into b s t n ([], e) = let wrong : b ∷ s ≡ [] = e.0 in cc
plain_into b s t n (p ∷ ps, (inl a, x, y, es, et, cut)) =
    let q : b ∷ s ≡ a.0 ∷ x = es ∙ ap (λ (z : StringPiece). z.source ++ x) a.2 in
    let r : t ≡ a.0 ∷ y = et ∙ ap (λ (z : StringPiece). z.meaning ++ y) a.2 in
    let s1 : a.0 ≡ b = cc in
    let s2 : x ≡ s = cc in
    (y, r ∙ ap (λ (z : ℕ). z ∷ y) s1, (ps, subst (λ (z : List ℕ). IsSplitInto z ps y) s2 cut))
plain_into b s t n (p ∷ ps, (inr a, x, y, es, et, cut)) =
    let h = escape_head p.source a.0 a.1 in
    let q : b ∷ s ≡ 92 ∷ (h.0 ++ x) = es ∙ ap (λ (z : List ℕ). z ++ x) h.1 in
    let wrong : b ≡ 92 = cc in absurd (n wrong)

-- a byte other than `\` stands for itself
pub plain_from : (b : ℕ) (s t : List ℕ) → b ≢ 92 → After (b ∷ []) s t → Decodes (b ∷ s) t
plain_from b s t n a = (record { source = b ∷ []; meaning = b ∷ [] } ∷ a.2.0, (inl (b, n, refl), s, a.0, refl, a.1, a.2.1))

-- after an escape the rest decodes
pub escape_into : (e s t : List ℕ) (c : ℕ) → IsEscape e c → Decodes (e ++ s) t → After (encode_utf8 c) s t
escape_into e s t c h ([], w) = let k = escape_head e c h in
    let wrong : 92 ∷ (k.0 ++ s) ≡ [] = sym (ap (λ (z : List ℕ). z ++ s) k.1) ∙ w.0 in cc
escape_into e s t c h (p ∷ ps, (inl a, x, y, es, et, cut)) =
    let k = escape_head e c h in
    let q : 92 ∷ (k.0 ++ s) ≡ a.0 ∷ x = sym (ap (λ (z : List ℕ). z ++ s) k.1) ∙ (es ∙ ap (λ (z : StringPiece). z.source ++ x) a.2) in
    let wrong : a.0 ≡ 92 = cc in absurd (a.1 wrong)
escape_into e s t c h (p ∷ ps, (inr a, x, y, es, et, cut)) =
    let v = escape_unique e p.source s x c a.0 h a.1 es in
    (y, et ∙ (ap (λ (z : List ℕ). z ++ y) a.2 ∙ ap (λ (z : ℕ). encode_utf8 z ++ y) (sym v.0)), (ps, subst (λ (z : List ℕ). IsSplitInto z ps y) (sym v.1) cut))

-- an escape stands for its scalar
pub escape_from : (e s t : List ℕ) (c : ℕ) → IsEscape e c → After (encode_utf8 c) s t → Decodes (e ++ s) t
escape_from e s t c h a = (record { source = e; meaning = encode_utf8 c } ∷ a.2.0, (inr (c, h, refl), s, a.0, refl, a.1, a.2.1))

-- nothing decodes to nothing alone
pub empty_once : (t : List ℕ) → Decodes [] t → t ≡ []
empty_once t ([], e) = e.1
empty_once t (p ∷ ps, (inl a, x, y, es, et, cut)) =
    let q : [] ≡ a.0 ∷ x = es ∙ ap (λ (z : StringPiece). z.source ++ x) a.2 in cc
empty_once t (p ∷ ps, (inr a, x, y, es, et, cut)) =
    let h = escape_head p.source a.0 a.1 in
    let q : [] ≡ 92 ∷ (h.0 ++ x) = es ∙ ap (λ (z : List ℕ). z ++ x) h.1 in cc

-- what is split into pieces decodes to nothing else
once : (ps : List StringPiece) (s t u : List ℕ) → IsSplitInto s ps t → Decodes s u → t ≡ u
once [] s t u (es, et) d = et ∙ sym (empty_once u (subst (λ (z : List ℕ). Decodes z u) es d))
once (p ∷ ps) s t u (inl a, x, y, es, et, cut) d =
    let q : s ≡ a.0 ∷ x = es ∙ ap (λ (z : StringPiece). z.source ++ x) a.2 in
    let r : t ≡ a.0 ∷ y = et ∙ ap (λ (z : StringPiece). z.meaning ++ y) a.2 in
    let w = plain_into a.0 x u a.1 (subst (λ (z : List ℕ). Decodes z u) q d) in
    let same : y ≡ w.0 = once ps x y w.0 cut w.2 in
    r ∙ (ap (λ (z : List ℕ). a.0 ∷ z) same ∙ sym w.1)
once (p ∷ ps) s t u (inr a, x, y, es, et, cut) d =
    let w = escape_into p.source x u a.0 a.1 (subst (λ (z : List ℕ). Decodes z u) es d) in
    let same : y ≡ w.0 = once ps x y w.0 cut w.2 in
    et ∙ (ap (λ (z : List ℕ). z ++ y) a.2 ∙ (ap (λ (z : List ℕ). encode_utf8 a.0 ++ z) same ∙ sym w.1))

-- what s decodes to is one text
pub decodes_once : (s t u : List ℕ) → Decodes s t → Decodes s u → t ≡ u
decodes_once s t u d e = once d.0 s t u d.1 e

-- a scalar other than the backslash is no escape
not_escape : (inside : List ℕ) (c d : ℕ) → c ≢ 92 → inside ≡ encode_utf8 c → IsEscape inside d → ⊥
unfolding lib.Utf8.encode
not_escape inside c d n e h =
    let k = escape_head inside d h in
    let w : encode_utf8 c ++ [] ≡ encode_utf8 92 ++ k.0 = append-nil (encode_utf8 c) ∙ (sym e ∙ k.1) in
    n (encode_same c 92 [] k.0 w).0

-- what stands in single quotes stands for one scalar
in_char : (inside : List ℕ) (c d : ℕ) → ((c ≢ 92) × (inside ≡ encode_utf8 c) ⊎ IsEscape inside c) → ((d ≢ 92) × (inside ≡ encode_utf8 d) ⊎ IsEscape inside d) → c ≡ d
in_char inside c d (inl h) (inl k) =
    let w : encode_utf8 c ++ [] ≡ encode_utf8 d ++ [] = ap (λ (z : List ℕ). z ++ []) (sym h.1 ∙ k.1) in
    (encode_same c d [] [] w).0
in_char inside c d (inl h) (inr k) = absurd (not_escape inside c d h.0 h.1 k)
in_char inside c d (inr h) (inl k) = absurd (not_escape inside d c k.0 k.1 h)
in_char inside c d (inr h) (inr k) = (escape_unique inside inside [] [] c d h k refl).0

-- two equal lists have equal tails
tails : (a b : ℕ) (x y : List ℕ) → a ∷ x ≡ b ∷ y → x ≡ y
tails a b x y e = cc

-- a char token stands for one scalar
pub char_once : (token : List ℕ) (c d : ℕ) → CharMeans token c → CharMeans token d → c ≡ d
char_once token c d (x, e, s, h) (y, f, t, k) =
    let same : y ≡ x = append_cancel_right y x (39 ∷ []) (tails 39 39 (y ++ 39 ∷ []) (x ++ 39 ∷ []) (sym f ∙ e)) in
    in_char x c d h (subst (λ (z : List ℕ). (d ≢ 92) × (z ≡ encode_utf8 d) ⊎ IsEscape z d) same k)

-- a string token stands for one text
pub string_once : (token t u : List ℕ) → StringMeans token t → StringMeans token u → t ≡ u
string_once token t u (x, e, h) (y, f, k) =
    let same : y ≡ x = append_cancel_right y x (34 ∷ []) (tails 34 34 (y ++ 34 ∷ []) (x ++ 34 ∷ []) (sym f ∙ e)) in
    decodes_once x t u h (subst (λ (z : List ℕ). Decodes z u) same k)

-- one final carriage return is dropped in one way
pub drops_once : (x y z : List ℕ) → DropsReturn x y → DropsReturn x z → y ≡ z
drops_once x y z (inl e) (inl f) = append_cancel_right y z (13 ∷ []) (sym e ∙ f)
drops_once x y z (inl e) (inr f) = absurd (f.1 y e)
drops_once x y z (inr e) (inl f) = absurd (e.1 z f)
drops_once x y z (inr e) (inr f) = sym e.0 ∙ f.0

-- a line means one text
line_once : (k : ℕ) (line t u : List ℕ) → LineMeans k line t → LineMeans k line u → t ≡ u
line_once k line t u (y, (x, e, d), h) (y', (x', e', d'), h') =
    let same : x' ≡ x = append_cancel_left (spaces k) x' x (sym e' ∙ e) in
    let kept : y' ≡ y = drops_once x y' y (subst (λ (z : List ℕ). DropsReturn z y') same d') d in
    decodes_once y t u h (subst (λ (z : List ℕ). Decodes z u) kept h')

-- lines mean one list of texts
lines_once : (k : ℕ) (ps ts us : List (List ℕ)) → LinesMean k ps ts → LinesMean k ps us → ts ≡ us
lines_once k [] [] [] h g = refl
lines_once k [] [] (u ∷ us) h g = absurd g
lines_once k [] (t ∷ ts) us h g = absurd h
lines_once k (p ∷ ps) [] us h g = absurd h
lines_once k (p ∷ ps) (t ∷ ts) [] h g = absurd g
lines_once k (p ∷ ps) (t ∷ ts) (u ∷ us) (h, hs) (g, gs) =
    let a : t ≡ u = line_once k p t u h g in
    let b : ts ≡ us = lines_once k ps ts us hs gs in cc

-- how many the spaces are
pub length_spaces : (k : ℕ) → length (spaces k) ≡ k
length_spaces zero = refl
length_spaces (suc k) = ap suc (length_spaces k)

-- two equal lists that end in one more have equal prefixes and ends
pub ends_once : (xs ys : List (List ℕ)) (a b : List ℕ) → xs ++ a ∷ [] ≡ ys ++ b ∷ [] → (xs ≡ ys) × (a ≡ b)
ends_once [] [] a b e = (refl, cc)
ends_once [] (y ∷ []) a b e = let w : [] ≡ b ∷ [] = cc in cc
ends_once [] (y ∷ z ∷ ys) a b e = let w : [] ≡ z ∷ (ys ++ b ∷ []) = cc in cc
ends_once (x ∷ []) [] a b e = let w : a ∷ [] ≡ [] = cc in cc
ends_once (x ∷ z ∷ xs) [] a b e = let w : z ∷ (xs ++ a ∷ []) ≡ [] = cc in cc
ends_once (x ∷ xs) (y ∷ ys) a b e =
    let h : x ≡ y = cc in
    let t : xs ++ a ∷ [] ≡ ys ++ b ∷ [] = cc in
    let w = ends_once xs ys a b t in
    let u : xs ≡ ys = w.0 in (cc, w.1)

-- the inside of a multiline token stands for one text
pub inside_once : (s t u : List ℕ) → DecodesLines s t → DecodesLines s u → t ≡ u
inside_once s t u d e =
    let whole : d.first ∷ (d.between ++ spaces d.indent ∷ []) ≡ e.first ∷ (e.between ++ spaces e.indent ∷ []) = sym d.cut ∙ e.cut in
    let rest : d.between ++ spaces d.indent ∷ [] ≡ e.between ++ spaces e.indent ∷ [] = cc in
    let w = ends_once d.between e.between (spaces d.indent) (spaces e.indent) rest in
    let k : d.indent ≡ e.indent = sym (length_spaces d.indent) ∙ (ap length w.1 ∙ length_spaces e.indent) in
    let there : LinesMean d.indent d.between e.texts = subst (λ (z : ℕ). LinesMean z d.between e.texts) (sym k) (subst (λ (z : List (List ℕ)). LinesMean e.indent z e.texts) (sym w.0) e.lines) in
    d.joins ∙ (ap in_lines (lines_once d.indent d.between d.texts e.texts d.lines there) ∙ sym e.joins)

-- a multiline token stands for one text
pub multiline_once : (token t u : List ℕ) → MultilineMeans token t → MultilineMeans token u → t ≡ u
multiline_once token t u (x, e, h) (y, f, k) =
    let same : y ≡ x = append_cancel_right y x three_quotes (append_cancel_left three_quotes (y ++ three_quotes) (x ++ three_quotes) (sym f ∙ e)) in
    inside_once x t u h (subst (λ (z : List ℕ). DecodesLines z u) same k)
