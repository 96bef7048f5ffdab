-- What the tokens of a text of UTF-8 stand for is UTF-8.
use Rattle.std.proofs.Common.{◌≡◌, ℕ, zero, suc, ◌≤◌, ◌<◌, ◌+◌, ◌≢◌, Bool, true, false, nat_eq, nat_lt, List, [], ◌∷◌, ◌++◌, inl, inr, length, drop, get_or, map, Option, Some, refl, sym, ap, subst, ◌∙◌, arith, length-append}
use Rattle.std.specs.Prelude.{◌==◌, encode_utf8, encode_utf8_all, if◌then◌else◌}
use Rattle.std.specs.Char.{IsScalar}
use Rattle.std.specs.Str.{IsUtf8, IsCharBoundary}
use lib.Utf8.{scalar, scalars}
use Rattle.std.proofs.Math.Seq.{take-append_seam}
use Rattle.std.proofs.lemmas.Bool.{eqb-true, eqb-false, ltb-true, and_parts}
use Rattle.std.proofs.lemmas.Bool.Decides.{nat_tests}
use Rattle.std.proofs.lemmas.List.{append-nil}
use Rattle.std.proofs.lemmas.Str.{IsUtf8-take, IsUtf8-drop, IsUtf8-append, IsUtf8-encode, IsUtf8-past_char, IsCharBoundary-at_seam, IsCharBoundary-from_rest, encode_ascii, length-encode, len_utf8_bounds, inside_one}
use Rattle.wave_wasm.specs.Lists.{AllOf}
use Rattle.wave_wasm.specs.Types as type
use Rattle.wave_wasm.specs.Types.{Simple}
use Rattle.wave_wasm.specs.Values.{Leaf}
use Rattle.wave_wasm.specs.HasType.{IsLeafOf}
use Rattle.wave_lex.specs.Tokenization.{Prefix, three_quotes}
use Rattle.wave_lex.specs.Tokens.{shape, whitespace}
use Rattle.wave_lex.specs.Strings.{IsEscape, short_escape, StringPiece, Decodes, StringMeans}
use Rattle.wave_lex.specs.Multiline.{pieces, put_first, spaces, DropsReturn, LineMeans, LinesMean, in_lines, DecodesLines, MultilineMeans}
use Rattle.wave_lex.proofs.StringDecoding.OneMeaning.{plain_into, escape_head, decodes_once}
use Rattle.wave_lex.proofs.StringDecoding.Parts.{AllPlain}
use Rattle.wave_lex.proofs.LongestPrefix.ByComputing.{is_ascii, ascii_spelled}
use Rattle.wave_lex.proofs.LongestPrefix.MachineWalks.{prefix_boundary}
use Rattle.wave_grammar.specs.Token.{Token, TokenizesTo, lexeme_of, text_of}
use Rattle.wave_grammar.specs.LeafTokens.{Spells}
use Rattle.wave_grammar.proofs.RoundTrip.Escapes.{all_plain, digits_ascii}

-- ---- parts of a text

-- the prefix of a text, where what follows is UTF-8
pub prefix_utf8 : (x y : List ℕ) → IsUtf8 (x ++ y) → IsUtf8 y → IsUtf8 x
prefix_utf8 x y u v = subst IsUtf8 (take-append_seam x y) (IsUtf8-take (x ++ y) (length x) u (IsCharBoundary-at_seam (x ++ y) x y refl v))

-- what follows a prefix of ASCII
pub ascii_off : (x y : List ℕ) → is_ascii x ≡ true → IsUtf8 (x ++ y) → IsUtf8 y
ascii_off [] y a u = u
ascii_off (b ∷ x) y a u =
    let p : (nat_lt b 128 ≡ true) × (is_ascii x ≡ true) = and_parts _ _ a in
    ascii_off x y p.1 (IsUtf8-past_char (b ∷ (x ++ y)) (x ++ y) b u (ap (λ (z : List ℕ). z ++ (x ++ y)) (sym (encode_ascii b (ltb-true b 128 p.0)))))

-- one scalar
one_utf8 : (c : ℕ) → IsScalar c → c < 128 → IsUtf8 (c ∷ [])
one_utf8 c s l = subst IsUtf8 (encode_ascii c l) (IsUtf8-encode c s)

-- ---- the texts of tokens

texts_of_prefix : (tokens : List Token) (s r : List ℕ) → IsUtf8 s → Prefix s (map lexeme_of tokens) r → AllOf (λ t. IsUtf8 (text_of t)) tokens
texts_of_prefix [] s r u f = tt
texts_of_prefix (t ∷ tokens) s r u (g, k, whitespace_is, long, text, prefix) =
    let there : IsCharBoundary s g = prefix_boundary whitespace s g u whitespace_is.0 in
    let v : IsUtf8 (drop g s) = IsUtf8-drop s g u there in
    let end : IsCharBoundary (drop g s) k = prefix_boundary (shape (lexeme_of t).0) (drop g s) k v long.is.0 in (
      subst IsUtf8 (sym text) (IsUtf8-take (drop g s) k v end),
      texts_of_prefix tokens (drop (g + k) s) r (IsUtf8-drop s (g + k) u (IsCharBoundary-from_rest s g k there.0 end)) prefix,
    )

-- each token of a text is UTF-8
pub texts_utf8 : (s : List ℕ) (tokens : List Token) → IsUtf8 s → TokenizesTo s tokens → AllOf (λ t. IsUtf8 (text_of t)) tokens
texts_utf8 s tokens u cut = texts_of_prefix tokens s cut.0 u cut.1

-- ---- decoding

-- a short escape and what it stands for are ASCII
short_small : (b c : ℕ) → short_escape b ≡ Some c → (b < 128) × (c < 128)
short_small b c e =
    picked 92 _ refl refl (λ f. omega (arith, f))
    (picked 39 _ refl refl (λ f. omega (arith, f))
    (picked 34 _ refl refl (λ f. omega (arith, f))
    (picked 116 _ refl refl (λ f. omega (arith, f))
    (picked 110 _ refl refl (λ f. omega (arith, f))
    (picked 114 _ refl refl (λ f. omega (arith, f)) (λ f. cc)))))) e
  where
    picked : (k : ℕ) {d : ℕ} {other : Option ℕ} (t : Bool) → nat_eq b k ≡ t → nat_lt k 128 ≡ true → (d ≡ c → c < 128) → (other ≡ Some c → (b < 128) × (c < 128)) → (if t then Some d else other) ≡ Some c → (b < 128) × (c < 128)
    picked k true e l one more f = let same : b ≡ k = eqb-true b k e in let low : k < 128 = ltb-true k 128 l in (omega arith, one cc)
    picked k false e l one more f = more f

scalar_small : (c : ℕ) → c < 128 → IsScalar c
scalar_small c l = grind (arith, nat_tests)

-- an escape is ASCII, and stands for a scalar
escape_ascii : (e : List ℕ) (c : ℕ) → IsEscape e c → (is_ascii e ≡ true) × IsScalar c
escape_ascii e c (inl (b, f, g)) =
    let w = short_small b c g in
    let l : nat_lt b 128 ≡ true = grind (arith, nat_tests, w.0) in
    (ap is_ascii f ∙ rw l refl, scalar_small c w.1)
escape_ascii e c (inr h) = (ap is_ascii h.spelled ∙ digits_ascii h.digits h.hexadecimal, h.scalar)

-- what is left after bytes that stand for themselves
plain_off : (bs s t : List ℕ) → AllPlain bs → Decodes (bs ++ s) t → (u : List ℕ) × (t ≡ bs ++ u) × Decodes s u
plain_off [] s t h d = (t, refl, d)
plain_off (b ∷ bs) s t h d =
    let (u, e, k) = plain_into b (bs ++ s) t h.0 d in
    let (w, f, j) = plain_off bs s u h.1 k in
    (w, e ∙ ap (λ (z : List ℕ). b ∷ z) f, j)

-- a text of UTF-8 decodes to UTF-8
decodes_within : (n : ℕ) (s t : List ℕ) → length s ≤ n → IsUtf8 s → Decodes s t → IsUtf8 t
decodes_within zero s t l u d = empty s l d
  where
    empty : (s : List ℕ) → length s ≤ 0 → Decodes s t → IsUtf8 t
    empty [] l d = subst IsUtf8 (sym (decodes_once [] t [] d ([], (refl, refl)))) ([], (refl, refl))
    empty (b ∷ s) l d = absurd (omega arith)
decodes_within (suc n) s t l (cs, (h, e)) d = by_scalars cs h e (decodes_within n)
  where
    escaped : (c : ℕ) (x : List ℕ) → s ≡ 92 ∷ x → ((s t : List ℕ) → length s ≤ n → IsUtf8 s → Decodes s t → IsUtf8 t) → IsUtf8 t
    escaped c x f less = by_pieces d
      where
        by_pieces : Decodes s t → IsUtf8 t
        by_pieces ([], (g, k)) = let wrong : 92 ∷ x ≡ [] = sym f ∙ g in cc
        by_pieces (p ∷ ps, (inl (b, no_slash, is), y, z, es, et, more)) =
            let q : 92 ∷ x ≡ b ∷ y = sym f ∙ (es ∙ ap (λ (w : StringPiece). w.source ++ y) is) in absurd (no_slash cc)
        by_pieces (p ∷ ps, (inr (c, is, means), y, z, es, et, more)) =
            let (ascii, is_scalar) = escape_ascii p.source c is in
            let (rest, head) = escape_head p.source c is in
            let size : length s ≡ length p.source + length y = ap length es ∙ length-append p.source y in
            let some : length p.source ≡ suc (length rest) = ap length head in
            let u : IsUtf8 y = ascii_off p.source y ascii (subst IsUtf8 es (cs, (h, e))) in
            subst IsUtf8 (sym (et ∙ ap (λ (w : List ℕ). w ++ z) means)) (IsUtf8-append (encode_utf8 c) z (IsUtf8-encode c is_scalar) (less y z (omega arith) u (ps, more)))

    by_scalars : (cs : List ℕ) → scalars cs ≡ true → encode_utf8_all cs ≡ s → ((s t : List ℕ) → length s ≤ n → IsUtf8 s → Decodes s t → IsUtf8 t) → IsUtf8 t
    by_scalars [] h e less = less s t (let f : 0 ≡ length s = ap length e in omega arith) ([], (refl, e)) d
    by_scalars (c ∷ cs) h e less = by_test (c == 92) refl
      where
        by_test : (t' : Bool) → (c == 92) ≡ t' → IsUtf8 t
        by_test true f =
            let same : c ≡ 92 = eqb-true c 92 f in
            escaped c (encode_utf8_all cs) (sym e ∙ (ap (λ (z : ℕ). encode_utf8 z ++ encode_utf8_all cs) same ∙ ap (λ (z : List ℕ). z ++ encode_utf8_all cs) (encode_ascii 92 (ltb-true 92 128 refl)))) less
        by_test false f =
            let k : (scalar c ≡ true) × (scalars cs ≡ true) = and_parts _ _ h in
            let (u, g, more) = plain_off (encode_utf8 c) (encode_utf8_all cs) t (all_plain c (eqb-false c 92 f)) (subst (λ (z : List ℕ). Decodes z t) (sym e) d) in
            let size : length s ≡ length (encode_utf8 c) + length (encode_utf8_all cs) = ap length (sym e) ∙ length-append (encode_utf8 c) (encode_utf8_all cs) in
            let some : 1 ≤ length (encode_utf8 c) = omega (arith, length-encode c, len_utf8_bounds c) in
            subst IsUtf8 (sym g) (IsUtf8-append (encode_utf8 c) u (IsUtf8-encode c k.0) (less (encode_utf8_all cs) u (omega arith) (cs, (k.1, refl)) more))

decodes_utf8 : (s t : List ℕ) → IsUtf8 s → Decodes s t → IsUtf8 t
decodes_utf8 s t u d = decodes_within (length s) s t (omega arith) u d

-- ---- lines

-- no byte is d
abbrev HasNone : ℕ → List ℕ → Type 0
HasNone d [] = Unit {0}
HasNone d (b ∷ bs) = (b ≢ d) × HasNone d bs

none_at : (d : ℕ) (bs : List ℕ) → ((k : ℕ) → k < length bs → get_or bs k 0 ≢ d) → HasNone d bs
none_at d [] h = tt
none_at d (b ∷ bs) h = (h 0 (omega arith), none_at d bs (λ k l. h (suc k) (omega arith)))

-- no byte of another scalar is an LF
no_feed : (c : ℕ) → c ≢ 10 → HasNone 10 (encode_utf8 c)
no_feed c n = none_at 10 (encode_utf8 c) (λ k l e.
    n (inside_one c [] (encode_utf8 c) k (sym (append-nil (encode_utf8 c))) l (let small : get_or (encode_utf8 c) k 0 < 128 = omega (arith, e) in small) ∙ e))

-- bytes other than LF stand in the first piece
first_piece : (bs s p : List ℕ) (ps : List (List ℕ)) → HasNone 10 bs → pieces s ≡ p ∷ ps → pieces (bs ++ s) ≡ (bs ++ p) ∷ ps
first_piece [] s p ps h e = e
first_piece (b ∷ bs) s p ps h e =
    let test : nat_eq b 10 ≡ false = by_test (nat_eq b 10) refl in
    rw test (ap (put_first b) (first_piece bs s p ps h.1 e))
  where
    by_test : (t : Bool) → nat_eq b 10 ≡ t → t ≡ false
    by_test true f = absurd (h.0 (eqb-true b 10 f))
    by_test false f = refl

-- the pieces of a text of UTF-8 are UTF-8
pieces_utf8 : (cs : List ℕ) → scalars cs ≡ true → (p : List ℕ) × (ps : List (List ℕ)) × (pieces (encode_utf8_all cs) ≡ p ∷ ps) × IsUtf8 p × AllOf IsUtf8 ps
pieces_utf8 [] h = ([], [], refl, ([], (refl, refl)), tt)
pieces_utf8 (c ∷ cs) h =
    let k : (scalar c ≡ true) × (scalars cs ≡ true) = and_parts _ _ h in
    by_test (c == 10) refl k.0 (pieces_utf8 cs k.1)
  where
    by_test : (t : Bool) → (c == 10) ≡ t → scalar c ≡ true → ((p : List ℕ) × (ps : List (List ℕ)) × (pieces (encode_utf8_all cs) ≡ p ∷ ps) × IsUtf8 p × AllOf IsUtf8 ps)
        → (p : List ℕ) × (ps : List (List ℕ)) × (pieces (encode_utf8_all (c ∷ cs)) ≡ p ∷ ps) × IsUtf8 p × AllOf IsUtf8 ps
    by_test true f is (p, ps, e, u, all) =
        let same : encode_utf8 c ≡ 10 ∷ [] = ap encode_utf8 (eqb-true c 10 f) ∙ encode_ascii 10 (ltb-true 10 128 refl) in
        ([], p ∷ ps, ap (λ (z : List ℕ). pieces (z ++ encode_utf8_all cs)) same ∙ ap (λ (z : List (List ℕ)). [] ∷ z) e, ([], (refl, refl)), (u, all))
    by_test false f is (p, ps, e, u, all) =
        (encode_utf8 c ++ p, ps, first_piece (encode_utf8 c) (encode_utf8_all cs) p ps (no_feed c (eqb-false c 10 f)) e, IsUtf8-append (encode_utf8 c) p (IsUtf8-encode c is) u, all)

spaces_ascii : (k : ℕ) → is_ascii (spaces k) ≡ true
spaces_ascii zero = refl
spaces_ascii (suc k) = spaces_ascii k

line_utf8 : (k : ℕ) (line t : List ℕ) → IsUtf8 line → LineMeans k line t → IsUtf8 t
line_utf8 k line t u (y, (x, e, drops), d) =
    let v : IsUtf8 x = ascii_off (spaces k) x (spaces_ascii k) (subst IsUtf8 e u) in
    decodes_utf8 y t (without drops v) d
  where
    without : DropsReturn x y → IsUtf8 x → IsUtf8 y
    without (inl f) v = prefix_utf8 y (13 ∷ []) (subst IsUtf8 f v) (one_utf8 13 refl (ltb-true 13 128 refl))
    without (inr f) v = subst IsUtf8 f.0 v

lines_utf8 : (k : ℕ) (lines ts : List (List ℕ)) → AllOf IsUtf8 lines → LinesMean k lines ts → AllOf IsUtf8 ts
lines_utf8 k [] [] u h = tt
lines_utf8 k (p ∷ ps) (t ∷ ts) u h = (line_utf8 k p t u.0 h.0, lines_utf8 k ps ts u.1 h.1)
lines_utf8 k _ _ u h = absurd h

joined_utf8 : (ts : List (List ℕ)) → AllOf IsUtf8 ts → IsUtf8 (in_lines ts)
joined_utf8 [] h = ([], (refl, refl))
joined_utf8 (t ∷ []) h = h.0
joined_utf8 (t ∷ u ∷ ts) h =
    IsUtf8-append t (10 ∷ in_lines (u ∷ ts)) h.0 (IsUtf8-append (10 ∷ []) (in_lines (u ∷ ts)) (one_utf8 10 refl (ltb-true 10 128 refl)) (joined_utf8 (u ∷ ts) h.1))

prefixes_all : {A : Type 0} (P : A → Type 0) (xs ys : List A) → AllOf P (xs ++ ys) → AllOf P xs
prefixes_all P [] ys h = tt
prefixes_all P (x ∷ xs) ys h = (h.0, prefixes_all P xs ys h.1)

decodes_lines_utf8 : (s t : List ℕ) → IsUtf8 s → DecodesLines s t → IsUtf8 t
decodes_lines_utf8 s t (cs, (h, e)) d =
    let (p, ps, f, u, all) = pieces_utf8 cs h in
    let same : p ∷ ps ≡ d.first ∷ (d.between ++ spaces d.indent ∷ []) = sym f ∙ (ap pieces e ∙ d.cut) in
    let rest : ps ≡ d.between ++ spaces d.indent ∷ [] = cc in
    let lines = prefixes_all IsUtf8 d.between (spaces d.indent ∷ []) (subst (AllOf IsUtf8) rest all) in
    subst IsUtf8 (sym d.joins) (joined_utf8 d.texts (lines_utf8 d.indent d.between d.texts lines d.lines))

-- ---- values of one token

string_utf8 : (token s : List ℕ) → IsUtf8 token → StringMeans token s → IsUtf8 s
string_utf8 token s u (x, e, d) =
    let v : IsUtf8 (x ++ 34 ∷ []) = ascii_off (34 ∷ []) (x ++ 34 ∷ []) refl (subst IsUtf8 e u) in
    decodes_utf8 x s (prefix_utf8 x (34 ∷ []) v (one_utf8 34 refl (ltb-true 34 128 refl))) d

multiline_utf8 : (token s : List ℕ) → IsUtf8 token → MultilineMeans token s → IsUtf8 s
multiline_utf8 token s u (x, e, d) =
    let v : IsUtf8 (x ++ three_quotes) = ascii_off three_quotes (x ++ three_quotes) refl (subst IsUtf8 e u) in
    decodes_lines_utf8 x s (prefix_utf8 x three_quotes v (three_quotes, (refl, ascii_spelled three_quotes refl))) d

-- a token of UTF-8 spells a sound value of its type
pub spelled_sound : (S : Simple) (token : Token) (one : Leaf) → IsUtf8 (text_of token) → Spells S token one → IsLeafOf S one
spelled_sound type.bool token one u (b, e, f) = subst (IsLeafOf type.bool) (sym f) (refl, tt)
spelled_sound (type.whole kind) token one u (text, z, e, f, range, g) = subst (IsLeafOf (type.whole kind)) (sym g) (refl, range)
spelled_sound type.char token one u (text, c, e, means, g) = subst (IsLeafOf type.char) (sym g) (refl, means.2)
spelled_sound type.string token one u (text, s, inl (e, means), g) = subst (IsLeafOf type.string) (sym g) (refl, string_utf8 text s (subst (λ (z : Token). IsUtf8 (text_of z)) e u) means)
spelled_sound type.string token one u (text, s, inr (e, means), g) = subst (IsLeafOf type.string) (sym g) (refl, multiline_utf8 text s (subst (λ (z : Token). IsUtf8 (text_of z)) e u) means)
