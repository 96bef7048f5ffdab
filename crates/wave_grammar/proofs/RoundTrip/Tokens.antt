-- A text that is put together from the texts of tokens is tokenized into these.
use Rattle.std.proofs.Common.{◌≡◌, ℕ, ◌+◌, ◌≢◌, true, nat_lt, suc, List, [], ◌∷◌, ◌++◌, refl, sym, ap, subst, ◌∙◌, length, take, drop, arith}
use Rattle.std.specs.Prelude.{encode_utf8_all, codes}
use Rattle.std.proofs.Math.Seq.{take-append_seam, drop-append_seam}
use Rattle.wave_lex.specs.declared.lex.Token.{Token}
use Rattle.wave_lex.specs.declared.lex.Token.TheVariants.{Number, LabelOrKeyword, String}
use Rattle.wave_lex.proofs.Machines.ClosedShapes.{number_rests, number_closed, label_or_keyword_rests, label_or_keyword_closed}
use Rattle.wave_lex.specs.Regex.{empty, Matches, is_one_of}
use Rattle.wave_lex.specs.Derive.{derivative, derivative_by}
use Rattle.wave_lex.specs.Tokens.{shape, whitespace, number, label_or_keyword}
use Rattle.wave_lex.specs.Tokenization.{MayStandAt, IsLongestToken, IsWhitespace, Lexeme, Prefix, Tokenizes, three_quotes}
use Rattle.wave_lex.proofs.LongestPrefix.ByComputing.{ascii_spelled, longest_here}
use Rattle.wave_lex.proofs.Tokenization.TokenEnds.{EndsBefore, token_there, whitespace_before, space_whitespace, StopsBy, NoMarkOf, no_mark, ends_before, none_follows}

-- ---- whitespace

-- a space before a text that is tokenized
pub space_cut : (s : List ℕ) (ts : List Lexeme) → Tokenizes s ts → Tokenizes (32 ∷ s) ts
space_cut s [] (q, e, g) = (32 ∷ s, refl, space_whitespace s (length s) (subst (λ (z : List ℕ). IsWhitespace z (length z)) (sym e) g))
space_cut s (t ∷ ts) (q, (g, k, whitespace_is, long, text, prefix), end) = (
  q,
  (suc g, k, space_whitespace s g whitespace_is, long, text, subst (λ (z : ℕ). Prefix (drop z (32 ∷ s)) ts q) (let e : suc (g + k) ≡ suc g + k = omega arith in e) prefix),
  end,
)

-- ---- a token before a text that is tokenized

-- the tokens of a text after a token
cut_there : (c : Token) (cs r : List ℕ) (ts : List Lexeme) → Matches (shape c) cs → IsLongestToken (encode_utf8_all cs ++ r) (length (encode_utf8_all cs)) c → Tokenizes r ts
    → Tokenizes (encode_utf8_all cs ++ r) ((c, encode_utf8_all cs) ∷ ts)
cut_there c cs r ts h long (q, prefix, end) =
    let x = encode_utf8_all cs in (
      q,
      (
        0,
        length x,
        whitespace_before c cs r long.is h,
        long,
        sym (take-append_seam x r),
        subst (λ (z : List ℕ). Prefix z ts q) (sym (drop-append_seam x r) ∙ ap (λ (z : ℕ). drop z (x ++ r)) (let e : length x ≡ 0 + length x = omega arith in e)) prefix,
      ),
      end,
    )

-- a token before a text that is tokenized, where nothing that follows goes on with the token
pub token_cut : (c : Token) (cs x r : List ℕ) (ts : List Lexeme) → encode_utf8_all cs ≡ x → Matches (shape c) cs → EndsBefore (shape c) cs r → MayStandAt (x ++ r) (length x) c → Tokenizes r ts
    → Tokenizes (x ++ r) ((c, x) ∷ ts)
token_cut c cs x r ts e h ends =
    subst (λ (z : List ℕ). MayStandAt (z ++ r) (length z) c → Tokenizes r ts → Tokenizes (z ++ r) ((c, z) ∷ ts)) e
    (λ may cut. cut_there c cs r ts h (token_there c cs r h ends may) cut)

-- ---- marks

-- a mark of one byte before a text that is tokenized
pub mark_cut : (c : Token) (m : ℕ) (r : List ℕ) (ts : List Lexeme) → nat_lt m 128 ≡ true → Matches (shape c) (m ∷ []) → derivative m (shape c) ≡ empty → MayStandAt (m ∷ r) 1 c → Tokenizes r ts
    → Tokenizes (m ∷ r) ((c, m ∷ []) ∷ ts)
mark_cut c m r ts small h last may cut =
    token_cut c (m ∷ []) (m ∷ []) r ts (ascii_spelled (m ∷ []) (rw small refl)) h (λ e rest there. ap (derivative e) last) may cut

-- ---- what may follow the text of a value

-- the marks that may follow the text of a value
abbrev pub stops : List ℕ
stops = codes ",)]}:("

-- the text is empty, or begins with such a mark
abbrev pub Stops : List ℕ → Type 0
Stops = StopsBy stops

-- no such mark may follow the text cs in the class
abbrev pub NoStopAfter : Token → List ℕ → Type 0
NoStopAfter c cs = NoMarkOf stops (derivative_by cs (shape c))

-- before such a mark a string of no bytes may stand
may_stand : (c : Token) (x r : List ℕ) → Stops r → MayStandAt (x ++ r) (length x) c
may_stand String x r s = λ two quotes. no_third x r s two quotes
  where
    no_third : (x r : List ℕ) → Stops r → length x ≡ 2 → take 3 (x ++ r) ≢ three_quotes
    no_third [] r s two e = let w : ⊥ = omega arith in w
    no_third (a ∷ []) r s two e = let w : ⊥ = omega arith in w
    no_third (a ∷ b ∷ []) [] s two e = cc
    no_third (a ∷ b ∷ []) (d ∷ r) s two e =
        let same : d ≡ 34 = cc in
        let wrong : is_one_of 34 stops ≡ true = subst (λ (z : ℕ). is_one_of z stops ≡ true) same s in cc
    no_third (a ∷ b ∷ d ∷ x) r s two e = let w : ⊥ = omega arith in w
may_stand _ x r s = tt

-- a token before the end or such a mark
pub stopped_cut : (c : Token) (cs x r : List ℕ) (ts : List Lexeme) → encode_utf8_all cs ≡ x → Matches (shape c) cs → NoStopAfter c cs → Stops r → Tokenizes r ts → Tokenizes (x ++ r) ((c, x) ∷ ts)
stopped_cut c cs x r ts e h none s cut = token_cut c cs x r ts e h (ends_before stops refl (shape c) cs r none s) (may_stand c x r s) cut

-- the end has no token
pub end_cut : Tokenizes [] []
end_cut = ([], refl, longest_here whitespace [] 0 refl refl refl refl)

-- ---- numbers and labels

-- no mark may follow a number
pub number_ends : (cs : List ℕ) → Matches number cs → NoStopAfter Number cs
number_ends = none_follows number number_rests number_closed refl stops refl

-- no mark may follow a label
pub label_ends : (cs : List ℕ) → Matches label_or_keyword cs → NoStopAfter LabelOrKeyword cs
label_ends = none_follows label_or_keyword label_or_keyword_rests label_or_keyword_closed refl stops refl
