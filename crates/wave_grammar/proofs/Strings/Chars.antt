-- What stands between the quotes of a char.
use Rattle.std.proofs.Common.{◌≡◌, ◌≢◌, ℕ, inl, inr, List, [], ◌∷◌, ◌++◌, length, Some, None, sym, ap, ◌∙◌, arith}
use Rattle.std.specs.Prelude.{encode_utf8}
use Rattle.std.proofs.lemmas.List.{append-nil}
use Rattle.std.proofs.lemmas.Str.{encode_same, encode_ascii, length-encode, len_utf8_bounds}
use Rattle.wave_lex.specs.Strings.{IsEscape, UnescapesTo}
use Rattle.wave_lex.proofs.StringDecoding.OneMeaning.{escape_head, escape_unique}
use Rattle.wave_grammar.specs.StringAssembly.{CharIn}

-- nothing stands for no scalar
pub empty_none : (s : List ℕ) → length s ≡ 0 → CharIn s None
empty_none s e c (is, inl h) =
    let size : length (encode_utf8 c) ≡ 0 = ap length (sym h.1) ∙ e in
    let w : ⊥ = omega (arith, length-encode c, len_utf8_bounds c) in w
empty_none s e c (is, inr h) =
    let size : length (92 ∷ (escape_head s c h).0) ≡ 0 = ap length (sym (escape_head s c h).1) ∙ e in
    let w : ⊥ = omega arith in w

-- an escape begins with `\`
escape_begins : (s : List ℕ) (c : ℕ) → IsEscape s c → (x : List ℕ) × (s ≡ encode_utf8 92 ++ x)
escape_begins s c h =
    let k = escape_head s c h in
    (k.0, k.1 ∙ ap (λ (z : List ℕ). z ++ k.0) (sym (encode_ascii 92 (omega arith))))

-- a scalar and more stand for no scalar
pub longer_none : (s rest : List ℕ) (d : ℕ) → s ≡ encode_utf8 d ++ rest → d ≢ 92 → length (encode_utf8 d) ≢ length s → CharIn s None
longer_none s rest d e plain longer c (is, inl h) =
    let same = encode_same c d [] rest (append-nil (encode_utf8 c) ∙ (sym h.1 ∙ e)) in
    longer (ap (λ (z : ℕ). length (encode_utf8 z)) (sym same.0) ∙ ap length (sym h.1))
longer_none s rest d e plain longer c (is, inr h) =
    let k = escape_begins s c h in
    plain (encode_same d 92 rest k.0 (sym e ∙ k.1)).0

-- what begins with `\` is no scalar itself
not_itself : (s rest : List ℕ) (c d : ℕ) → s ≡ encode_utf8 d ++ rest → d ≡ 92 → c ≢ 92 → s ≡ encode_utf8 c → ⊥
not_itself s rest c d e slash plain h = plain ((encode_same c d [] rest (append-nil (encode_utf8 c) ∙ (sym h ∙ e))).0 ∙ slash)

-- a `\` that begins no escape
pub no_escape_none : (s rest : List ℕ) (d : ℕ) → s ≡ encode_utf8 d ++ rest → d ≡ 92 → UnescapesTo s None → CharIn s None
no_escape_none s rest d e slash none c (is, inl h) = not_itself s rest c d e slash h.0 h.1
no_escape_none s rest d e slash none c (is, inr h) = none s [] c h (sym (append-nil s))

-- an escape and more
pub more_none : (s rest : List ℕ) (d x k : ℕ) → s ≡ encode_utf8 d ++ rest → d ≡ 92 → UnescapesTo s (Some (x, k)) → k ≢ length s → CharIn s None
more_none s rest d x k e slash some more c (is, inl h) = not_itself s rest c d e slash h.0 h.1
more_none s rest d x k e slash (f, t, escape, cut, size) more c (is, inr h) =
    let none : t ≡ [] = (escape_unique f s t [] x c escape h (sym cut ∙ sym (append-nil s))).1 in
    more (size ∙ ap length (sym (append-nil f) ∙ (ap (λ (z : List ℕ). f ++ z) (sym none) ∙ sym cut)))
