-- The walk through what stands behind an opening quote, to the first `\` that begins no escape.
use Rattle.std.proofs.Common.{ℕ, ◌≡◌, ◌≢◌, ◌+◌, ◌<◌, ◌≤◌, ◌⊎◌, inl, inr, List, [], ◌∷◌, ◌++◌, Some, None, length, take, drop, refl, sym, ap, ◌∙◌, subst, arith}
use Rattle.std.specs.Prelude.{slice_get, get_or, encode_utf8}
use Rattle.std.specs.List.{flat_map}
use Rattle.std.specs.declared.ops.Range.{Range}
use Rattle.std.proofs.lemmas.List.{append-nil, take-append-drop, drop-drop, length-take-le, length-append, length-drop, get_or-drop}
use Rattle.std.proofs.lemmas.Option.{slice_get-get_or}
use Rattle.std.proofs.lemmas.Grind.{flat_map-append}
use Rattle.std.proofs.Math.Seq.{take-add, take-append_seam}
use Rattle.wave_lex.specs.Tokens.{backslash, single_quote, double_quote, line_feed}
use Rattle.wave_lex.specs.Strings.{IsEscape, UnescapesTo}
use Rattle.wave_grammar.proofs.Fields.Lookup.{all_last}
use Rattle.wave_explain.specs.EscapeMarks.{IsInside, IsRun, IsEscapeMark}

-- before the first piece
pub run_start : (q : ℕ) → IsRun q []
run_start q = ([], tt, refl)

-- a run and one more piece
run_more : (q : ℕ) (run p : List ℕ) → IsRun q run → IsInside q p → IsRun q (run ++ p)
run_more q run p (pieces, all, is) one = (
  pieces ++ p ∷ [],
  all_last (IsInside q) pieces p all one,
  ap (λ x. x ++ p) is ∙ sym (flat_map-append (λ x. x) pieces (p ∷ []) ∙ ap (λ x. flat_map (λ x. x) pieces ++ x) (append-nil p)),
)

-- so many bytes and the text behind them
take_more : (s e t : List ℕ) (at n : ℕ) → drop at s ≡ e ++ t → n ≡ length e → take (at + n) s ≡ take at s ++ e
take_more s e t at n is long = take-add at n s ∙ ap (λ x. take at s ++ x) (ap (λ x. take n x) is ∙ (ap (λ k. take k (e ++ t)) long ∙ take-append_seam e t))

-- the first byte
pub first_byte : (s : List ℕ) (b : ℕ) → slice_get s 0 ≡ Some b → s ≡ b ∷ drop 1 s
first_byte [] b e = absurd (cc)
first_byte (c ∷ s) b e = let same : c ≡ b = cc in λ i. same i ∷ s

-- the byte at a place is the first one of the rest
pub byte_at : (s : List ℕ) (at b : ℕ) → at < length s → b ≡ get_or s at b → slice_get (drop at s) 0 ≡ Some b
byte_at s at b within is =
    let some : 0 < length (drop at s) = omega (arith, length-drop at s, within) in
    let same : at + 0 ≡ at = omega (arith) in
    slice_get-get_or (drop at s) 0 b some ∙ ap Some (get_or-drop at s 0 b ∙ (ap (λ n. get_or s n b) same ∙ sym is))

-- behind one more byte
pub run_byte : (q : ℕ) (s : List ℕ) (at b : ℕ) → IsRun q (take at s) → slice_get (drop at s) 0 ≡ Some b → b ≢ q → b ≢ backslash → b ≢ line_feed → IsRun q (take (at + 1) s)
run_byte q s at b run first other plain line =
    subst (IsRun q) (sym (take_more s (b ∷ []) (drop 1 (drop at s)) at 1 (first_byte (drop at s) b first) refl))
    (run_more q (take at s) (b ∷ []) run (inl (b, refl, other, plain, line)))

-- behind one more escape
pub run_escape : (q : ℕ) (s : List ℕ) (at c n : ℕ) → IsRun q (take at s) → UnescapesTo (drop at s) (Some (c, n)) → IsRun q (take (at + n) s)
run_escape q s at c n run (e, t, is, text, long) =
    subst (IsRun q) (sym (take_more s e t at n text long)) (run_more q (take at s) e run (inr (c, is)))

-- an escape is some bytes of the text
pub escape_within : (s : List ℕ) (c n : ℕ) → UnescapesTo s (Some (c, n)) → (0 < n) × (n ≤ length s)
escape_within s c n (e, t, is, text, long) = (omega (arith, long, some_bytes e c is), omega (arith, long, ap length text, length-append e t))
  where
    some_bytes : (e : List ℕ) (c : ℕ) → IsEscape e c → 0 < length e
    some_bytes e c (inl (b, is, short)) = omega (arith, ap length is)
    some_bytes e c (inr long) = omega (arith, ap length long.spelled)

-- the mark of the first `\` that begins no escape
pub marked : (source text rest more : List ℕ) (place quote at scalar : ℕ) (mark : Range ℕ)
    → (quote ≡ double_quote) ⊎ (quote ≡ single_quote) → drop place source ≡ quote ∷ text → IsRun quote (take at text)
    → UnescapesTo (drop at text) None → drop at text ≡ backslash ∷ more → drop (at + 1) text ≡ encode_utf8 scalar ++ rest
    → mark.start ≡ place + 1 + at → mark.end ≡ mark.start + 1 + length (encode_utf8 scalar) → IsEscapeMark source place mark
marked source text rest more place quote at scalar mark is_quote stands run none first behind start end =
    let tail : more ≡ encode_utf8 scalar ++ rest = ap (λ x. drop 1 x) (sym first) ∙ (drop-drop 1 at text ∙ behind) in
    let whole : drop at text ≡ backslash ∷ (encode_utf8 scalar ++ rest) = first ∙ ap (λ x. backslash ∷ x) tail in
    record {
      quote = quote;
      is_quote = is_quote;
      run = take at text;
      is_run = run;
      scalar = scalar;
      rest = rest;
      stands = stands ∙ ap (λ x. quote ∷ x) (sym (take-append-drop at text) ∙ ap (λ x. take at text ++ x) whole);
      no_escape = subst (λ x. UnescapesTo x None) whole none;
      start = start ∙ ap (λ n. place + 1 + n) (sym (length-take-le at text (within text more at first)));
      end = end;
    }
  where
    within : (text more : List ℕ) (at : ℕ) → drop at text ≡ backslash ∷ more → at ≤ length text
    within text more at first = omega (arith, ap length first, length-drop at text)
