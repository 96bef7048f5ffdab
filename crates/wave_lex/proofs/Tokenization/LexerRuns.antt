-- The tokens that a lexer gives are those of its source.
use Rattle.std.proofs.Common.{◌≡◌, ℕ, ◌+◌, ◌-◌, List, [], ◌∷◌, refl, sym, ap, subst, ◌∙◌, length, take, drop, arith, Some, None, Ok, Err}
use Rattle.std.specs.Prelude.{slice_range}
use Rattle.std.specs.declared.ops.Range.{Range}
use Rattle.std.proofs.lemmas.List.{drop-drop}
use Rattle.wave_lex.specs.Tokenization.{Lexeme, Prefix, Tokenizes, IsWhitespace, Lexed, Passes, remainder_of}
use Rattle.wave_lex.specs.LexerRuns.{ComeTo, TokensTokenize}
use Rattle.wave_lex.proofs.Tokenization.NextToken.{next_one}

-- the source at the span of an item that was passed
pub passed_text : (l m : Lexed) (g k : ℕ) → Passes l m g k → slice_range m.source m.start m.end ≡ take k (drop g (remainder_of l))
passed_text l m g k p =
    let size : m.end - m.start ≡ k = omega (arith, p.start, p.end) in
    let there : drop m.start m.source ≡ drop g (remainder_of l) =
    ap (λ (z : ℕ). drop z m.source) p.start ∙ (ap (λ (z : List ℕ). drop (l.end + g) z) p.source ∙ sym (drop-drop g l.end l.source)) in
    ap (λ (z : ℕ). take z (drop m.start m.source)) size ∙ ap (λ (z : List ℕ). take k z) there

-- what is left after it
pub passed_rest : (l m : Lexed) (g k : ℕ) → Passes l m g k → remainder_of m ≡ drop (g + k) (remainder_of l)
passed_rest l m g k p =
    let place : m.end ≡ l.end + (g + k) = omega (arith, p.end) in
    ap (λ (z : ℕ). drop z m.source) place ∙ (ap (λ (z : List ℕ). drop (l.end + (g + k)) z) p.source ∙ sym (drop-drop (g + k) l.end l.source))

-- the tokens that come are those of the source
come_cut : (l : Lexed) (ts : List Lexeme) → ComeTo l ts None → Tokenizes (remainder_of l) ts
come_cut l [] (m, p) = (remainder_of l, refl, p.skipped)
come_cut l (t ∷ ts) (m, (g, k, p, is), text, more) =
    let (r, prefix, left) = come_cut m ts more in
    (r, (g, k, p.skipped, is, text ∙ passed_text l m g k p, subst (λ (z : List ℕ). Prefix z ts r) (passed_rest l m g k p) prefix), left)

-- the tokens of the source come
cut_comes : (l : Lexed) (ts : List Lexeme) → Tokenizes (remainder_of l) ts → ComeTo l ts None
cut_comes l [] (r, same, left) = (
  record { source = l.source; start = l.end + length (remainder_of l); end = l.end + length (remainder_of l) + 0 },
  record { source = refl; skipped = subst (λ (z : List ℕ). IsWhitespace z (length z)) (sym same) left; start = refl; end = refl },
)
cut_comes l (t ∷ ts) (r, (g, k, skipped, is, text, prefix), left) =
    let m : Lexed = record { source = l.source; start = l.end + g; end = l.end + g + k } in
    let p : Passes l m g k = record { source = refl; skipped = skipped; start = refl; end = refl } in
    (m, (g, k, p, is), text ∙ sym (passed_text l m g k p), cut_comes m ts (r, subst (λ (z : List ℕ). Prefix z ts r) (sym (passed_rest l m g k p)) prefix, left))

-- the items end in one way
one_end : (l : Lexed) (ts us : List Lexeme) (bad : Range ℕ) → ComeTo l ts (Some bad) → ComeTo l us None → ⊥
one_end l [] [] bad (m, p) (n, q) = let e : Some (Err bad) ≡ None = (next_one l m n (Some (Err bad)) None p q).1 in cc
one_end l [] (u ∷ us) bad (m, p) (n, q, text, rest) = let e : Some (Err bad) ≡ Some (Ok u.0) = (next_one l m n (Some (Err bad)) (Some (Ok u.0)) p q).1 in cc
one_end l (t ∷ ts) [] bad (m, p, text, more) (n, q) = let e : Some (Ok t.0) ≡ None = (next_one l m n (Some (Ok t.0)) None p q).1 in cc
one_end l (t ∷ ts) (u ∷ us) bad (m, p, text, more) (n, q, words, rest) =
    let same : m ≡ n = (next_one l m n (Some (Ok t.0)) (Some (Ok u.0)) p q).0 in
    one_end m ts us bad more (subst (λ (z : Lexed). ComeTo z us None) (sym same) rest)

-- the tokens that come are those of the source; where an invalid one comes it isn't tokenized
pub tokens_cut : TokensTokenize
tokens_cut l ts = ((come_cut l ts, cut_comes l ts), λ bad more us cut. one_end l ts us bad more (cut_comes l us cut))
