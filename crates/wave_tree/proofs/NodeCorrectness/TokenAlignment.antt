-- The parts of a node stand at tokens of its slice.
use Rattle.std.proofs.Common.{◌≡◌, ℕ, ◌≤◌, ◌+◌, ◌-◌, List, ◌∷◌, ◌++◌, sym, ap, subst, ◌∙◌, take, drop, arith, map}
use Rattle.std.proofs.lemmas.List.{drop-drop}
use Rattle.wave_lex.specs.Tokenization.{IsWhitespace, Prefix, remainder_of, span}
use Rattle.wave_grammar.specs.Token.{Token, lexeme_of}
use Rattle.wave_grammar.specs.ParserPosition.{Place, TakesToken, TakesTokens}
use Rattle.wave_grammar.specs.SpannedTree.{slice, EndsToken, BeginsToken, StandsAtTokens}
use Rattle.wave_tree.proofs.ParserCorrectness.Steps.{tokens_join}
use Rattle.wave_grammar.proofs.NodeTexts.Slices.{taken_is, tokens_forward, tokens_source, tokens_prefix, whitespace_cut, drop_cut}

-- what is left of a slice after its first tokens
left_of : (p a : Place) (n : ℕ) → a.lexer.source ≡ p.lexer.source → p.lexer.end ≤ a.lexer.end → a.lexer.end - p.lexer.end ≤ n →
    drop (a.lexer.end - p.lexer.end) (take n (remainder_of p.lexer)) ≡ take (n - (a.lexer.end - p.lexer.end)) (remainder_of a.lexer)
left_of p a n same l k =
    let s = p.lexer.source in
    let d = a.lexer.end - p.lexer.end in
    let behind : p.lexer.end + d ≡ a.lexer.end = omega (arith, l) in
    drop_cut n d (remainder_of p.lexer) k
    ∙ ap (take (n - d)) (drop-drop d p.lexer.end s ∙ (ap (λ z. drop z s) behind ∙ ap (drop a.lexer.end) (sym same)))

-- the lexer stands after tokens
ends_token : (p a q : Place) (before rest : List Token) → TakesTokens p before a → TakesTokens a rest q → EndsToken (slice p.lexer.source (span p.lexer.end q.lexer.end)) (a.lexer.end - p.lexer.end)
ends_token p a q before rest h k =
    let n = q.lexer.end - p.lexer.end in
    let b = tokens_forward p a before h in
    let c = tokens_forward a q rest k in
    let left = left_of p a n (tokens_source p a before h) b (omega (arith, b, c)) in
    (before, subst (λ z. Prefix (take n (remainder_of p.lexer)) (map lexeme_of before) z) (sym left) (tokens_prefix p a before n h (omega (arith, b, c))))

-- the next token begins after whitespace
begins_token : (p a f q : Place) (u : Token) (before rest : List Token) → TakesTokens p before a → TakesToken a u f → TakesTokens f rest q →
    BeginsToken (slice p.lexer.source (span p.lexer.end q.lexer.end)) (f.lexer.start - p.lexer.end)
begins_token p a f q u before rest h (c, one, e) k =
    let it = taken_is a f c one in
    let n = q.lexer.end - p.lexer.end in
    let d = a.lexer.end - p.lexer.end in
    let b = tokens_forward p a before h in
    let start = it.start in
    let end = it.end in
    let behind = tokens_forward f q rest k in
    let left = left_of p a n (tokens_source p a before h) b (omega (arith, b, end, behind)) in (
      d,
      it.g,
      ends_token p a q before (u ∷ rest) h (f, (c, one, e), k),
      subst (λ z. IsWhitespace z it.g) (sym left) (whitespace_cut (remainder_of a.lexer) it.g (n - d) (omega (arith, b, end, behind)) it.whitespace_is),
      omega (arith, b, start),
    )

-- tokens that are taken between others stand at tokens of the whole
pub part_at : (p a f b q : Place) (u : Token) (before us behind : List Token) → TakesTokens p before a → TakesToken a u f → TakesTokens f us b → TakesTokens b behind q →
    StandsAtTokens p.lexer.source (span p.lexer.end q.lexer.end) (span f.lexer.start b.lexer.end)
part_at p a f b q u before us behind h one inner k = (
  begins_token p a f q u before (us ++ behind) h one (tokens_join f b q us behind inner k),
  ends_token p b q (before ++ u ∷ us) behind (tokens_join p a b before (u ∷ us) h (f, one, inner)) k,
)
