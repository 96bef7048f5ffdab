-- What a text means, by what a parser takes of it.
use Rattle.std.proofs.Common.{◌≡◌, ◌≢◌, ℕ, ◌+◌, ◌-◌, inl, inr, List, [], ◌∷◌, refl, sym, ap, subst, ◌∙◌, length, take, drop, arith, Some, None, Result, Ok, map, length-drop}
use Rattle.std.specs.Prelude.{◌⊎◌}
use Rattle.std.specs.declared.ops.Range.{Range}
use Rattle.std.proofs.lemmas.List.{append-nil, take_all, drop-drop}
use Rattle.wave_wasm.specs.Types.{TypeTree}
use Rattle.wave_wasm.specs.Values.{Value}
use Rattle.wave_lex.specs.declared.lex.Token as lex
use Rattle.wave_lex.specs.Errors.{Diagnostic}
use Rattle.wave_lex.specs.declared.error.ParserErrorKind.{ParserErrorKind}
use Rattle.wave_lex.specs.declared.error.ParserErrorKind.TheVariants as kind
use Rattle.wave_lex.specs.Tokenization.{IsWhitespace, Prefix, remainder_of}
use Rattle.wave_lex.proofs.Tokenization.NextToken.{next_one}
use Rattle.wave_grammar.specs.Token as token
use Rattle.wave_grammar.specs.Token.{Token, lexeme_of, TokenizesTo, brace_open, brace_close, paren_open, paren_close, bracket_open, bracket_close, colon, comma}
use Rattle.wave_grammar.specs.Denotes.{Means, MeansNone}
use Rattle.wave_grammar.specs.Tree as tree
use Rattle.wave_grammar.specs.Tree.{Tree}
use Rattle.wave_grammar.specs.Elaborates.{TreeReads}
use Rattle.wave_grammar.specs.SpannedTree.{tree_of}
use Rattle.wave_grammar.specs.NodeTree.{NodeTree}
use Rattle.wave_grammar.specs.ParserPosition.{Place, Item, TakesItem, TakesToken, TakesTokens, TakesAny, token_of, text_at}
use Rattle.wave_grammar.specs.PrefixAutomaton.{value}
use Rattle.wave_grammar.specs.SyntaxErrors.{LeadsBehindValue, IsSyntaxError}
use Rattle.wave_tree.specs.ParserLaws.{AreNext}
use Rattle.wave_tree.specs.ParsedNodes.{IsSound, IsParsed, IsTaken, IsNodeTaken}
use Rattle.wave_tree.specs.ParserState.{start_of}
use Rattle.wave_grammar.proofs.Elaboration.GrammarToTree.{through}
use Rattle.wave_grammar.proofs.Elaboration.TreeToGrammar.{back}
use Rattle.wave_grammar.proofs.Unambiguity.Trees.{one_tree}
use Rattle.wave_tree.proofs.ParserCorrectness.Sound.{read_have_tree, refused_have_none, token_one}
use Rattle.wave_grammar.proofs.NodeTexts.Slices.{tokens_prefix, tokens_source}

-- ---- nodes

-- the node of a value that was parsed at a sound place
pub node_parsed : (n : ℕ) (old new : Place) (parsed : NodeTree) → IsSound old → IsParsed n old new parsed → IsNodeTaken n old new parsed
node_parsed n old new parsed sound h = record {
  placed = h.placed;
  is_node = h.is_node sound;
  taken = record { tokens = h.token ∷ h.others; taken = (h.first, h.begins, h.taken); takes = subst (λ z. tree.Takes n (h.token ∷ z) (tree_of h.placed) []) (append-nil h.others) (h.takes [] (λ more e. cc)) };
  stands = (h.first, h.token, h.begins, h.spans);
}

-- ---- the tokens of a text

-- a token is that of its class and text
token_again : (t : Token) → t ≡ token_of (lexeme_of t).0 (lexeme_of t).1
token_again brace_open = refl
token_again brace_close = refl
token_again paren_open = refl
token_again paren_close = refl
token_again bracket_open = refl
token_again bracket_close = refl
token_again colon = refl
token_again comma = refl
token_again (token.number text) = refl
token_again (token.label text) = refl
token_again (token.char text) = refl
token_again (token.string text) = refl
token_again (token.multiline text) = refl

-- what stands after tokens of a text
record TakenTo (p : Place) (ts : List Token) (r : List ℕ) : Type 0 where
  pub last : Place
  pub taken : TakesTokens p ts last
  pub left : remainder_of last.lexer ≡ r

-- the tokens at the start of what is left are taken
prefix_taken : (p : Place) (ts : List Token) (r : List ℕ) → Prefix (remainder_of p.lexer) (map lexeme_of ts) r → TakenTo p ts r
prefix_taken p [] r e = record { last = p; taken = refl; left = e }
prefix_taken p (t ∷ ts) r (g, k, whitespace_is, longest, text, more) =
    let l = p.lexer in
    let q : Place = record { lexer = record { source = l.source; start = l.end + g; end = l.end + g + k }; taken = p.taken + 1 } in
    let step : TakesItem p (Some (Ok (lexeme_of t).0)) q = ((g, k, record { source = refl; skipped = whitespace_is; start = refl; end = refl }, longest), refl) in
    let text_is : text_at q ≡ take k (drop g (remainder_of l)) =
    ap (λ z. take z (drop (l.end + g) l.source)) (omega arith) ∙ ap (take k) (sym (drop-drop g l.end l.source)) in
    let left : drop (g + k) (remainder_of l) ≡ remainder_of q.lexer = drop-drop (g + k) l.end l.source ∙ ap (λ z. drop z l.source) (omega arith) in
    let token_is : t ≡ token_of (lexeme_of t).0 (text_at q) = token_again t ∙ ap (token_of (lexeme_of t).0) (text ∙ sym text_is) in
    let rest = prefix_taken q ts r (subst (λ z. Prefix z (map lexeme_of ts) r) left more) in
    record { last = rest.last; taken = (q, ((lexeme_of t).0, step, token_is), rest.taken); left = rest.left }

-- all tokens of a text, and the end after them
pub record AllOf (p : Place) (ts : List Token) : Type 0 where
  pub last : Place
  pub taken : TakesTokens p ts last
  pub ends : (behind : Place) × TakesItem last None behind

pub all_from : (p : Place) (ts : List Token) → TokenizesTo (remainder_of p.lexer) ts → AllOf p ts
all_from p ts (r, prefix, whitespace_is) =
    let it = prefix_taken p ts r prefix in
    let l = it.last.lexer in
    let n = length (remainder_of l) in
    record {
      last = it.last;
      taken = it.taken;
      ends = (
        record { lexer = record { source = l.source; start = l.end + n; end = l.end + n + 0 }; taken = it.last.taken + 1 },
        (record { source = refl; skipped = subst (λ z. IsWhitespace z (length z)) (sym it.left) whitespace_is; start = refl; end = refl }, refl),
      );
    }

pub all_of : (s : List ℕ) (ts : List Token) → TokenizesTo s ts → AllOf (start_of s) ts
all_of s ts cut = all_from (start_of s) ts cut

abbrev item : lex.Token → Item
item c = Some (Ok c)

-- no token stands at the end
no_token_there : (p behind : Place) → TakesItem p None behind → (t : Token) (q : Place) → TakesToken p t q → ⊥
no_token_there p behind h t q (c, k, e) = apart c (next_one p.lexer q.lexer behind.lexer (Some (Ok c)) None k.0 h.0).1
  where
    apart : (c : lex.Token) → item c ≡ None → ⊥
    apart c e = cc

-- nothing stands at the end
pub nothing_there : (p behind q : Place) → TakesItem p None behind → TakesAny p q → ⊥
nothing_there p behind q h (None, something, k) = something
nothing_there p behind q h (Some x, something, k) = apart x (next_one p.lexer q.lexer behind.lexer (Some x) None k.0 h.0).1
  where
    apart : (x : Result lex.Token (Range ℕ)) → Some x ≡ None → ⊥
    apart x e = cc

pub all_are_next : (p : Place) (ts : List Token) → AllOf p ts → AreNext p ts
all_are_next p ts h = (h.last, h.taken, no_token_there h.last h.ends.0 h.ends.1)

-- tokens after which none is next are all
pub all_taken : (p q : Place) (prefix ts : List Token) → TakesTokens p prefix q → AreNext q [] → (h : AllOf p ts) → (prefix ≡ ts) × (q ≡ h.last)
all_taken p q [] [] e next h = (refl, sym e ∙ h.taken)
all_taken p q [] (u ∷ ts) e (last, same, none) h = let (k, one, others) = h.taken in absurd (none u k (subst (λ z. TakesToken z u k) (e ∙ same) one))
all_taken p q (t ∷ prefix) [] (m, one, more) next h = absurd (no_token_there h.last h.ends.0 h.ends.1 t m (subst (λ z. TakesToken z t m) h.taken one))
all_taken p q (t ∷ prefix) (u ∷ ts) (m, one, more) next h =
    let (k, other, others) = h.taken in
    let (tokens, there) = token_one p m k t u one other in
    let rest : AllOf m ts = record { last = h.last; taken = subst (λ z. TakesTokens z ts h.last) (sym there) others; ends = h.ends } in
    let (a, b) = all_taken m q prefix ts more next rest in
    (ap (λ z. z ∷ prefix) tokens ∙ ap (λ z. u ∷ z) a, b)

-- ---- the meaning

-- the tokens that were taken up to the end are those of what was left
pub cut_from : (p q : Place) (tokens : List Token) → TakesTokens p tokens q → ((behind : Place) × TakesItem q None behind) → TokenizesTo (remainder_of p.lexer) tokens
cut_from p q tokens taken (behind, ends) =
    let n = length p.lexer.source + q.lexer.end in
    let prefix = tokens_prefix p q tokens n taken (omega arith) in
    let r = remainder_of q.lexer in
    let start_left = length-drop p.lexer.end p.lexer.source in
    let end_left = length-drop q.lexer.end q.lexer.source in
    let whole : take n (remainder_of p.lexer) ≡ remainder_of p.lexer = take_all n (remainder_of p.lexer) (omega (arith, start_left)) in
    let rest : take (n - (q.lexer.end - p.lexer.end)) r ≡ r = take_all (n - (q.lexer.end - p.lexer.end)) r (let e = same_length in omega (arith, e, end_left)) in
    (r, subst (λ z. Prefix z (map lexeme_of tokens) r) whole (subst (λ z. Prefix (take n (remainder_of p.lexer)) (map lexeme_of tokens) z) rest prefix), ends.0.skipped)
  where
    same_length : length q.lexer.source ≡ length p.lexer.source
    same_length = ap length (tokens_source p q tokens taken)

-- so those of a whole text are all its tokens
pub all_cut : (s : List ℕ) (p : Place) (tokens : List Token) → TakesTokens (start_of s) tokens p → ((behind : Place) × TakesItem p None behind) → TokenizesTo s tokens
all_cut s p tokens taken ends = cut_from (start_of s) p tokens taken ends

-- a text whose tokens are those of the tree means its value
pub means_of : (T : TypeTree) (n : ℕ) (s : List ℕ) (p : Place) (t : Tree) (v : Value) → IsTaken n (start_of s) p t → ((behind : Place) × TakesItem p None behind) → TreeReads T t v → Means T n s v
means_of T n s p t v h ends reads = (h.tokens, all_cut s p h.tokens h.taken ends, back T n h.tokens t v [] h.takes reads)

-- what the parser read of a text that means something is its whole tree
pub record IsWhole (T : TypeTree) (t : Tree) (p : Place) (v : Value) : Type 0 where
  pub reads : TreeReads T t v
  pub ends : (behind : Place) × TakesItem p None behind

pub whole_read : (T : TypeTree) (n : ℕ) (s : List ℕ) (p : Place) (t : Tree) (v : Value) → LeadsBehindValue n value [] (start_of s) p [] → IsTaken n (start_of s) p t → Means T n s v → IsWhole T t p v
whole_read T n s p t v read h (tokens, cut, reads) =
    let all = all_of s tokens cut in
    let (u, takes, tree_reads) = through T n tokens v [] reads (λ more e. cc) in
    let (w, rest, others, next) = read_have_tree n (start_of s) p tokens read (all_are_next (start_of s) tokens all) in
    let same = one_tree n n tokens u w [] rest takes others in
    let ends = subst (AreNext p) (sym same.1) next in
    let (tokens_are, place_is) = all_taken (start_of s) p h.tokens tokens h.taken ends all in
    let trees = one_tree n n tokens u t [] [] takes (subst (λ z. tree.Takes n z t []) tokens_are h.takes) in
    record {
      reads = subst (λ z. TreeReads T z v) trees.0 tree_reads;
      ends = subst (λ z. (behind : Place) × TakesItem z None behind) (sym place_is) all.ends;
    }

-- where no tree stands a text means nothing
pub refused_means_none : (T : TypeTree) (n : ℕ) (s : List ℕ) (e : Diagnostic) (p : Place) → IsSyntaxError e n value [] (start_of s) p → MeansNone T n s
refused_means_none T n s e p h v (tokens, cut, reads) =
    let all = all_of s tokens cut in
    let (u, takes, tree_reads) = through T n tokens v [] reads (λ more e. cc) in
    refused_have_none n e (start_of s) p tokens h (all_are_next (start_of s) tokens all) u [] takes

-- ---- the answers

pub memory_or : (k : ParserErrorKind) → (k ≡ kind.OutOfMemory) ⊎ (k ≢ kind.OutOfMemory)
memory_or kind.OutOfMemory = inl refl
memory_or k = inr (λ e. cc)
