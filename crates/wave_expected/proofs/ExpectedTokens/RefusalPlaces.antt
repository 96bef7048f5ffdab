-- Where a text is refused, the tokens before are those that were read, and none of the refused token's class may follow them.
use Rattle.std.proofs.Common.{ℕ, ◌≡◌, ◌≢◌, ◌<◌, ◌≤◌, ◌+◌, ◌-◌, inl, inr, List, [], ◌∷◌, ◌++◌, length, Option, Some, None, Result, Ok, Err, Bool, true, false, refl, sym, ap, subst, ◌∙◌, arith}
use Rattle.std.specs.Prelude.{if◌then◌else◌, nat_lt, map, slice_range}
use Rattle.std.specs.declared.ops.Range.{Range}
use Rattle.wave_lex.specs.declared.lex.Token as lex
use Rattle.wave_lex.specs.declared.lex.Token.TheVariants.{LabelOrKeyword}
use Rattle.wave_lex.specs.Errors.{Diagnostic, Refusal}
use Rattle.wave_lex.specs.Tokens.{shape}
use Rattle.wave_lex.specs.Tokenization.{Lexed, NextIs, span, remainder_of}
use Rattle.wave_lex.proofs.Tokenization.Classes.{shape_not_empty}
use Rattle.wave_lex.proofs.LongestPrefix.ByComputing.{prefix_positive}
use Rattle.wave_lex.proofs.Tokenization.NextToken.{next_one}
use Rattle.wave_grammar.specs.Token.{Token, label}
use Rattle.wave_wasm.specs.Names.{is_one_of}
use Rattle.wave_grammar.specs.LeafTokens.{name_of}
use Rattle.wave_grammar.specs.Tree.{word_of}
use Rattle.wave_grammar.specs.ParserPosition.{Place, TakesTokens, token_of, text_at}
use Rattle.wave_grammar.specs.PrefixAutomaton as expectation
use Rattle.wave_grammar.specs.PrefixAutomaton.{Expectation, StackSymbol, Step, step, reads, unexpected, too_deep, level_step, value_step}
use Rattle.wave_grammar.specs.SyntaxErrors.{StandsAt}
use Rattle.wave_tree.specs.ParserState.{start_of}
use Rattle.wave_expected.specs.declared.expected.moves.Move.{Move}
use Rattle.wave_expected.specs.Private.Moves.{next_move, expected_of, innermost}
use Rattle.wave_expected.specs.Expected.{Placed, token_at, TakesPlaced, IsViable}
use Rattle.wave_expected.specs.ExpectedLaws.{IsOfItem, ReadTokensStandBefore, UnexpectedMayNotFollow}
use Rattle.wave_expected.proofs.ExpectedTokens.Moves.{LeadsBy, IsMove, move_is_step}
use Rattle.wave_expected.proofs.ExpectedTokens.ViablePrefixes.{viable_then}
use Rattle.wave_expected.proofs.ExpectedTokens.MayStand.{sample_start, begins_so, no_label_closes, no_label_behind}
use Rattle.wave_expected.proofs.ExpectedTokens.PlacedTokens.{no_token, no_token_at_end}

-- ---- the tokens before a place

-- a token ends past where the one before it ends, and its end is past its start
token_moves : (l m : Lexed) (c : lex.Token) → NextIs l m (Some (Ok c)) → (l.end ≤ m.start) × (m.start < m.end)
token_moves l m c (g, k, p, t) =
    let some : 0 < k = prefix_positive (shape c) _ k (shape_not_empty c) t.is.0 in
    let begins : m.start ≡ l.end + g = p.start in
    let ends : m.end ≡ l.end + g + k = p.end in
    (omega arith, omega arith)

-- tokens end no earlier than they begin
pub placed_end : (l m : Lexed) (ps : List Placed) → TakesPlaced l ps m → l.end ≤ m.end
placed_end l m [] e = let same : l.end ≡ m.end = ap (λ (z : Lexed). z.end) e in omega arith
placed_end l m (p ∷ ps) (k, next, at, more) =
    let (a, b) = token_moves l k p.0 next in
    let later : k.end ≤ m.end = placed_end k m ps more in
    omega arith

-- no token ends by the place
abbrev pub NoneBy : Lexed → ℕ → Type 0
NoneBy l at = (c : lex.Token) (next : Lexed) → NextIs l next (Some (Ok c)) → at < next.end

-- the tokens that end by a place, as many as there are, are these alone
one_before : (l m k : Lexed) (at : ℕ) (ps qs : List Placed) → TakesPlaced l ps m → TakesPlaced l qs k → m.end ≤ at → k.end ≤ at → NoneBy m at → NoneBy k at → ps ≡ qs
one_before l m k at [] [] h g mb kb mn kn = refl
one_before l m k at [] (q ∷ qs) h (w, next, is, more) mb kb mn kn =
    let past : at < w.end = mn q.0 w (subst (λ z. NextIs z w (Some (Ok q.0))) h next) in
    let by : w.end ≤ k.end = placed_end w k qs more in
    absurd (omega arith)
one_before l m k at (p ∷ ps) [] (w, next, is, more) g mb kb mn kn =
    let past : at < w.end = kn p.0 w (subst (λ z. NextIs z w (Some (Ok p.0))) g next) in
    let by : w.end ≤ m.end = placed_end w m ps more in
    absurd (omega arith)
one_before l m k at (p ∷ ps) (q ∷ qs) (w, next, is, more) (v, next', is', more') mb kb mn kn =
    let (lexers, items) = next_one l w v (Some (Ok p.0)) (Some (Ok q.0)) next next' in
    let classes : p.0 ≡ q.0 = class_of_item p.0 q.0 items in
    let places : p.1 ≡ q.1 = is ∙ (ap (λ (z : Lexed). span z.start z.end) lexers ∙ sym is') in
    let heads : p ≡ q = λ i. (classes i, places i) in
    let tails : ps ≡ qs = one_before v m k at ps qs (subst (λ z. TakesPlaced z ps m) lexers more) more' mb kb mn kn in
    λ i. heads i ∷ tails i
  where
    class_of_item : (c d : lex.Token) → ◌≡◌ {A = Option (Result lex.Token (Range ℕ))} (Some (Ok c)) (Some (Ok d)) → c ≡ d
    class_of_item c d e = cc

-- the tokens that a parser takes, by their places
taken_placed : (source : List ℕ) (p q : Place) (ts : List Token) → p.lexer.source ≡ source → TakesTokens p ts q → (ps : List Placed) × TakesPlaced p.lexer ps q.lexer × (map (token_at source) ps ≡ ts)
taken_placed source p q [] s e = ([], ap (λ (z : Place). z.lexer) e, refl)
taken_placed source p q (t ∷ ts) s (m, (c, item, is), more) =
    let same : m.lexer.source ≡ source = next_source p.lexer m.lexer c item.0 ∙ s in
    let (ps, taken, are) = taken_placed source m q ts same more in
    let here : token_at source (c, span m.lexer.start m.lexer.end) ≡ t = ap (λ (x : List ℕ). token_of c (slice_range x m.lexer.start m.lexer.end)) (sym same) ∙ sym is in
    ((c, span m.lexer.start m.lexer.end) ∷ ps, (m.lexer, item.0, refl, taken), λ i. here i ∷ are i)
  where
    next_source : (l k : Lexed) (c : lex.Token) → NextIs l k (Some (Ok c)) → k.source ≡ l.source
    next_source l k c (g, j, passes, is) = passes.source

-- ---- a refused item

-- where the span of an error begins
span_starts : (e : Diagnostic) (l : Lexed) → e.span ≡ span l.start l.end → e.span.start ≡ l.start
span_starts e l h = ap (λ (r : Range ℕ). r.start) h

-- nothing ends by the start of a token that is next
token_there : (e : Diagnostic) (l m : Lexed) (c : lex.Token) → NextIs l m (Some (Ok c)) → e.span.start ≡ m.start → (l.end ≤ e.span.start) × NoneBy l e.span.start
token_there e l m c next starts =
    let (a, b) = token_moves l m c next in
    (omega arith, λ f k h. ends k (next_one l m k (Some (Ok c)) (Some (Ok f)) next h).0)
  where
    ends : (k : Lexed) → m ≡ k → e.span.start < k.end
    ends k same = subst (λ (z : Lexed). e.span.start < z.end) same (let (a, b) = token_moves l m c next in omega arith)

-- nor by that of what is no token
bad_there : (e : Diagnostic) (l m : Lexed) (bad : Range ℕ) → NextIs l m (Some (Err bad)) → e.span.start ≡ m.start → (l.end ≤ e.span.start) × NoneBy l e.span.start
bad_there e l m bad (g, k, p, is, at) starts =
    let begins : m.start ≡ l.end + g = p.start in
    (omega arith, λ f k' h. absurd (no_token l m k' f bad (g, k, p, is, at) h))

-- nor by the end
end_there : (e : Diagnostic) (l m : Lexed) → NextIs l m None → e.span.start ≡ m.start → (l.end ≤ e.span.start) × NoneBy l e.span.start
end_there e l m p starts =
    let begins : m.start ≡ l.end + length (remainder_of l) = p.start in
    (omega arith, λ f k h. absurd (no_token_at_end l m k f p h))

-- nothing that is a token ends by the start of the span of a refused item
stands_there : (e : Diagnostic) (n : ℕ) (d : Expectation) (s : List StackSymbol) (at new : Place) → IsOfItem e → StandsAt e.kind e n d s at new → (at.lexer.end ≤ e.span.start) × NoneBy at.lexer e.span.start
stands_there e n d s at new (inl k) stands =
    let (c, steps, says) = subst (λ z. StandsAt z e n d s at new) k stands in
    token_there e at.lexer new.lexer c steps.0.0 (span_starts e new.lexer says.stands)
stands_there e n d s at new (inr (inl k)) stands =
    let (item, room, says) = subst (λ z. StandsAt z e n d s at new) k stands in
    end_there e at.lexer new.lexer item.0 (span_starts e new.lexer says.stands)
stands_there e n d s at new (inr (inr k)) stands =
    let (bad, item, room, says) = subst (λ z. StandsAt z e n d s at new) k stands in
    bad_there e at.lexer new.lexer bad item.0 (span_starts e new.lexer (says.stands ∙ bad_is at.lexer new.lexer bad item.0))
  where
    bad_is : (l m : Lexed) (bad : Range ℕ) → NextIs l m (Some (Err bad)) → bad ≡ span m.start m.end
    bad_is l m bad (g, k, p, is, at) = at

-- the tokens before are those that were read
pub read_stand_before : ReadTokensStandBefore
read_stand_before source n e new before error item stand =
    let (by, none) = stands_there e n error.expected_there error.open_there error.at new item error.stands in
    let (ps, taken, are) = taken_placed source (start_of source) error.at error.tokens refl error.taken in
    let same : before ≡ ps = one_before (start_of source).lexer stand.last error.at.lexer e.span.start before ps stand.taken taken stand.before by stand.all none in
    ap (map (token_at source)) same ∙ are

-- ---- an unexpected token

-- no label that begins a value is unexpected
label_begins : (n : ℕ) (s : List StackSymbol) (text : List ℕ) → level_step n s (label text) ≡ unexpected → ⊥
label_begins n s text h = which (nat_lt (length s) n) h
  where
    which : (b : Bool) → if b then value_step s (label text) else too_deep ≡ unexpected → ⊥
    which true k = let w : reads (expectation.expected_behind (word_of text)) s ≡ unexpected = k in cc
    which false k = let w : too_deep ≡ unexpected = k in cc

-- nor at an item
label_item : (n : ℕ) (s : List StackSymbol) (text : List ℕ) (close : Step) → if expectation.closes s (label text) then close else level_step n s (label text) ≡ unexpected → ⊥
label_item n s text close h = label_begins n s text (subst (λ b. if b then close else level_step n s (label text) ≡ unexpected) (no_label_closes s text) h)

-- a flag is read or repeated
label_flag : (b : Bool) (e : Expectation) (s : List StackSymbol) → if b then expectation.repeated_flag else reads e s ≡ unexpected → ⊥
label_flag true e s h = let w : expectation.repeated_flag ≡ unexpected = h in cc
label_flag false e s h = let w : reads e s ≡ unexpected = h in cc

-- where one label is unexpected no other is read
label_unexpected : (n : ℕ) (d : Expectation) (s : List StackSymbol) (text other : List ℕ) (e : Expectation) (r : List StackSymbol) → step n d s (label text) ≡ unexpected → step n d s (label other) ≡ reads e r → ⊥
label_unexpected n expectation.value s text other e r h k = label_begins n s text h
label_unexpected n expectation.first_item s text other e r h k = label_item n s text (expectation.closed_empty s) h
label_unexpected n expectation.next_item s text other e r h k = label_item n s text (expectation.closed s) h
label_unexpected n expectation.behind_value s text other e r h k = no_label_behind s other e r k
label_unexpected n expectation.behind_label s text other e r h k = no_label_behind s other e r k
label_unexpected n expectation.paren s text other e r h k = let w : unexpected ≡ reads e r = k in cc
label_unexpected n expectation.in_braces s text other e r h k = let w : reads (expectation.behind_word text) s ≡ unexpected = h in cc
label_unexpected n expectation.no_fields s text other e r h k = let w : unexpected ≡ reads e r = k in cc
label_unexpected n (expectation.behind_word word) s text other e r h k = let w : unexpected ≡ reads e r = k in cc
label_unexpected n expectation.key s text other e r h k = let w : reads expectation.behind_key s ≡ unexpected = h in cc
label_unexpected n expectation.behind_key s text other e r h k = let w : unexpected ≡ reads e r = k in cc
label_unexpected n (expectation.flag names) s text other e r h k = label_flag (is_one_of names (name_of text)) (expectation.behind_flag (names ++ name_of text ∷ [])) s h
label_unexpected n (expectation.behind_flag names) s text other e r h k = let w : unexpected ≡ reads e r = k in cc

-- by a move that is none nothing is read
by_move : (m : Move) (text other : List ℕ) (d : Expectation) (s : List StackSymbol) (e : Expectation) (r : List StackSymbol) → IsMove m text d s unexpected → IsMove m other d s (reads e r) → ⊥
by_move m text other d s e r h k = subst (λ z. LeadsBy z other d s e r) h k

-- where a token is unexpected that is no label, no other of its class is read
other_class : (n : ℕ) (d : Expectation) (s : List StackSymbol) (c : lex.Token) (text other : List ℕ) (e : Expectation) (r : List StackSymbol) → c ≢ LabelOrKeyword → step n d s (token_of c text) ≡ unexpected → step n d s (token_of c other) ≡ reads e r → ⊥
other_class n d s c text other e r apart h k =
    let m = next_move (expected_of d) (innermost s) (n - length s) c (sample_start c) in
    by_move m text other d s e r (subst (IsMove m text d s) h (move_is_step n d s c text (sample_start c) (begins_so c text apart)))
    (subst (IsMove m other d s) k (move_is_step n d s c other (sample_start c) (begins_so c other apart)))

-- where one token is unexpected no other of its class is read
class_unexpected : (n : ℕ) (d : Expectation) (s : List StackSymbol) (c : lex.Token) (text other : List ℕ) (e : Expectation) (r : List StackSymbol) → step n d s (token_of c text) ≡ unexpected → step n d s (token_of c other) ≡ reads e r → ⊥
class_unexpected n d s LabelOrKeyword text other e r h k = label_unexpected n d s text other e r h k
class_unexpected n d s c text other e r h k = other_class n d s c text other e r (λ w. cc) h k

-- no token of the class may stand after the tokens before
pub unexpected_may_not_follow : UnexpectedMayNotFollow
unexpected_may_not_follow source n e new before error is stand =
    let (c, steps, says) = subst (λ z. StandsAt z e n error.expected_there error.open_there error.at new) is error.stands in
    let same = read_stand_before source n e new before error (inl is) stand in (
      c,
      ap (λ (z : Refusal). z.detail) says.is,
      λ follows.
          let (text, token, viable) = follows in
          let (f, r, h, goes) = viable_then n error.tokens error.expected_there error.open_there (token_of c text) error.leads (subst (λ ts. IsViable n (ts ++ token_of c text ∷ [])) same viable) in
          class_unexpected n error.expected_there error.open_there c (text_at new) text f r steps.1 h,
    )
