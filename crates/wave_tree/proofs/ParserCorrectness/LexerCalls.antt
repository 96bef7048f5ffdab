-- How often a parser asks its lexer.
use Rattle.std.proofs.Common.{ℕ, ◌≡◌, ◌+◌, ◌-◌, List, [], ◌∷◌, ◌++◌, length, length-append, Some, Ok, refl, sym, arith}
use Rattle.wave_lex.specs.declared.lex.Token as lex
use Rattle.wave_grammar.specs.Token.{Token}
use Rattle.wave_grammar.specs.ParserPosition.{Place, TakesItem, TakesTokens, token_of, text_at}
use Rattle.wave_grammar.specs.PrefixAutomaton.{Expectation, StackSymbol}
use Rattle.wave_grammar.specs.PrefixAutomaton as expectation
use Rattle.wave_grammar.specs.SyntaxErrors.{LeadsBehindValue}
use Rattle.wave_tree.specs.ParserState.{HasTokens}
use Rattle.wave_tree.specs.Private.TokenRoles.{form_of, IsClose}
use Rattle.wave_tree.specs.Private.ParserState.{Stream, asked_of, AsksFor}
use Rattle.wave_tree.specs.ParserLaws.{LexerCallsBounded}
use Rattle.wave_tree.proofs.ParserCorrectness.Steps.{Reached, IsItemExpected, tokens_join, taken_count, then_reached, item_read, no_close}

-- nothing was asked for
pub asks_none : (p q : Stream) → asked_of q ≡ asked_of p → AsksFor p q
asks_none p q e = λ n h. omega (arith, e)

-- one item was asked for
pub asks_once : (p q : Stream) → asked_of q ≡ p.place.taken + 1 → AsksFor p q
asks_once p q e = λ n h. omega (arith, e)

-- after tokens that were taken
pub asks_behind : (p q r : Stream) (ts : List Token) → TakesTokens p.place ts q.place → AsksFor p q → AsksFor q r → AsksFor p r
asks_behind p q r ts taken first then_more = λ n h.
    let count = taken_count p.place q.place ts taken in
    let fits = h ts q.place taken in
    let left : HasTokens q.place (n - length ts) = λ us w more. let all = h (ts ++ us) w (tokens_join p.place q.place w ts us taken more) in let parts = length-append ts us in omega arith in
    let a = first n h in
    let b = then_more (n - length ts) left in
    omega arith

-- after one token that was taken
pub asks_token : (p q r : Stream) (c : lex.Token) → TakesItem p.place (Some (Ok c)) q.place → asked_of q ≡ p.place.taken + 1 → AsksFor q r → AsksFor p r
asks_token p q r c h e more = asks_behind p q r (token_of c (text_at q.place) ∷ []) (q.place, (c, h, refl), refl) (asks_once p q e) more

-- after a look at the next item
pub asks_looked : (p q r : Stream) → q.place ≡ p.place → asked_of q ≡ p.place.taken + 1 → AsksFor q r → AsksFor p r
asks_looked p q r stays e more = asks_behind p q r [] (sym stays) (asks_once p q e) more

-- after a value that was read
pub asks_read : (n : ℕ) (d : Expectation) (s v : List StackSymbol) (p q r : Stream) → LeadsBehindValue n d s p.place q.place v → AsksFor p q → AsksFor q r → AsksFor p r
asks_read n d s v p q r read first more = asks_behind p q r read.tokens read.taken first more

-- after tokens that lead there
pub asks_reached : (n : ℕ) (d e : Expectation) (s v : List StackSymbol) (p q r : Stream) → Reached n d s p.place e v q.place → AsksFor p q → AsksFor q r → AsksFor p r
asks_reached n d e s v p q r h first more = asks_behind p q r h.tokens h.taken first more

-- after a value that was read
pub asks_value : (levels : ℕ) (p q r : Stream) → ((n : ℕ) (s : List StackSymbol) → n ≡ levels + length s → LeadsBehindValue n expectation.value s p.place q.place s) → AsksFor p q → AsksFor q r → AsksFor p r
asks_value levels p q r read first more = asks_read levels expectation.value [] [] p q r (read levels [] (omega arith)) first more

-- where an item is expected
abbrev pub IsExpectedAt : ℕ → lex.Token → Place → Place → Type 0
IsExpectedAt levels close old at =
    (n : ℕ) (s : List StackSymbol) → n ≡ levels + 1 + length s → (d : Expectation) × IsItemExpected d × Reached n expectation.first_item (form_of close ∷ s) old d (form_of close ∷ s) at

-- after the first token of an item, which was taken there
pub asks_begun : (levels : ℕ) (close token : lex.Token) (old this new : Stream) (at : Place) → IsExpectedAt levels close old.place at → TakesItem at (Some (Ok token)) this.place → AsksFor old this → AsksFor this new → AsksFor old new
asks_begun levels close token old this new at led there first more =
    let (d, i, r) = led (levels + 1) [] (omega arith) in
    asks_behind old this new (r.tokens ++ token_of token (text_at this.place) ∷ []) (tokens_join old.place at this.place r.tokens (token_of token (text_at this.place) ∷ []) r.taken (this.place, (token, there, refl), refl)) first more

-- after an item
pub asks_item : (levels : ℕ) (close : lex.Token) (old behind new : Stream) (at : Place) → IsClose close → ((next : Place) × TakesItem at (Some (Ok close)) next → ⊥) → IsExpectedAt levels close old.place at →
    ((n : ℕ) (s : List StackSymbol) → n ≡ levels + length s → LeadsBehindValue n expectation.value s at behind.place s) → AsksFor old behind → AsksFor behind new → AsksFor old new
asks_item levels close old behind new at is_close none led read first more =
    let (d, i, r) = led (levels + 1) [] (omega arith) in
    let item = read (levels + 1) (form_of close ∷ []) (omega arith) in
    let h = then_reached r (item_read d i (no_close close [] at is_close none) item) in
    asks_behind old behind new h.tokens h.taken first more

-- after the entries so far
pub asks_entries : (levels : ℕ) (old at new : Stream) → ((n : ℕ) (s : List StackSymbol) → n ≡ levels + 1 + length s → Reached n expectation.behind_key s old.place expectation.behind_key s at.place) → AsksFor old at → AsksFor at new → AsksFor old new
asks_entries levels old at new led first more = asks_reached (levels + 1) expectation.behind_key expectation.behind_key [] [] old at new (led (levels + 1) [] (omega arith)) first more

-- a new parser asks for the tokens that stand there and for one item more at most
pub few : LexerCallsBounded
few n p q r has new asks =
    let first = asks n has in
    (omega arith, λ read look. let all = has read.tokens q.place read.taken in let count = taken_count p.place q.place read.tokens read.taken in omega arith)
