-- What the answers to reading a value say of the tokens that stand there.
use Rattle.std.specs.Prelude.{ℕ, ◌≡◌, ◌⊎◌, ◌+◌, ◌≤◌, List, [], length}
use Rattle.wave_lex.specs.Tokenization.{Lexed}
use Rattle.wave_grammar.specs.Token.{Token}
use Rattle.wave_grammar.specs.Tree as tree
use Rattle.wave_grammar.specs.Tree.{Tree}
use Rattle.wave_grammar.specs.ParserPosition.{Place, TakesToken, TakesTokens}
use Rattle.wave_grammar.specs.PrefixAutomaton.{value}
use Rattle.wave_grammar.specs.SyntaxErrors.{LeadsBehindValue, IsSyntaxError}
use Rattle.wave_tree.specs.ParserState.{Parsing, asked, HasTokens, Asks, IsTrailing}
use Rattle.wave_lex.specs.Errors.{Diagnostic, LiesInText}

-- the tokens from the place on, up to the end or to what is no token
abbrev pub AreNext : Place → List Token → Type 0
AreNext p ts = (last : Place) × TakesTokens p ts last × ((t : Token) (q : Place) → TakesToken last t q → ⊥)

-- where a value was read within n levels, a tree stood within n levels, and the tokens after it are next
abbrev pub ReadHaveATree : Type 0
ReadHaveATree =
    (n : ℕ) (p q : Place) (ts : List Token) → LeadsBehindValue n value [] p q [] → AreNext p ts
    → (t : Tree) × (rest : List Token) × tree.Takes n ts t rest × AreNext q rest

-- where a value was refused, no tree stood within n levels
abbrev pub RefusedHaveNone : Type 0
RefusedHaveNone =
    (n : ℕ) (e : Diagnostic) (p q : Place) (ts : List Token) → IsSyntaxError e n value [] p q → AreNext p ts
    → (t : Tree) (rest : List Token) → tree.Takes n ts t rest → ⊥

-- before n tokens a new parser asks n + 1 times at most to read a value, and, where it has read one, to look whether something follows
abbrev pub LexerCallsBounded : Type 0
LexerCallsBounded =
    (n : ℕ) (p q r : Parsing) → HasTokens p.place n → asked p ≡ 0 → Asks p q →
    (asked q ≤ n + 1) × (LeadsBehindValue p.limit value [] p.place q.place [] → asked r ≡ q.place.taken + 1 → asked r ≤ n + 1)

-- the last item of a lexer lies in its source
abbrev pub LiesInSource : Lexed → Type 0
LiesInSource l = (l.start ≤ l.end) × (l.end ≤ length l.source)

-- the span of a syntax refusal, and of what follows a value, lies in the source
abbrev pub RefusalsLieInText : Type 0
RefusalsLieInText =
    (e : Diagnostic) (p : Place) → LiesInSource p.lexer
    → ((n : ℕ) × (q : Place) × IsSyntaxError e n value [] p q) ⊎ IsTrailing e p → LiesInText p.lexer.source e.span
