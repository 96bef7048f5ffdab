-- What a parser is in a contract.
use Rattle.std.specs.Prelude.{ℕ, ◌≡◌, ◌+◌, ◌≤◌, max, true, List, [], ◌∷◌, codes, Option, Some, None, Result, Ok, Err}
use Rattle.std.specs.declared.ops.Range.{Range}
use Rattle.wave_lex.specs.declared.found.Found.{Found}
use Rattle.wave_lex.specs.declared.lex.Token as lex
use Rattle.wave_lex.specs.declared.error.ParserErrorKind.TheVariants.{InvalidToken, UnexpectedEnd, UnexpectedToken, OutOfMemory}
use Rattle.wave_lex.specs.Errors.{Diagnostic, Says, class_name}
use Rattle.wave_lex.specs.Tokenization.{Lexed, NextIs, item_of, span}
use Rattle.wave_grammar.specs.ParserPosition.{Place, Item, TakesItem, span_at}
use Rattle.wave_tree.specs.ParserState.{HasTokens, HoldsNoBrace, Fails}

-- tokens that are taken one by one: the place, and how many items are at hand
pub record Stream : Type 0 where
  pub place : Place
  pub ahead : ℕ

-- the tokens that the lexer has left
abbrev pub stream_of : Lexed → Stream
stream_of l = record { place = record { lexer = l; taken = 0 }; ahead = 0 }

-- how often the lexer was asked
abbrev pub asked_of : Stream → ℕ
asked_of s = s.place.taken + s.ahead

-- where n tokens stand, the lexer is asked for them and for one item more at most
abbrev pub AsksFor : Stream → Stream → Type 0
AsksFor old new = (n : ℕ) → HasTokens old.place n → asked_of new ≤ max (asked_of old) (old.place.taken + n + 1)

-- out of memory is answered only where this holds, or a `{` stands among the tokens from the place on
abbrev pub OnlyOutOfMemory : Type 0 → Place → Diagnostic → Type 0
OnlyOutOfMemory Takes p e = e.kind ≡ OutOfMemory → HoldsNoBrace p → Takes

-- how many items are at hand
abbrev pub ahead_count : Option Found → ℕ
ahead_count None = 0
ahead_count (Some item) = 1

-- the lexer after the last item that was taken, where it stands at l but for the items at hand
abbrev pub lexer_of : Lexed → Lexed → Option Found → Lexed
lexer_of l before None = l
lexer_of l before (Some item) = before

-- what is at hand stands next, and the lexer after it is this one
abbrev pub IsAhead : Lexed → Lexed → Option Found → Type 0
IsAhead l next None = Unit {0}
IsAhead l next (Some item) = NextIs l next (item_of item next)

-- this is the source of the lexer, and this the span of its last item
abbrev pub IsStart : Lexed → List ℕ → Range ℕ → Type 0
IsStart l source last = (source ≡ l.source) × (last ≡ span l.start l.end)

-- the item, which was taken last, is refused
abbrev pub IsRefused : Diagnostic → Item → Place → Type 0
IsRefused e (Some (Ok c)) p = Says e UnexpectedToken (span_at p) (Some (class_name c))
IsRefused e (Some (Err bad)) p = Says e InvalidToken bad None
IsRefused e None p = Says e UnexpectedEnd (span_at p) None

-- the next token was taken, or what stands next is no token
abbrev pub Advances : Result lex.Token Diagnostic → Place → Place → Type 0
Advances (Ok c) old new = TakesItem old (Some (Ok c)) new
Advances (Err e) old new = Fails (λ _. Unit {0}) e old new

-- the next token was taken, and is of this class; or what stands next is none of this class
abbrev pub Expects : lex.Token → Result (Unit {0}) Diagnostic → Place → Place → Type 0
Expects class (Ok u) old new = TakesItem old (Some (Ok class)) new
Expects class (Err e) old new = Fails (λ c. c ≡ class) e old new
