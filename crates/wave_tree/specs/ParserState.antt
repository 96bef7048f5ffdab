-- What a parser is in a contract.
use Rattle.std.specs.Prelude.{ℕ, ◌≡◌, ◌⊎◌, ◌+◌, ◌≤◌, max, length, List, Some, None, Result, Ok, Err}
use Rattle.std.specs.declared.ops.Range.{Range}
use Rattle.wave_lex.specs.declared.lex.Token as lex
use Rattle.wave_lex.specs.declared.lex.Token.TheVariants as lex_class
use Rattle.wave_lex.specs.declared.error.ParserErrorKind.TheVariants.{InvalidToken, UnexpectedEnd, UnexpectedToken, TrailingCharacters, OutOfMemory}
use Rattle.wave_lex.specs.Errors.{Diagnostic, class_name, Says}
use Rattle.wave_lex.specs.Tokenization.{Lexed}
use Rattle.wave_grammar.specs.Token.{Token}
use Rattle.wave_grammar.specs.ParserPosition.{Place, TakesItem, TakesAny, TakesTokens, span_at}

-- a parser: its place, how many items it has at hand, and how many levels a value may have
pub record Parsing : Type 0 where
  pub place : Place
  pub ahead : ℕ
  pub limit : ℕ

-- what a parser may be handed as its limit
abbrev pub IsLimit : ℕ → Type 0
IsLimit n = (1 ≤ n) × (n ≤ 1000)

-- a parser that took nothing yet, before what the lexer has left, with the limit that is kept where none is handed in
abbrev pub first_at : Lexed → Parsing
first_at l = record { place = record { lexer = l; taken = 0 }; ahead = 0; limit = 100 }

-- the same parser with another limit
abbrev pub limited : Parsing → ℕ → Parsing
limited p n = record { place = p.place; ahead = p.ahead; limit = n }

-- before the text
abbrev pub start_of : List ℕ → Place
start_of s = record { lexer = record { source = s; start = 0; end = 0 }; taken = 0 }

-- how often the lexer was asked
abbrev pub asked : Parsing → ℕ
asked p = p.place.taken + p.ahead

-- no more than n tokens stand from the place on, before the end or what is no token
abbrev pub HasTokens : Place → ℕ → Type 0
HasTokens p n = (ts : List Token) (q : Place) → TakesTokens p ts q → length ts ≤ n

-- where n tokens stand, the lexer is asked for them and for one item more at most
abbrev pub Asks : Parsing → Parsing → Type 0
Asks old new = (n : ℕ) → HasTokens old.place n → asked new ≤ max (asked old) (old.place.taken + n + 1)

-- no `{` stands among the tokens from the place on
abbrev pub HoldsNoBrace : Place → Type 0
HoldsNoBrace p = (ts : List Token) (q r : Place) → TakesTokens p ts q → TakesItem q (Some (Ok lex_class.BraceOpen)) r → ⊥

-- the mark of a tuple or of a list stands next
abbrev pub BeginsRow : Place → Type 0
BeginsRow p = (q : Place) × (TakesItem p (Some (Ok lex_class.ParenOpen)) q ⊎ TakesItem p (Some (Ok lex_class.BracketOpen)) q)

-- no token of the wanted classes stands next
abbrev pub Fails : (lex.Token → Type 0) → Diagnostic → Place → Place → Type 0
Fails Wanted e old new =
    ((bad : Range ℕ) × TakesItem old (Some (Err bad)) new × Says e InvalidToken bad None)
    ⊎ (TakesItem old None new × Says e UnexpectedEnd (span_at new) None)
    ⊎ ((c : lex.Token) × TakesItem old (Some (Ok c)) new × (Wanted c → ⊥) × Says e UnexpectedToken (span_at new) (Some (class_name c)))

-- `TrailingCharacters`, at what stands next
abbrev pub IsTrailing : Diagnostic → Place → Type 0
IsTrailing e p = (behind : Place) × TakesAny p behind × Says e TrailingCharacters (span_at behind) None

-- nothing is left but whitespace, or what stands next is refused
abbrev pub Finishes : Result (Unit {0}) Diagnostic → Place → Type 0
Finishes (Ok u) p = (behind : Place) × TakesItem p None behind
Finishes (Err e) p = IsTrailing e p

-- out of memory leaves the place as it was, and names the last item before it
abbrev pub StaysWithout : Diagnostic → Place → Place → Type 0
StaysWithout e old new = e.kind ≡ OutOfMemory → (new.lexer ≡ old.lexer) × Says e OutOfMemory (span_at old) None
