-- The syntax refusals of a parser: which stands where, and at which span.
use Rattle.std.specs.Prelude.{ℕ, ◌≡◌, ◌≢◌, ◌⊎◌, ◌≤◌, ◌<◌, List, Some, None, Result, Ok, Err, length}
use Rattle.std.specs.declared.ops.Range.{Range}
use Rattle.wave_lex.specs.declared.lex.Token as lex
use Rattle.wave_lex.specs.declared.error.ParserErrorKind.{ParserErrorKind}
use Rattle.wave_lex.specs.declared.error.ParserErrorKind.TheVariants.{EmptyTuple, InvalidToken, UnexpectedEnd}
use Rattle.wave_lex.specs.declared.error.ParserErrorKind.TheVariants.{UnexpectedToken, DuplicateFlag, NestingTooDeep, OutOfMemory}
use Rattle.wave_lex.specs.Errors.{Diagnostic, class_name, repeated_name, Says}
use Rattle.wave_lex.specs.Tokenization.{span}
use Rattle.wave_grammar.specs.Token.{Token, paren_open}
use Rattle.wave_grammar.specs.LeafTokens.{name_of}
use Rattle.wave_grammar.specs.ParserPosition.{Place, TakesItem, TakesToken, TakesTokens, token_of, span_at, text_at}
use Rattle.wave_grammar.specs.PrefixAutomaton.{Expectation, StackSymbol, behind_value, behind_label}
use Rattle.wave_grammar.specs.PrefixAutomaton.{Step, unexpected, empty_tuple, repeated_flag, too_deep, step, Shifts, IsValueExpected}

-- a value is expected where n forms are open, and its form's close doesn't stand there
pub record IsTooDeep (n : ℕ) (d : Expectation) (open_forms : List StackSymbol) (at : Place) : Type 0 where
  pub full : n ≤ length open_forms
  pub expected : IsValueExpected d
  pub no_close : (t : Token) (new : Place) → TakesToken at t new → step n d open_forms t ≡ too_deep

-- the token after the place `at` is this step where d is expected, and ends at the place `new`
abbrev pub Steps : ℕ → Expectation → List StackSymbol → Place → lex.Token → Place → Step → Type 0
Steps n d open_forms at c new s = TakesItem at (Some (Ok c)) new × (step n d open_forms (token_of c (text_at new)) ≡ s)

-- the refusal of this kind stands at the place `at`, where d is expected; the parser is left at the place `new`
abbrev pub StandsAt : ParserErrorKind → Diagnostic → ℕ → Expectation → List StackSymbol → Place → Place → Type 0
StandsAt EmptyTuple e n d open_forms at new =
    (c : lex.Token) × Steps n d open_forms at c new empty_tuple × Says e EmptyTuple (span at.lexer.start new.lexer.end) None
StandsAt InvalidToken e n d open_forms at new =
    (bad : Range ℕ) × TakesItem at (Some (Err bad)) new × (IsTooDeep n d open_forms at → ⊥) × Says e InvalidToken bad None
StandsAt UnexpectedEnd e n d open_forms at new =
    TakesItem at None new × (IsTooDeep n d open_forms at → ⊥) × Says e UnexpectedEnd (span_at new) None
StandsAt UnexpectedToken e n d open_forms at new =
    (c : lex.Token) × Steps n d open_forms at c new unexpected × Says e UnexpectedToken (span_at new) (Some (class_name c))
StandsAt DuplicateFlag e n d open_forms at new =
    (c : lex.Token) × Steps n d open_forms at c new repeated_flag × Says e DuplicateFlag (span_at new) (Some (repeated_name (name_of (text_at new))))
StandsAt NestingTooDeep e n d open_forms at new =
    IsTooDeep n d open_forms at × (at ≡ new) × Says e NestingTooDeep (span_at at) None
StandsAt _ e n d open_forms at new = ⊥

-- something is expected within the value
abbrev pub IsWithin : Expectation → Type 0
IsWithin behind_value = ⊥
IsWithin behind_label = ⊥
IsWithin _ = Unit {0}

-- more is expected of the outermost value
abbrev pub IsUnfinished : Expectation → List StackSymbol → Type 0
IsUnfinished d open_forms = IsWithin d ⊎ (0 < length open_forms)

-- from the place old, where d is expected, tokens lead to the refusal; the parser is left at the place new
pub record IsSyntaxError (e : Diagnostic) (n : ℕ) (d : Expectation) (open_forms : List StackSymbol) (old new : Place) : Type 0 where
  pub tokens : List Token
  pub at : Place
  pub expected_there : Expectation
  pub open_there : List StackSymbol
  pub taken : TakesTokens old tokens at
  pub leads : Shifts n d open_forms tokens expected_there open_there
  pub unfinished : IsUnfinished expected_there open_there
  pub stands : StandsAt e.kind e n expected_there open_there at new

-- the error is out of memory, or that refusal
abbrev pub FailsBySyntax : Diagnostic → ℕ → Expectation → List StackSymbol → Place → Place → Type 0
FailsBySyntax e n d open_forms old new = (e.kind ≢ OutOfMemory) → IsSyntaxError e n d open_forms old new

-- a value was read and no more is expected of it
abbrev pub IsBehind : Expectation → Place → Type 0
IsBehind d at = (d ≡ behind_value) ⊎ (d ≡ behind_label) × ((new : Place) → TakesToken at paren_open new → ⊥)

-- from the place old, where d is expected, tokens lead to the end of a value, which takes as many forms as it closes
pub record LeadsBehindValue (n : ℕ) (d : Expectation) (open_forms : List StackSymbol) (old new : Place) (behind : List StackSymbol) : Type 0 where
  pub tokens : List Token
  pub taken : TakesTokens old tokens new
  pub expected_there : Expectation
  pub is_behind : IsBehind expected_there new
  pub leads : Shifts n d open_forms tokens expected_there behind

-- the answer of a call that reads from where d is expected
abbrev pub Gives : {X : Type 0} → Result X Diagnostic → ℕ → Expectation → List StackSymbol → Place → Place → List StackSymbol → Type 0
Gives (Ok x) n d open_forms old new behind = LeadsBehindValue n d open_forms old new behind
Gives (Err e) n d open_forms old new behind = FailsBySyntax e n d open_forms old new
