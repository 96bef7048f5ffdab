-- What may stand where a text is refused for its syntax.
use Rattle.std.specs.Prelude.{ℕ, ◌≡◌, ◌⊎◌, ◌+◌, List, [], Some, map, length}
use Rattle.wave_lex.specs.declared.lex.Token as lex
use Rattle.wave_lex.specs.declared.error.ParserErrorKind.TheVariants.{UnexpectedToken, UnexpectedEnd, InvalidToken}
use Rattle.wave_lex.specs.Errors.{Diagnostic, class_name}
use Rattle.wave_grammar.specs.ParserPosition.{Place}
use Rattle.wave_grammar.specs.PrefixAutomaton as expectation
use Rattle.wave_grammar.specs.PrefixAutomaton.{Expectation, StackSymbol, value, Shifts}
use Rattle.wave_grammar.specs.SyntaxErrors.{IsSyntaxError}
use Rattle.wave_tree.specs.ParserState.{start_of}
use Rattle.wave_expected.specs.Expected.{Placed, token_at, MayFollow, StandBefore, open_brackets}

-- an item of the source is refused as it stands: a token, the end or what is no token
abbrev pub IsOfItem : Diagnostic → Type 0
IsOfItem e = (e.kind ≡ UnexpectedToken) ⊎ (e.kind ≡ UnexpectedEnd) ⊎ (e.kind ≡ InvalidToken)

-- where an item of a source is refused, the tokens before its span are those that were read
abbrev pub ReadTokensStandBefore : Type 0
ReadTokensStandBefore =
    (source : List ℕ) (n : ℕ) (e : Diagnostic) (new : Place) (before : List Placed) → (error : IsSyntaxError e n value [] (start_of source) new) → IsOfItem e
    → StandBefore (start_of source).lexer e.span.start before → map (token_at source) before ≡ error.tokens

-- where a token is unexpected, no token of its class may stand after the tokens before its span
abbrev pub UnexpectedMayNotFollow : Type 0
UnexpectedMayNotFollow =
    (source : List ℕ) (n : ℕ) (e : Diagnostic) (new : Place) (before : List Placed) → IsSyntaxError e n value [] (start_of source) new → e.kind ≡ UnexpectedToken
    → StandBefore (start_of source).lexer e.span.start before → (c : lex.Token) × (e.detail ≡ Some (class_name c)) × (MayFollow n (map (token_at source) before) c → ⊥)

-- how many braces are open in which no value is expected or was just read, so that they are no open form
abbrev pub bare_braces : Expectation → ℕ
bare_braces expectation.in_braces = 1
bare_braces expectation.no_fields = 1
bare_braces (expectation.behind_word text) = 1
bare_braces expectation.key = 1
bare_braces expectation.behind_key = 1
bare_braces (expectation.flag names) = 1
bare_braces (expectation.behind_flag names) = 1
bare_braces _ = 0

-- after tokens that are led as many brackets are open as forms are, and such braces
abbrev pub BracketsAreForms : Type 0
BracketsAreForms =
    (source : List ℕ) (n : ℕ) (before : List Placed) (d : Expectation) (s : List StackSymbol) → Shifts n value [] (map (token_at source) before) d s
    → length (open_brackets before) ≡ length s + bare_braces d
