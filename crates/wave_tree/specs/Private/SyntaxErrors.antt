-- The syntax refusals of a parser: which stands where, and at which span.
use Rattle.std.specs.Prelude.{ℕ, ◌≡◌, ◌+◌, List, ◌++◌, Result, length}
use Rattle.wave_lex.specs.Errors.{Diagnostic}
use Rattle.wave_grammar.specs.ParserPosition.{Place}
use Rattle.wave_grammar.specs.PrefixAutomaton.{Expectation, StackSymbol}
use Rattle.wave_grammar.specs.SyntaxErrors.{Gives}

-- so within all open forms, where this many levels are left, after forms that the call itself is to close
abbrev pub GivesWithin : {X : Type 0} → Result X Diagnostic → ℕ → Expectation → List StackSymbol → Place → Place → Type 0
GivesWithin result levels d opened old new =
    (n : ℕ) (s : List StackSymbol) → n ≡ levels + length s → Gives result n d (opened ++ s) old new s

-- the answer where no level is needed
abbrev pub GivesAnywhere : {X : Type 0} → Result X Diagnostic → Expectation → Place → Place → Type 0
GivesAnywhere result d old new = (n : ℕ) (s : List StackSymbol) → Gives result n d s old new s
