-- Which names are labels, and which types have distinct ones.
use Rattle.std.specs.Prelude.{ℕ, List}
use Rattle.wave_wasm.specs.Lists.{AllOf}
use Rattle.wave_wasm.specs.Types.{TypeTree, EachNames, HasDistinctNames}
use Rattle.wave_lex.specs.Regex.{Matches}
use Rattle.wave_lex.specs.Tokens.{label}

-- the name is a label; its bytes are its scalars, as a label is ASCII
abbrev pub IsLabel : List ℕ → Type 0
IsLabel name = Matches label name

-- within each record, variant, enum and flags the names are labels
abbrev pub HasLabels : TypeTree → Type 0
HasLabels T = EachNames (AllOf IsLabel) T

-- there they are labels and distinct
abbrev pub HasDistinctLabels : TypeTree → Type 0
HasDistinctLabels T = HasLabels T × HasDistinctNames T
