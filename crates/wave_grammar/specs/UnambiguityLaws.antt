-- What holds of the grammar.
use Rattle.std.specs.Prelude.{ℕ, ◌≡◌, List, [], ◌++◌}
use Rattle.wave_wasm.specs.Types.{TypeTree}
use Rattle.wave_wasm.specs.Values.{Value}
use Rattle.wave_grammar.specs.Token.{Token}
use Rattle.wave_grammar.specs.TypedGrammar.{Reads}

-- a spelling that begins a spelling is that spelling, with its value
abbrev pub OneReading : TypeTree → Type 0
OneReading T =
    (n m : ℕ) (tokens others rest : List Token) (v w : Value) → Reads T n tokens v [] → Reads T m others w [] → others ≡ tokens ++ rest →
    (tokens ≡ others) × (v ≡ w)
