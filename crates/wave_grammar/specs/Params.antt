-- The values of a call's parameters.
use Rattle.std.specs.Prelude.{ℕ, ◌≡◌, ◌⊎◌, List, [], ◌∷◌}
use Rattle.wave_wasm.specs.Types.{TypeTree}
use Rattle.wave_wasm.specs.Values.{Value, option, no_value}
use Rattle.wave_grammar.specs.Token.{Token, paren_open, paren_close, comma}
use Rattle.wave_grammar.specs.CommaSeparated.{Closes}
use Rattle.wave_grammar.specs.TypedGrammar.{Reads, IsOption}

-- the parameters that a call leaves out: options, each `none`
abbrev pub Omitted : List TypeTree → List Value → Type 0
Omitted [] vs = vs ≡ []
Omitted (T ∷ more) vs = (others : List Value) × IsOption T × Omitted more others × (vs ≡ option no_value ∷ others)

-- what stands after a parameter
abbrev pub FurtherParams : List TypeTree → List Token → List Value → Type 0
FurtherParams [] tokens vs = Closes paren_close tokens [] × (vs ≡ [])
FurtherParams (T ∷ more) tokens vs =
    Closes paren_close tokens [] × Omitted (T ∷ more) vs
    ⊎ ((n : ℕ) × (prefix : List Token) × (behind : List Token) × (v : Value) × (others : List Value)
    × (tokens ≡ comma ∷ prefix) × Reads T n prefix v behind × FurtherParams more behind others × (vs ≡ v ∷ others))

-- the parameters in their parentheses
abbrev pub Params : List TypeTree → List Token → List Value → Type 0
Params [] tokens vs = (tokens ≡ paren_open ∷ paren_close ∷ []) × (vs ≡ [])
Params (T ∷ more) tokens vs =
    (tokens ≡ paren_open ∷ paren_close ∷ []) × Omitted (T ∷ more) vs
    ⊎ ((n : ℕ) × (prefix : List Token) × (behind : List Token) × (v : Value) × (others : List Value)
    × (tokens ≡ paren_open ∷ prefix) × Reads T n prefix v behind × FurtherParams more behind others × (vs ≡ v ∷ others))
