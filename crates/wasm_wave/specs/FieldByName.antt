-- The field of a record that has a name.
use Rattle.std.specs.Prelude.{ℕ, ◌≡◌, ◌≢◌, ◌++◌, List, ◌∷◌}
use Rattle.wave_wasm.specs.Lists.{AllOf}
use Rattle.wave_wasm.specs.Values.{Value}

-- no field has the name
abbrev pub HasNoField : List ℕ → List (List ℕ × Value) → Type 0
HasNoField name fields = AllOf (λ f. f.0 ≢ name) fields

-- the first field of the name has this value
abbrev pub IsFirstField : List ℕ → List (List ℕ × Value) → Value → Type 0
IsFirstField name fields value =
    (before : List (List ℕ × Value)) × (behind : List (List ℕ × Value)) × (fields ≡ before ++ (name, value) ∷ behind) × HasNoField name before
