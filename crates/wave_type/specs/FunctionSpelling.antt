-- Which texts spell the type of a function.
use Rattle.std.specs.Prelude.{ℕ, ◌≡◌, ◌<◌, ◌⊎◌, max, List, [], ◌∷◌, codes}
use Rattle.wave_wasm.specs.Names.{AreDistinct}
use Rattle.wave_wasm.specs.Types.{TypeTree, fields_of, field_names}
use Rattle.wave_type.specs.declared.error.TypeErrorKind.{TypeErrorKind}
use Rattle.wave_type.specs.declared.error.TypeErrorKind.TheVariants.{OutOfMemory}
use Rattle.wave_type.specs.FunctionType.{FunctionType}
use Rattle.wave_type.specs.TypeSpelling.{Tokens, IsTokenizedTo, Spells, SpellsFields, levels_of_fields}

-- names and types through `)`, or `)` alone; no name stands twice
abbrev pub SpellsParts : List (List ℕ × TypeTree) → Tokens → Tokens → Type 0
SpellsParts [] ts rest = ts ≡ codes ")" ∷ rest
SpellsParts (part ∷ parts) ts rest = SpellsFields (codes ")") (fields_of (part ∷ parts)) ts rest × AreDistinct (field_names (fields_of (part ∷ parts)))

-- what stands after the parameters: nothing, `->` and a type, or `->` and names and types in parentheses
abbrev pub SpellsResults : List (List ℕ × TypeTree) → Tokens → Type 0
SpellsResults [] ts = ts ≡ []
SpellsResults (([], T) ∷ []) ts = (m : Tokens) × (ts ≡ codes "-" ∷ codes ">" ∷ m) × Spells T m []
SpellsResults results ts = (m : Tokens) × (ts ≡ codes "-" ∷ codes ">" ∷ codes "(" ∷ m) × SpellsParts results m []

-- the tokens spell the type of the function
abbrev pub SpellsFunction : FunctionType → Tokens → Type 0
SpellsFunction f ts =
    (m l : Tokens) × (ts ≡ codes "func" ∷ codes "(" ∷ m) × SpellsParts f.params m l × SpellsResults f.results l

-- the text spells the type of the function
abbrev pub IsFunctionOf : List ℕ → FunctionType → Type 0
IsFunctionOf text f = (ts : Tokens) × IsTokenizedTo text ts × SpellsFunction f ts

-- how many types stand one inside another in the parameters and results
abbrev pub levels_of_function : FunctionType → ℕ
levels_of_function f = max (levels_of_fields (fields_of f.params)) (levels_of_fields (fields_of f.results))

-- the text spells no function within n levels, or there was no memory
abbrev pub IsNoFunctionWithin : ℕ → List ℕ → TypeErrorKind → Type 0
IsNoFunctionWithin n text kind = (kind ≡ OutOfMemory) ⊎ ((f : FunctionType) → IsFunctionOf text f → n < levels_of_function f)

-- so within a hundred levels
abbrev pub IsNoFunction : List ℕ → TypeErrorKind → Type 0
IsNoFunction text kind = IsNoFunctionWithin 100 text kind
