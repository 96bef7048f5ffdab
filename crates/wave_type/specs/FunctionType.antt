-- The type of a function, and the function that the traits speak of.
use Rattle.std.specs.Prelude.{ℕ, Bool, true, false, if◌then◌else◌, List, [], ◌∷◌, String, map}
use Rattle.std.specs.declared.alloc.Global.{Global}
use Rattle.wave_wasm.specs.Types.{TypeTree}
use Rattle.wave_wasm.specs.TypeText.{Func}
use Rattle.wave_type.specs.TypeModel.{by_bytes}

-- the type of a function: parameters and results by their names and types; the empty name is none
pub record FunctionType : Type 0 where
  pub params : List (List ℕ × TypeTree)
  pub results : List (List ℕ × TypeTree)

-- the type of a function with these parameters and results
abbrev pub function_of : List (String Global × TypeTree) → List (String Global × TypeTree) → FunctionType
function_of params results = record { params = map by_bytes params; results = map by_bytes results }

-- the names, in their order
abbrev pub names_of : List (List ℕ × TypeTree) → List (List ℕ)
names_of parts = map (λ p. p.0) parts

-- the types, in their order
abbrev pub types_of : List (List ℕ × TypeTree) → List TypeTree
types_of parts = map (λ p. p.1) parts

-- there is one alone, and it has the empty name
abbrev pub is_one_unnamed : List (List ℕ × TypeTree) → Bool
is_one_unnamed (([], T) ∷ []) = true
is_one_unnamed _ = false

-- the names of results: none where there is one result without a name
abbrev pub result_names : List (List ℕ × TypeTree) → List (List ℕ)
result_names results = if is_one_unnamed results then [] else names_of results

-- the function that has this type
abbrev pub func_of : FunctionType → Func
func_of f =
    record { params = types_of f.params; param_names = names_of f.params; results = types_of f.results; result_names = result_names f.results }
