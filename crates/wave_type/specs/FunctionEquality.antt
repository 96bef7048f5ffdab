-- Whether two types of functions are one, as a test.
use Rattle.std.specs.Prelude.{ℕ, Bool, ◌&&◌, List}
use Rattle.std.specs.Str.{bytes_eq}
use Rattle.std.specs.Cmp.Lexicographic.{pointwise}
use Rattle.wave_wasm.specs.Types.{TypeTree}
use Rattle.wave_type.specs.TypeEquality.{same_tree}
use Rattle.wave_type.specs.FunctionType.{FunctionType}

-- name and type are one
abbrev pub same_part : List ℕ × TypeTree → List ℕ × TypeTree → Bool
same_part p q = bytes_eq p.0 q.0 && same_tree p.1 q.1

-- names and types are one, one by one
abbrev pub same_parts : List (List ℕ × TypeTree) → List (List ℕ × TypeTree) → Bool
same_parts = pointwise same_part

-- parameters and results are one
abbrev pub same_function : FunctionType → FunctionType → Bool
same_function f g = same_parts f.params g.params && same_parts f.results g.results
