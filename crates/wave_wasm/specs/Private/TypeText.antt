-- The text of a type and of a function.
use Rattle.std.specs.Prelude.{ℕ, zero, suc, List, [], ◌∷◌, ◌++◌, codes}

-- the name at this place and `: `, or nothing where there is none
abbrev pub name_part : List (List ℕ) → ℕ → List ℕ
name_part [] n = []
name_part (name ∷ names) zero = name ++ codes ": "
name_part (name ∷ names) (suc n) = name_part names n
