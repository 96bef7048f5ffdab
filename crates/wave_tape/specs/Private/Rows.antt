-- Bytes of parts that stand one behind the other.
use Rattle.std.specs.Prelude.{ℕ, List, [], ◌∷◌, ◌++◌}
use Rattle.std.specs.List.{flat_map}

-- the bytes of each; 0 where there are none
abbrev pub row_or_zero : {X : Type 0} → (X → List ℕ) → List X → List ℕ
row_or_zero f [] = 0 ∷ []
row_or_zero f (x ∷ xs) = f x ++ flat_map f xs
