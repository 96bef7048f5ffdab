-- Texts with commas between: what stands before a later item, and behind an earlier one.
use Rattle.std.specs.Prelude.{ℕ, Bool, if◌then◌else◌, List, [], ◌∷◌, ◌++◌, codes}

-- a comma where an item stands before
abbrev pub comma_if : Bool → List ℕ
comma_if later = if later then codes ", " else []

-- the texts, each before a comma
abbrev pub with_commas : List (List ℕ) → List ℕ
with_commas [] = []
with_commas (s ∷ ss) = s ++ (codes ", " ++ with_commas ss)
