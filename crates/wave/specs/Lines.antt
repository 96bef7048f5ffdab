-- Lines of text.
use Rattle.std.specs.Prelude.{ℕ, ◌≡◌, ◌==◌, false, List, [], ◌∷◌, ◌++◌}
use Rattle.std.specs.List.{All}

-- the text and a line feed
abbrev pub line : List ℕ → List ℕ
line words = words ++ 10 ∷ []

-- no byte is a line feed
abbrev pub IsInOneLine : List ℕ → Type 0
IsInOneLine bytes = All (λ b. (b == 10) ≡ false) bytes
