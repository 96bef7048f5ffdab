-- What a machine has seen of the prefixes of a text, counted in scalars.
use Rattle.std.specs.Prelude.{◌≡◌, ℕ, ◌≤◌, true, List, Option, Some, None, take, length, encode_utf8_all}
use Rattle.wave_lex.specs.Regex.{Regex}
use Rattle.wave_lex.specs.Derive.{nullable, derivative_by}
use Rattle.wave_lex.specs.LongestMatch.{Greatest}

-- how many bytes the first i scalars take
abbrev pub place_of : List ℕ → ℕ → ℕ
place_of cs i = length (encode_utf8_all (take i cs))

-- the place after the longest prefix
abbrev pub place_of_seen : List ℕ → Option ℕ → Option ℕ
place_of_seen cs None = None
place_of_seen cs (Some i) = Some (place_of cs i)

-- the longest prefix among those of at most i scalars
abbrev pub SeenTo : Regex → List ℕ → ℕ → Option ℕ → Type 0
SeenTo r cs i o = Greatest (λ k. (k ≤ i) × (nullable (derivative_by (take k cs) r) ≡ true)) o

-- what a machine that started as r and stands as q has seen of i scalars
pub record Seen (r q : Regex) (cs : List ℕ) (i place : ℕ) (longest : Option ℕ) : Type 0 where
  pub best : Option ℕ
  pub rest : derivative_by (take i cs) r ≡ q
  pub prefixes : SeenTo r cs i best
  pub at : place ≡ place_of cs i
  pub found : longest ≡ place_of_seen cs best
