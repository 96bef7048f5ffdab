-- What of a string or of a multiline string is left to decode.
use Rattle.std.specs.Prelude.{ℕ, ◌+◌, suc, List, [], ◌∷◌, length}
use Rattle.wave_lex.specs.Multiline.{pieces}

-- what is not decoded yet, and its place in the source
pub record Undecoded : Type 0 where
  pub rest : List ℕ
  pub pos : ℕ

-- what of a multiline string is not decoded yet: of the line that is read; the lines after it, and the place of the first of them; how many spaces each loses
pub record LinesLeft : Type 0 where
  pub line : Undecoded
  pub later : List (List ℕ)
  pub next : ℕ
  pub indent : ℕ

-- a string is one line
abbrev pub one_line : Undecoded → LinesLeft
one_line s = record { line = s; later = []; next = 0; indent = 0 }

-- all but the last
abbrev pub but_last : List (List ℕ) → List (List ℕ)
but_last [] = []
but_last (p ∷ []) = []
but_last (p ∷ q ∷ ps) = p ∷ but_last (q ∷ ps)

-- the lines of s that a line feed ends
abbrev pub ended_lines : List ℕ → List (List ℕ)
ended_lines s = but_last (pieces s)

-- how many bytes the lines take, with a line feed each
abbrev pub lines_size : List (List ℕ) → ℕ
lines_size [] = 0
lines_size (p ∷ ps) = suc (length p + lines_size ps)

-- how much is left
abbrev pub size_of : LinesLeft → ℕ
size_of l = length l.line.rest + lines_size l.later
