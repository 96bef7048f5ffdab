-- How a file is shown.
use Rattle.std.specs.Prelude.{ℕ, List, ◌≡◌, if◌then◌else◌, take, chars, codes, string_bytes}
use Rattle.std.specs.Str.{bytes_eq}
use Rattle.wave_place.specs.Shown.{shown_text}
use Rattle.wave_files.specs.declared.answers.FileName.{FileName}

-- the name of a file as it is shown, of which at most 4096 scalars are; `-` is the standard input
abbrev pub shown_name : List ℕ → List ℕ
shown_name path = if bytes_eq path (codes "-") then codes "<stdin>" else shown_text (take 4096 (chars path))

-- the file of this path
pub record IsNameOf (path : List ℕ) (name : FileName) : Type 0 where
  pub path_is : string_bytes name.path ≡ path
  pub shown_is : string_bytes name.shown ≡ shown_name path
