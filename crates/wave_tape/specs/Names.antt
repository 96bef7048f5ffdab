-- Names that are texts, as every `&str` is.
use Rattle.std.specs.Prelude.{ℕ, List}
use Rattle.std.specs.Str.{IsUtf8}
use Rattle.wave_wasm.specs.Lists.{AllOf}
use Rattle.wave_wasm.specs.Types.{TypeTree, EachNames}

-- each name is UTF-8
abbrev pub AreTexts : List (List ℕ) → Type 0
AreTexts names = AllOf IsUtf8 names

-- within each record, variant, enum and flags each name is UTF-8
abbrev pub HasTextNames : TypeTree → Type 0
HasTextNames T = EachNames AreTexts T
