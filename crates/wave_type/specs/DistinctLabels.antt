-- Which types of functions have names that are distinct labels.
use Rattle.std.specs.Prelude.{ℕ, List}
use Rattle.wave_wasm.specs.Lists.{AllOf}
use Rattle.wave_wasm.specs.Names.{AreDistinct}
use Rattle.wave_wasm.specs.Types.{TypeTree}
use Rattle.wave_lex.specs.Labels.{IsLabel, HasDistinctLabels}
use Rattle.wave_type.specs.FunctionType.{FunctionType, names_of, types_of, result_names}

-- the names are distinct labels, and so are those within each of the types
abbrev pub HaveDistinctLabels : List (List ℕ) → List TypeTree → Type 0
HaveDistinctLabels names types = AllOf IsLabel names × AreDistinct names × AllOf HasDistinctLabels types

-- so it is of the parameters, and of the results, among which one alone may have no name
abbrev pub FunctionHasDistinctLabels : FunctionType → Type 0
FunctionHasDistinctLabels f = HaveDistinctLabels (names_of f.params) (types_of f.params) × HaveDistinctLabels (result_names f.results) (types_of f.results)
