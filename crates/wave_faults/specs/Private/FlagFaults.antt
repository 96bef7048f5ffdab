-- What is wrong with one flag.
use Rattle.std.specs.Prelude.{ℕ, List}
use Rattle.std.specs.declared.ops.Range.{Range}
use Rattle.wave_wasm.specs.Names.{IsNoneOf}
use Rattle.wave_wasm.specs.ValueErrors.{unknown_case}
use Rattle.wave_grammar.specs.TypeErrors.{Blame, RefusesFor}

-- a flag that is none of the names, at this span
abbrev pub UnknownFlag : List (List ℕ) → List ℕ → Range ℕ → Blame
UnknownFlag names name p k q = IsNoneOf names name × RefusesFor (unknown_case name) p k q
