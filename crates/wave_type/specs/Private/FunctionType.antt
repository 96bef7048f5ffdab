-- The function type that was read of its parts.
use Rattle.std.specs.Prelude.{ℕ, List}
use Rattle.std.specs.Borrow.{Bor}
use Rattle.wave_wasm.specs.Borrowed.{named}
use Rattle.wave_wasm.specs.Types.{TypeTree}
use Rattle.wave_type.specs.FunctionType.{FunctionType}

-- the function type of these parameters and results, whose names are borrowed
abbrev pub named_function : List (Bor (List ℕ) × TypeTree) → List (Bor (List ℕ) × TypeTree) → FunctionType
named_function params results = record { params = named params; results = named results }
