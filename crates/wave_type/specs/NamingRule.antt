-- Which names parameters and results may have.
use Rattle.std.specs.Prelude.{ℕ, ◌≡◌, ◌⊎◌, ◌&&◌, ◌==◌, Bool, nat_lt, length, List, Option, Some, None, MatchOption, if◌then◌else◌, codes}
use Rattle.std.specs.List.{list_any}
use Rattle.wave_wasm.specs.Types.{TypeTree}
use Rattle.wave_wasm.specs.ValueErrors.{Cause, other, memory}
use Rattle.wave_type.specs.FunctionType.{FunctionType}

-- the name is empty, so there is none
abbrev pub is_unnamed : List ℕ × TypeTree → Bool
is_unnamed part = length part.0 == 0

-- there is more than one
abbrev pub are_several : List (List ℕ × TypeTree) → Bool
are_several parts = nat_lt 1 (length parts)

-- why names are refused: a parameter has none, else one of several results has none
abbrev pub naming_fault : FunctionType → Option Cause
naming_fault f =
    if list_any is_unnamed f.params
    then Some (other (codes "func params must be named"))
    else if are_several f.results && list_any is_unnamed f.results
    then Some (other (codes "funcs with more than one result must have all results named"))
    else None

-- the names are refused for this cause, or for lack of memory in its place
abbrev pub RefusesNames : FunctionType → Cause → Type 0
RefusesNames f cause = MatchOption (naming_fault f) ⊥ (λ fault. (cause ≡ fault) ⊎ (cause ≡ memory))
