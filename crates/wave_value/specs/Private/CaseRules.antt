-- What the constructors of variants, flags and maps accept, and what their refusals say.
use Rattle.std.specs.Prelude.{ℕ, suc, ◌≡◌, ◌++◌, if◌then◌else◌, Bool, List, [], ◌∷◌, Option, Some, None, Result, MatchResult}
use Rattle.std.specs.Borrow.{Bor}
use Rattle.std.specs.BTreeMap.{BTreeMap}
use Rattle.wave_wasm.specs.Names.{AreAllOf, is_one_of}
use Rattle.wave_wasm.specs.declared.wasm.WasmValueError.{WasmValueError}
use Rattle.wave_value.specs.CaseRules.{RefusesNames}
use Rattle.wave_value.specs.Private.RecordConstructor.{held}

-- the map has these names as keys and no others, and marks those of them that are among the others
abbrev pub MarksNames : BTreeMap (Bor (List ℕ)) Bool → List (List ℕ) → List (List ℕ) → Type 0
MarksNames m names marked = (name : List ℕ) → held m name ≡ (if is_one_of names name then Some (is_one_of marked name) else None)

-- the new map marks the name too, where it is one of the keys; found says whether it is
abbrev pub MarksOneMore : BTreeMap (Bor (List ℕ)) Bool → BTreeMap (Bor (List ℕ)) Bool → List ℕ → Bool → Type 0
MarksOneMore old new name found =
    (names marked : List (List ℕ)) → MarksNames old names marked →
    MarksNames new names (marked ++ name ∷ []) × (found ≡ is_one_of names name)

-- where the map has these names as keys, each is among those that it marks; or one that isn't is refused
abbrev pub ReportsUnmarked : BTreeMap (Bor (List ℕ)) Bool → List (List ℕ) → Result Unit WasmValueError → Type 0
ReportsUnmarked m names r = (marked : List (List ℕ)) → MarksNames m names marked → MatchResult r (λ _. AreAllOf marked names) (RefusesNames marked names)

-- the first place behind this one, where there is one, and else the first of all
abbrev pub behind : Option ℕ → ℕ
behind None = 0
behind (Some last) = suc last
