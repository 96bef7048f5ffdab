-- The type of a function as something that can be stored, by which two are told apart.
use Rattle.std.specs.Prelude.{ℕ, List, refl}
use Rattle.std.specs.Coded.{Coded, code_by, coded×, coded_ℕ, coded_list}
use Rattle.wave_wasm.specs.Types.{TypeTree}
use Rattle.wave_wasm.specs.TypeTreeEncoding.{tree_code}
use Rattle.wave_type.specs.FunctionType.{FunctionType}

-- how names and types are stored
abbrev pub parts_code : Coded (List (List ℕ × TypeTree))
parts_code = coded_list (coded× (coded_list coded_ℕ) tree_code)

-- how the type of a function is stored
abbrev pub function_code : Coded FunctionType
function_code =
    code_by (List (List ℕ × TypeTree) × List (List ℕ × TypeTree)) (coded× parts_code parts_code)
    (λ f. (f.params, f.results)) (λ p. record { params = p.0; results = p.1 }) (λ _. refl)
