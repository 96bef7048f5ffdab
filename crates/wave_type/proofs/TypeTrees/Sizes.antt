-- The sizes of the types among parts.
use Rattle.std.proofs.Common.{arith, ℕ, ◌≤◌, ◌<◌, ◌*◌, suc, max, List, [], ◌∷◌, map}
use Rattle.std.specs.Prelude.{Option, Some, None, String}
use Rattle.std.specs.declared.alloc.Global.{Global}
use Rattle.wave_wasm.specs.Types.{TypeTree, types_of, fields_of, cases_of, depth_of_types, depth_of_fields, depth_of_cases}
use Rattle.wave_type.specs.TypeModel.{by_bytes}
use Rattle.wave_type.specs.declared.ty.Type.TheDeep.{size-Type}
use denote.Param.Weighed.{most}

-- what is at most twice a number is below what is more
pub below : {a t : ℕ} (b : ℕ) → a ≤ 2 * b → 2 * b < t → a < t
below b p q = omega arith

pub types_most : (ts : List TypeTree) → most (λ t. size-Type t) ts ≤ 2 * suc (depth_of_types (types_of ts))
types_most [] = omega arith
types_most (t ∷ ts) = omega (arith, types_most ts)

pub fields_most : (fs : List (String Global × TypeTree)) → most (λ f. max 0 (max (size-Type f.1) 0)) fs ≤ 2 * suc (depth_of_fields (fields_of (map by_bytes fs)))
fields_most [] = omega arith
fields_most (f ∷ fs) = omega (arith, fields_most fs)

pub cases_most : (μ : String Global × Option TypeTree → ℕ) → ((n : String Global) → μ (n, None) ≤ 0) → ((n : String Global) (t : TypeTree) → μ (n, Some t) ≤ size-Type t) → (cs : List (String Global × Option TypeTree)) → most μ cs ≤ 2 * suc (depth_of_cases (cases_of (map by_bytes cs)))
cases_most μ none some [] = omega arith
cases_most μ none some ((n, None) ∷ cs) = omega (arith, none n, cases_most μ none some cs)
cases_most μ none some ((n, Some t) ∷ cs) = omega (arith, some n t, cases_most μ none some cs)
