-- Each part of a `Type` has a tree of less depth.
use Rattle.std.specs.Prelude.{ℕ, suc, ◌≤◌, max, Bool, List, [], ◌∷◌, map, String, Option, Some, None}
use Rattle.std.proofs.Common.{arith, ◌+◌}
use Rattle.wave_type.specs.declared.ty.Shape.{Shape}
use Rattle.wave_type.specs.declared.ty.Shape.TheVariants as shapes
use Rattle.wave_type.specs.declared.ty.Type.TheDeep.{deep-Shape}
use Rattle.wave_wasm.specs.Types.{TypeTree, simple, types_of, fields_of, cases_of, depth, depth_of_types, depth_of_fields, depth_of_cases}
use Rattle.std.specs.declared.alloc.Global.{Global}
use Rattle.std.specs.declared.rc.Rc.{Rc}
use denote.Param.Weighed.{most}
use Rattle.wave_type.specs.Private.TypeModel.{shape_tree, IsSimple, IsSoundShape}
use Rattle.wave_type.specs.TypeModel.{by_bytes}

three_max : {m n : ℕ} → m ≤ n → max (max (max m 0) 0) 0 ≤ n
three_max h = omega arith

types_most : (ts : List TypeTree) → most (λ t. depth t + 1) ts ≤ suc (depth_of_types (types_of ts))
types_most [] = omega arith
types_most (t ∷ ts) = omega (arith, types_most ts)

fields_most : (fs : List (String Global × TypeTree)) → most (λ f. max 0 (max (depth f.1 + 1) 0)) fs ≤ suc (depth_of_fields (fields_of (map by_bytes fs)))
fields_most [] = omega arith
fields_most (f ∷ fs) = omega (arith, fields_most fs)

cases_most : (μ : String Global × Option TypeTree → ℕ) → ((n : String Global) → μ (n, None) ≤ 0)
    → ((n : String Global) (t : TypeTree) → μ (n, Some t) ≤ depth t + 1)
    → (cs : List (String Global × Option TypeTree)) → most μ cs ≤ suc (depth_of_cases (cases_of (map by_bytes cs)))
cases_most μ none some [] = omega arith
cases_most μ none some ((n, None) ∷ cs) = omega (arith, none n, cases_most μ none some cs)
cases_most μ none some ((n, Some t) ∷ cs) = omega (arith, some n t, cases_most μ none some cs)

result_falls : (r : Rc (Option TypeTree × Option TypeTree × Bool) Global) (a b : Option TypeTree)
    → let s = shapes.Result (record r { value = (a, b, r.value.2) }) in max (deep-Shape s) 0 ≤ depth (shape_tree s)
result_falls r None None = omega arith
result_falls r None (Some u) = omega arith
result_falls r (Some t) None = omega arith
result_falls r (Some t) (Some u) = omega arith

map_falls : (k t : TypeTree) → IsSimple k → max (max (max (depth k + 1) (max (depth t + 1) 0)) 0) 0 ≤ suc (depth t)
map_falls (simple p) t h = omega arith
map_falls _ t h = absurd h

pub deep_le-depth : (s : Shape) → IsSoundShape s → max (deep-Shape s) 0 ≤ depth (shape_tree s)
deep_le-depth (shapes.Simple p) h = omega arith
deep_le-depth shapes.F32 h = omega arith
deep_le-depth shapes.F64 h = omega arith
deep_le-depth (shapes.List e) h = omega arith
deep_le-depth (shapes.FixedLengthList p) h = omega arith
deep_le-depth (shapes.Record fs) h = three_max (fields_most fs.value.0.items)
deep_le-depth (shapes.Tuple ts) h = omega (arith, types_most ts.value.0.items)
deep_le-depth (shapes.Variant cs) h = three_max (cases_most _ (λ n. omega arith) (λ n t. omega arith) cs.value.0.items)
deep_le-depth (shapes.Enum ns) h = omega arith
deep_le-depth (shapes.Option t) h = omega arith
deep_le-depth (shapes.Result r) h = result_falls r r.value.0 r.value.1
deep_le-depth (shapes.Flags ns) h = omega arith
deep_le-depth (shapes.Map m) h = map_falls m.value.0 m.value.1 h.key
