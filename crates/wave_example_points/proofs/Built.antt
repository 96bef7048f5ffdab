-- The record that is made of a point's parts.
use Rattle.std.proofs.Common.{ℕ, ◌≡◌, List, [], ◌∷◌, map, Some, codes, string_bytes, subst, refl}
use Rattle.wave_wasm.specs.Types as type
use Rattle.wave_wasm.specs.Types.{TypeTree, record_parts}
use Rattle.wave_wasm.specs.Values as value
use Rattle.wave_wasm.specs.Values.{field_values}
use Rattle.wave_value.specs.TypedValue.{TypedValue}
use Rattle.wave_value.specs.ValueModel.{first_names, trees, beside}
use Rattle.wave_value.specs.ConstructorRules.{Built}
use Rattle.wave_value.specs.RecordConstructor.{BuiltRecord}
use Rattle.wave_example_points.specs.declared.point.Point.{Point}
use Rattle.wave_example_points.specs.Point.{point_type, point_fields, point_value}

same : (vs last : List TypedValue) → map Some vs ≡ map Some last → last ≡ vs
same [] [] e = refl
same [] (a ∷ last) e = absurd (cc e)
same (v ∷ vs) [] e = absurd (cc e)
same (v ∷ vs) (a ∷ last) e =
    let rest : map Some vs ≡ map Some last = cc e in
    cc (e, same vs last rest)

-- it is what the point stands for
pub built_point : (p : Point) (x y label v : TypedValue) (T : TypeTree) (given : List (List ℕ × TypedValue))
    → T ≡ point_type → given ≡ (codes "x", x) ∷ (codes "y", y) ∷ (codes "label", label) ∷ []
    → x.tree ≡ value.leaf (value.whole type.s32 p.x) → y.tree ≡ value.leaf (value.whole type.s32 p.y)
    → label.tree ≡ value.leaf (value.string (string_bytes p.label))
    → BuiltRecord given T v → Built (point_value p) point_type v
built_point p x y label v T given is_T is_given is_x is_y is_label given_built =
    let built = subst (λ g. BuiltRecord g point_type v) is_given (subst (λ S. BuiltRecord given S v) is_T given_built) in
    let last = same (x ∷ y ∷ label ∷ []) built.last built.are_last in
    let fields : (codes "x", x.tree) ∷ (codes "y", y.tree) ∷ (codes "label", label.tree) ∷ [] ≡ point_fields p = cc (is_x, is_y, is_label) in
    subst (λ fs. Built (value.record_value (field_values fs)) point_type v) fields
    (subst (λ vs. Built (value.record_value (field_values (beside (first_names (record_parts point_type)) (trees vs)))) point_type v) last built.built)
