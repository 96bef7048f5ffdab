-- A value whose fields are a point's.
use Rattle.std.proofs.Common.{ℕ, ◌≡◌, List, [], ◌∷◌, map, length, get_or, codes, string_bytes, ap, sym, ◌∙◌, refl, Bor, arith}
use Rattle.wave_wasm.specs.Types as type
use Rattle.wave_wasm.specs.Values as value
use Rattle.wave_wasm.specs.Values.{Value, FieldValues, field_list, field_values, record_fields}
use Rattle.wave_value.specs.TypedValue.{TypedValue}
use Rattle.wave_example_points.specs.declared.point.Point.{Point}
use Rattle.wave_example_points.specs.Point.{point_fields, point_value}

listed : (fs : FieldValues) → field_values (field_list fs) ≡ fs
listed value.no_fields = refl
listed (value.field name v more) = ap (value.field name v) (listed more)

-- a value that has fields is the record of them
of_fields : (v : Value) (f : List ℕ × Value) (fs : List (List ℕ × Value)) → record_fields v ≡ f ∷ fs → v ≡ value.record_value (field_values (f ∷ fs))
of_fields (value.record_value all) f fs same = ap value.record_value (sym (listed all)) ∙ ap (λ gs. value.record_value (field_values gs)) same
of_fields _ f fs same = absurd (cc same)

-- it is what the point stands for
pub is_point : (p : Point) (v : Value) (xs : List (Bor (List ℕ) × Bor TypedValue)) (a b c d e f : Bor (List ℕ) × Bor TypedValue)
    → map (λ f. (f.0.now, f.1.now.tree)) xs ≡ record_fields v → length xs ≡ 3
    → (get_or xs 0 a).0.now ≡ codes "x" → (get_or xs 1 b).0.now ≡ codes "y" → (get_or xs 2 c).0.now ≡ codes "label"
    → (get_or xs 0 d).1.now.tree ≡ value.leaf (value.whole type.s32 p.x)
    → (get_or xs 1 e).1.now.tree ≡ value.leaf (value.whole type.s32 p.y)
    → (get_or xs 2 f).1.now.tree ≡ value.leaf (value.string (string_bytes p.label))
    → v ≡ point_value p
is_point p v (one ∷ two ∷ three ∷ []) a b c d e f same is_three is_x is_y is_label x y label =
    let fields :
    (one.0.now, one.1.now.tree) ∷ (two.0.now, two.1.now.tree) ∷ (three.0.now, three.1.now.tree) ∷ [] ≡ point_fields p =
    cc (is_x, is_y, is_label, x, y, label) in
    of_fields v _ _ (sym same ∙ fields)
is_point p v _ a b c d e f same is_three is_x is_y is_label x y label = absurd (omega arith)
