-- The type of points, and the value that a point stands for.
use Rattle.std.specs.Prelude.{ℕ, List, [], ◌∷◌, codes, string_bytes}
use Rattle.wave_wasm.specs.Types as type
use Rattle.wave_wasm.specs.Types.{TypeTree, fields_of}
use Rattle.wave_wasm.specs.Values as value
use Rattle.wave_wasm.specs.Values.{Value, field_values}
use Rattle.wave_example_points.specs.declared.point.Point.{Point}

-- record { x: s32, y: s32, label: string }
abbrev pub point_type : TypeTree
point_type =
    let number = type.simple (type.whole type.s32) in
    type.record_type (fields_of ((codes "x", number) ∷ (codes "y", number) ∷ (codes "label", type.simple type.string) ∷ []))

-- the names and the values of a point's fields
abbrev pub point_fields : Point → List (List ℕ × Value)
point_fields p =
    (codes "x", value.leaf (value.whole type.s32 p.x)) ∷ (codes "y", value.leaf (value.whole type.s32 p.y))
    ∷ (codes "label", value.leaf (value.string (string_bytes p.label))) ∷ []

-- the record of them
abbrev pub point_value : Point → Value
point_value p = value.record_value (field_values (point_fields p))
