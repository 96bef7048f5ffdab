-- Whether two contents are one at their type, as the code compares them. Only private contracts cite it.
use Rattle.std.specs.Prelude.{Bool, true, false, ◌&&◌, List, [], ◌∷◌, map, Option, Some, None, string_bytes}
use Rattle.std.specs.Str.{bytes_eq}
use Rattle.std.specs.Cmp.Lexicographic.{pointwise}
use Rattle.wave_wasm.specs.Types.{TypeTree, variant_parts, enum_names, flags_names}
use Rattle.wave_wasm.specs.Merge.{leaf_eq}
use Rattle.wave_value.specs.declared.value.Content.{Content}
use Rattle.wave_value.specs.declared.value.Content.TheVariants as contents
use Rattle.wave_value.specs.TypedValue.{TypedValue}
use Rattle.wave_value.specs.ValueEquality.{same_typed}
use Rattle.wave_value.specs.ValueModel.{scalar_leaf, name_at, first_names, boxed}

-- the values are equal, one by one
abbrev pub same_all : List TypedValue → List TypedValue → Bool
same_all [] [] = true
same_all (v ∷ vs) (w ∷ ws) = same_typed v w && same_all vs ws
same_all _ _ = false

-- the keys and values are equal, entry by entry
abbrev pub same_pairs : List (TypedValue × TypedValue) → List (TypedValue × TypedValue) → Bool
same_pairs [] [] = true
same_pairs (d ∷ ds) (e ∷ es) = same_typed d.0 e.0 && (same_typed d.1 e.1 && same_pairs ds es)
same_pairs _ _ = false

-- both payloads are there and equal, or neither is there
abbrev pub same_option : Option TypedValue → Option TypedValue → Bool
same_option None None = true
same_option (Some v) (Some w) = same_typed v w
same_option _ _ = false

-- the contents are equal at the type
abbrev pub same_content : TypeTree → Content → Content → Bool
same_content T (contents.Scalar a) (contents.Scalar b) = leaf_eq (scalar_leaf a) (scalar_leaf b)
same_content T (contents.String s) (contents.String t) = bytes_eq (string_bytes s) (string_bytes t)
same_content T (contents.List vs) (contents.List ws) = same_all vs.items ws.items
same_content T (contents.Record vs) (contents.Record ws) = same_all vs.items ws.items
same_content T (contents.Tuple vs) (contents.Tuple ws) = same_all vs.items ws.items
same_content T (contents.Variant i p) (contents.Variant j q) =
    bytes_eq (name_at (first_names (variant_parts T)) i) (name_at (first_names (variant_parts T)) j) && same_option (boxed p) (boxed q)
same_content T (contents.Enum i) (contents.Enum j) = bytes_eq (name_at (enum_names T) i) (name_at (enum_names T) j)
same_content T (contents.Option p) (contents.Option q) = same_option (boxed p) (boxed q)
same_content T (contents.Ok p) (contents.Ok q) = same_option (boxed p) (boxed q)
same_content T (contents.Err p) (contents.Err q) = same_option (boxed p) (boxed q)
same_content T (contents.Flags is) (contents.Flags js) =
    pointwise bytes_eq (map (name_at (flags_names T)) is.items) (map (name_at (flags_names T)) js.items)
same_content T (contents.Map ds) (contents.Map es) = same_pairs ds.items es.items
same_content T _ _ = false
