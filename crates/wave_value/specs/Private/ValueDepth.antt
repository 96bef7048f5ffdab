-- Each part of a value nests less deep.
use Rattle.std.specs.Prelude.{ℕ, suc, ◌≤◌, max, List, [], ◌∷◌, Option, Some, None}
use Rattle.std.proofs.Common.{arith, ◌+◌, ap}
use Rattle.std.specs.declared.alloc.Global.{Global}
use Rattle.std.specs.declared.boxed.Box.{Box}
use denote.Param.Weighed.{most}
use Rattle.wave_wasm.specs.Types as type
use Rattle.wave_wasm.specs.Types.{TypeTree, Simple}
use Rattle.wave_wasm.specs.Values.{depth, depth_of_values, depth_of_fields, depth_of_entries, values, field_values, entries}
use Rattle.wave_wasm.specs.ConstructorContracts.{list_value}
use Rattle.wave_value.specs.declared.value.Content.{Content}
use Rattle.wave_value.specs.declared.value.Content.TheVariants as contents
use Rattle.wave_value.specs.declared.value.Value.TheDeep.{deep-Content}
use Rattle.wave_value.specs.TypedValue.{TypedValue, IsAt}
use Rattle.wave_value.specs.ValueModel.{trees, beside}
use Rattle.wave_value.specs.Private.ValueModel.{entry_trees, content_tree, Fits, EntriesAt, MapFits}

items_most : (vs : List TypedValue) → most (λ v. depth v.tree + 1) vs ≤ suc (depth_of_values (values (trees vs)))
items_most [] = omega arith
items_most (v ∷ vs) = omega (arith, items_most vs)

list_falls : (T : TypeTree) (vs : List TypedValue) → most (λ v. depth v.tree + 1) vs ≤ depth (list_value T (trees vs))
list_falls (type.fixed E n) vs = items_most vs
list_falls _ vs = items_most vs

fields_most : (ns : List (List ℕ)) (vs : List TypedValue) → most (λ v. depth v.tree + 1) vs ≤ suc (depth_of_fields (field_values (beside ns (trees vs))))
fields_most ns [] = omega arith
fields_most [] (v ∷ vs) = omega (arith, fields_most [] vs)
fields_most (n ∷ ns) (v ∷ vs) = omega (arith, fields_most ns vs)

-- a value of one token has no depth
pub key_flat : (K : Simple) (v : TypedValue) → IsAt (type.simple K) v → depth v.tree ≤ 0
key_flat K v h = let (one, fits, is) = h.fits in omega (arith, ap depth is)

entries_most : (K : Simple) (V : TypeTree) (es : List (TypedValue × TypedValue)) → EntriesAt (type.simple K) V es
    → most (λ e. max (depth e.0.tree + 1) (max (depth e.1.tree + 1) 0)) es ≤ suc (depth_of_entries (entries (entry_trees es)))
entries_most K V [] h = omega arith
entries_most K V (e ∷ es) ((key, val), more) = omega (arith, key_flat K e.0 key, entries_most K V es more)

two_max : {m n : ℕ} → m ≤ n → max (max m 0) 0 ≤ n
two_max h = omega arith

option_falls : (T : TypeTree) (p : Option (Box TypedValue Global)) → max (deep-Content (contents.Option p)) 0 ≤ depth (content_tree T (contents.Option p))
option_falls T None = omega arith
option_falls T (Some v) = omega arith

ok_falls : (T : TypeTree) (p : Option (Box TypedValue Global)) → max (deep-Content (contents.Ok p)) 0 ≤ depth (content_tree T (contents.Ok p))
ok_falls T None = omega arith
ok_falls T (Some v) = omega arith

err_falls : (T : TypeTree) (p : Option (Box TypedValue Global)) → max (deep-Content (contents.Err p)) 0 ≤ depth (content_tree T (contents.Err p))
err_falls T None = omega arith
err_falls T (Some v) = omega arith

variant_falls : (T : TypeTree) (i : ℕ) (p : Option (Box TypedValue Global))
    → max (deep-Content (contents.Variant i p)) 0 ≤ depth (content_tree T (contents.Variant i p))
variant_falls T i None = omega arith
variant_falls T i (Some v) = omega arith

map_falls : (T : TypeTree) (es : List (TypedValue × TypedValue)) → MapFits T es
    → most (λ e. max (depth e.0.tree + 1) (max (depth e.1.tree + 1) 0)) es ≤ suc (depth_of_entries (entries (entry_trees es)))
map_falls (type.map K V) es h = entries_most K V es h
map_falls _ es h = absurd h

pub deep_le-depth : (T : TypeTree) (c : Content) → Fits T c → max (deep-Content c) 0 ≤ depth (content_tree T c)
deep_le-depth T (contents.List vs) h = two_max (list_falls T vs.items)
deep_le-depth T (contents.Tuple vs) h = two_max (items_most vs.items)
deep_le-depth T (contents.Record vs) h = two_max (fields_most _ vs.items)
deep_le-depth T (contents.Variant i p) h = variant_falls T i p
deep_le-depth T (contents.Option p) h = option_falls T p
deep_le-depth T (contents.Ok p) h = ok_falls T p
deep_le-depth T (contents.Err p) h = err_falls T p
deep_le-depth T (contents.Map es) h = two_max (map_falls T es.items h)
deep_le-depth T _ h = omega arith
