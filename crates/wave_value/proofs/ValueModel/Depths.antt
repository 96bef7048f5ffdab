-- How deep values nest that stand in a list or in a content.
use Rattle.std.proofs.Common.{ℕ, zero, suc, ◌≤◌, ◌<◌, ◌≡◌, max, List, [], ◌∷◌, length, get_or, ap, arith, Option}
use Rattle.wave_wasm.specs.Types as type
use Rattle.wave_wasm.specs.Types.{TypeTree, Simple}
use Rattle.wave_wasm.specs.Values.{depth, depth_of_values, depth_of_fields, depth_of_entries, depth_of_maybe, values, field_values, entries, maybe_value}
use Rattle.wave_wasm.specs.ConstructorContracts.{list_value}
use Rattle.wave_value.specs.declared.value.Content.{Content}
use Rattle.wave_value.specs.declared.value.Content.TheVariants as contents
use Rattle.wave_value.specs.TypedValue.{TypedValue}
use Rattle.wave_value.specs.ValueModel.{trees, first_names, beside, boxed, payload_tree}
use Rattle.wave_value.specs.Private.ValueModel.{entry_trees, content_tree, Fits, EntriesAt, MapFits}
use Rattle.wave_value.specs.Private.ValueDepth.{key_flat}

-- how deep the deepest value nests
abbrev pub values_depth : List TypedValue → ℕ
values_depth [] = 0
values_depth (v ∷ vs) = max (depth v.tree) (values_depth vs)

-- how deep the deepest key or value nests
abbrev pub pairs_depth : List (TypedValue × TypedValue) → ℕ
pairs_depth [] = 0
pairs_depth (e ∷ es) = max (depth e.0.tree) (max (depth e.1.tree) (pairs_depth es))

-- how deep a payload nests
abbrev pub payload_depth : Option TypedValue → ℕ
payload_depth p = depth_of_maybe (maybe_value (payload_tree p))

-- how deep a content nests
abbrev pub content_depth : Content → ℕ
content_depth (contents.List vs) = suc (values_depth vs.items)
content_depth (contents.Record vs) = suc (values_depth vs.items)
content_depth (contents.Tuple vs) = suc (values_depth vs.items)
content_depth (contents.Variant i p) = suc (payload_depth (boxed p))
content_depth (contents.Option p) = suc (payload_depth (boxed p))
content_depth (contents.Ok p) = suc (payload_depth (boxed p))
content_depth (contents.Err p) = suc (payload_depth (boxed p))
content_depth (contents.Map es) = suc (pairs_depth es.items)
content_depth _ = 0

items_deep : (vs : List TypedValue) → values_depth vs ≤ depth_of_values (values (trees vs))
items_deep [] = omega arith
items_deep (v ∷ vs) = omega (arith, items_deep vs)

list_deep : (T : TypeTree) (vs : List TypedValue) → suc (values_depth vs) ≤ depth (list_value T (trees vs))
list_deep (type.fixed E n) vs = omega (arith, items_deep vs)
list_deep _ vs = omega (arith, items_deep vs)

fields_deep : (ns : List (List ℕ)) (vs : List TypedValue) → values_depth vs ≤ depth_of_fields (field_values (beside ns (trees vs)))
fields_deep ns [] = omega arith
fields_deep [] (v ∷ vs) = omega (arith, fields_deep [] vs)
fields_deep (n ∷ ns) (v ∷ vs) = omega (arith, fields_deep ns vs)

pairs_deep : (K : Simple) (V : TypeTree) (es : List (TypedValue × TypedValue)) → EntriesAt (type.simple K) V es → pairs_depth es ≤ depth_of_entries (entries (entry_trees es))
pairs_deep K V [] h = omega arith
pairs_deep K V (e ∷ es) ((key, val), more) = omega (arith, key_flat K e.0 key, pairs_deep K V es more)

map_deep : (T : TypeTree) (es : List (TypedValue × TypedValue)) → MapFits T es → pairs_depth es ≤ depth_of_entries (entries (entry_trees es))
map_deep (type.map K V) es h = pairs_deep K V es h
map_deep _ es h = absurd h

-- a content nests no deeper than its value
pub content_deep : (T : TypeTree) (c : Content) → Fits T c → content_depth c ≤ depth (content_tree T c)
content_deep T (contents.List vs) h = list_deep T vs.items
content_deep T (contents.Tuple vs) h = omega (arith, items_deep vs.items)
content_deep T (contents.Record vs) h = omega (arith, fields_deep (first_names (type.record_parts T)) vs.items)
content_deep T (contents.Variant i p) h = omega arith
content_deep T (contents.Option p) h = omega arith
content_deep T (contents.Ok p) h = omega arith
content_deep T (contents.Err p) h = omega arith
content_deep T (contents.Map es) h = omega (arith, map_deep T es.items h)
content_deep T _ h = omega arith

-- a value in a list nests no deeper than the deepest
pub value_below : (vs : List TypedValue) (i : ℕ) (v : TypedValue) → i < length vs → v ≡ get_or vs i v → depth v.tree ≤ values_depth vs
value_below [] i v lt is = absurd (omega (arith, lt))
value_below (w ∷ vs) zero v lt is = omega (arith, ap (λ (u : TypedValue). depth u.tree) is)
value_below (w ∷ vs) (suc i) v lt is = omega (arith, value_below vs i v (omega (arith, lt)) is)

-- nor does a key or a value of an entry
pub pair_below : (es : List (TypedValue × TypedValue)) (i : ℕ) (e : TypedValue × TypedValue) → i < length es → e ≡ get_or es i e → max (depth e.0.tree) (depth e.1.tree) ≤ pairs_depth es
pair_below [] i e lt is = absurd (omega (arith, lt))
pair_below (w ∷ es) zero e lt is = omega (arith, ap (λ (u : TypedValue × TypedValue). depth u.0.tree) is, ap (λ (u : TypedValue × TypedValue). depth u.1.tree) is)
pair_below (w ∷ es) (suc i) e lt is = omega (arith, pair_below es i e (omega (arith, lt)) is)
