use Rattle.std.proofs.Common.{◌≡◌, ◌+◌, ◌*◌, ℕ, List, Bor, max, map, drop}
use Rattle.json.specs.Value.{value_view, items_view, members_view}
use Rattle.wave_wasm.specs.Lists.{AllOf}
use Rattle.wave_wasm.specs.Types as type
use Rattle.wave_wasm.specs.Types.{TypeTree, depth, depth_of_maybe, maybe_type, HasDistinctNames}
use Rattle.wave_wasm.specs.Borrowed.{denoted, denoted_all, denoted_fields}
use Rattle.wave_wasm.specs.ConstructorContracts.{entry_trees, field_trees}
use Rattle.wave_wasm.proofs.CanonicalText.Sequences.{depths}
use Rattle.wave_json.specs.Reading.{each_at, leaf_at, members_at, pair_at, value_at}
use Rattle.wave_json.specs.Private.Readers.{each_type_at, each_field_at, keyed}
use Rattle.wave_json.proofs.Loops.{with_front, Completes, CompletesFields}
use Rattle.wave_json.proofs.decode.+read.Given as goal

abbrev pub decreases-read_value : goal.decreases-read_value
decreases-read_value g l = 6 * depth (g.V.Type.WasmType.tree l.ty.now) + 2

abbrev pub decreases-read_part : goal.decreases-read_part
decreases-read_part g l = 6 * depth (g.V.Type.WasmType.tree l.ty.now) + 3

abbrev pub decreases-read_some : goal.decreases-read_some
decreases-read_some g l = 6 * depth (g.V.Type.WasmType.tree l.ty.now) + 4

abbrev pub decreases-read_field : goal.decreases-read_field
decreases-read_field g l = 6 * depth (g.V.Type.WasmType.tree l.ty.now) + 4

abbrev pub decreases-read_list : goal.decreases-read_list
decreases-read_list g l = 6 * depth (g.V.Type.WasmType.tree l.ty.now) + 1

abbrev pub decreases-read_tuple : goal.decreases-read_tuple
decreases-read_tuple g l = 6 * depth (g.V.Type.WasmType.tree l.ty.now) + 1

abbrev pub decreases-read_record : goal.decreases-read_record
decreases-read_record g l = 6 * depth (g.V.Type.WasmType.tree l.ty.now) + 1

abbrev pub decreases-read_variant : goal.decreases-read_variant
decreases-read_variant g l = 6 * depth (g.V.Type.WasmType.tree l.ty.now) + 1

abbrev pub decreases-read_option : goal.decreases-read_option
decreases-read_option g l = 6 * depth (g.V.Type.WasmType.tree l.ty.now) + 1

abbrev pub decreases-read_result : goal.decreases-read_result
decreases-read_result g l = 6 * depth (g.V.Type.WasmType.tree l.ty.now) + 1

abbrev pub decreases-read_map : goal.decreases-read_map
decreases-read_map g l = 6 * depth (g.V.Type.WasmType.tree l.ty.now) + 1

abbrev pub decreases-read_items : goal.decreases-read_items
decreases-read_items g l = 6 * depth (g.V.Type.WasmType.tree l.ty.now) + 4

abbrev pub decreases-read_each : goal.decreases-read_each
decreases-read_each g l = 6 * depths depth (denoted_all g.V.Type.WasmType.tree l.types.now) + 4

abbrev pub decreases-read_fields : goal.decreases-read_fields
decreases-read_fields g l = 6 * depths (λ (f : List ℕ × TypeTree). depth f.1) (denoted_fields g.V.Type.WasmType.tree l.fields.now) + 5

abbrev pub decreases-read_payload : goal.decreases-read_payload
decreases-read_payload g l = 6 * depth_of_maybe (maybe_type (denoted g.V.Type.WasmType.tree l.expected)) + 4

abbrev pub decreases-read_members : goal.decreases-read_members
decreases-read_members g l = 6 * depth (g.V.Type.WasmType.tree l.ty.now) + 4

abbrev pub decreases-read_pairs : goal.decreases-read_pairs
decreases-read_pairs g l = 6 * max (depth (g.V.Type.WasmType.tree l.key_ty.now)) (depth (g.V.Type.WasmType.tree l.val_ty.now)) + 5

abbrev pub decreases-read_pair : goal.decreases-read_pair
decreases-read_pair g l = 6 * max (depth (g.V.Type.WasmType.tree l.key_ty.now)) (depth (g.V.Type.WasmType.tree l.val_ty.now)) + 4

abbrev pub decreases-read_entries : goal.decreases-read_entries
decreases-read_entries g l = 6 * max (depth (g.V.Type.WasmType.tree l.key_ty.now)) (depth (g.V.Type.WasmType.tree l.val_ty.now)) + 6

abbrev pub invariant-read_items-loop-i : goal.invariant-read_items-loop-i
invariant-read_items-loop-i g l =
    let T = g.V.Type.WasmType.tree l.ty in
    HasDistinctNames T
    → (with_front (map g.V.WasmValue.tree l.vals.items) (each_at (value_at T) l.i (items_view (drop l.i l.items))) ≡ each_at (value_at T) 0 (items_view l.items))
    × AllOf (λ (v : g.row.V.Denot). g.V.WasmValue.is_of v T) l.vals.items

abbrev pub invariant-read_each-loop-i : goal.invariant-read_each-loop-i
invariant-read_each-loop-i g l =
    let tree = g.V.Type.WasmType.tree in
    AllOf HasDistinctNames (denoted_all tree l.types)
    → (with_front (map g.V.WasmValue.tree l.vals.items) (each_type_at (denoted_all tree (drop l.i l.types)) l.i (map value_view (drop l.i l.items))) ≡ each_type_at (denoted_all tree l.types) 0 (map value_view l.items))
    × Completes g.V.WasmValue.is_of (λ (x : Bor g.row.V-Type.Denot). tree x.now) l.types (drop l.i l.types) l.vals.items

abbrev pub invariant-read_fields-loop-field : goal.invariant-read_fields-loop-field
invariant-read_fields-loop-field g l =
    let tree = g.V.Type.WasmType.tree in
    AllOf (λ (f : List ℕ × TypeTree). HasDistinctNames f.1) (denoted_fields tree l.fields)
    → (with_front (field_trees g.V.WasmValue.tree l.vals.items) (each_field_at (denoted_fields tree (drop l.field-index l.fields)) (members_view l.members)) ≡ each_field_at (denoted_fields tree l.fields) (members_view l.members))
    × CompletesFields g.V.WasmValue.is_of (λ (f : Bor (List ℕ) × Bor g.row.V-Type.Denot). (f.0.now, tree f.1.now)) l.fields (drop l.field-index l.fields) l.vals.items

abbrev pub invariant-read_members-loop-i : goal.invariant-read_members-loop-i
invariant-read_members-loop-i g l =
    let V = g.V.Type.WasmType.tree l.ty in
    HasDistinctNames V
    → (with_front (entry_trees g.V.WasmValue.tree l.entries.items) (keyed (members_at (value_at V) (members_view (drop l.i l.members)))) ≡ keyed (members_at (value_at V) (members_view l.members)))
    × AllOf (λ (e : g.row.V.Denot × g.row.V.Denot). g.V.WasmValue.is_of e.0 (type.simple type.string) × g.V.WasmValue.is_of e.1 V) l.entries.items

abbrev pub invariant-read_pairs-loop-i : goal.invariant-read_pairs-loop-i
invariant-read_pairs-loop-i g l =
    let K = g.V.Type.WasmType.tree l.key_ty in
    let V = g.V.Type.WasmType.tree l.val_ty in
    (R : type.Simple) → K ≡ type.simple R → HasDistinctNames V
    → (with_front (entry_trees g.V.WasmValue.tree l.entries.items) (keyed (each_at (pair_at (leaf_at R) (value_at V)) l.i (items_view (drop l.i l.pairs)))) ≡ keyed (each_at (pair_at (leaf_at R) (value_at V)) 0 (items_view l.pairs)))
    × AllOf (λ (e : g.row.V.Denot × g.row.V.Denot). g.V.WasmValue.is_of e.0 K × g.V.WasmValue.is_of e.1 V) l.entries.items
