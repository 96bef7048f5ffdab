use Rattle.std.proofs.Common.{◌≡◌, ◌-◌, ◌+◌, ◌*◌, ℕ, List, Bor, max, map, drop}
use Rattle.wave_wasm.specs.Lists.{AllOf}
use Rattle.wave_wasm.specs.Types.{TypeTree, depth, depth_of_maybe, maybe_type, HasDistinctNames}
use Rattle.wave_wasm.specs.Borrowed.{denoted, denoted_all, denoted_fields}
use Rattle.wave_wasm.specs.ConstructorContracts.{entry_trees, field_trees}
use Rattle.wave_wasm.proofs.CanonicalText.Sequences.{depths}
use Rattle.wave_tape.specs.Reading.{value_at, times, pair_at}
use Rattle.wave_tape.specs.Private.Readers.{each_at, each_field_at}
use Rattle.wave_tape.proofs.Loops.{with_front, Completes, CompletesFields}
use Rattle.wave_tape.proofs.Depths.{field_depth}
use Rattle.wave_tape.proofs.decode.+read.Given as goal

abbrev pub decreases-read_value : goal.decreases-read_value
decreases-read_value g l = 5 * depth (g.V.Type.WasmType.tree l.ty.now) + 2

abbrev pub decreases-read_list : goal.decreases-read_list
decreases-read_list g l = 5 * depth (g.V.Type.WasmType.tree l.ty.now) + 1

abbrev pub decreases-read_fixed : goal.decreases-read_fixed
decreases-read_fixed g l = 5 * depth (g.V.Type.WasmType.tree l.ty.now) + 1

abbrev pub decreases-read_tuple : goal.decreases-read_tuple
decreases-read_tuple g l = 5 * depth (g.V.Type.WasmType.tree l.ty.now) + 1

abbrev pub decreases-read_record : goal.decreases-read_record
decreases-read_record g l = 5 * depth (g.V.Type.WasmType.tree l.ty.now) + 1

abbrev pub decreases-read_variant : goal.decreases-read_variant
decreases-read_variant g l = 5 * depth (g.V.Type.WasmType.tree l.ty.now) + 1

abbrev pub decreases-read_option : goal.decreases-read_option
decreases-read_option g l = 5 * depth (g.V.Type.WasmType.tree l.ty.now) + 1

abbrev pub decreases-read_result : goal.decreases-read_result
decreases-read_result g l = 5 * depth (g.V.Type.WasmType.tree l.ty.now) + 1

abbrev pub decreases-read_map : goal.decreases-read_map
decreases-read_map g l = 5 * depth (g.V.Type.WasmType.tree l.ty.now) + 1

abbrev pub decreases-read_items : goal.decreases-read_items
decreases-read_items g l = 5 * depth (g.V.Type.WasmType.tree l.ty.now) + 3

abbrev pub decreases-read_each : goal.decreases-read_each
decreases-read_each g l = 5 * depths depth (denoted_all g.V.Type.WasmType.tree l.types.now) + 3

abbrev pub decreases-read_fields : goal.decreases-read_fields
decreases-read_fields g l = 5 * depths field_depth (denoted_fields g.V.Type.WasmType.tree l.fields.now) + 3

abbrev pub decreases-read_payload : goal.decreases-read_payload
decreases-read_payload g l = 5 * depth_of_maybe (maybe_type (denoted g.V.Type.WasmType.tree l.expected)) + 3

abbrev pub decreases-read_entries : goal.decreases-read_entries
decreases-read_entries g l = 5 * max (depth (g.V.Type.WasmType.tree l.key_ty.now)) (depth (g.V.Type.WasmType.tree l.val_ty.now)) + 3

abbrev pub invariant-read_items-loop : goal.invariant-read_items-loop
invariant-read_items-loop g l =
    let T = g.V.Type.WasmType.tree l.ty in
    HasDistinctNames T
    → (with_front (map g.V.WasmValue.tree l.vals.items) (times (value_at T) (l.count - l.counter) l.rest) ≡ times (value_at T) l.count l.bytes) × AllOf (λ (v : g.row.V.Denot). g.V.WasmValue.is_of v T) l.vals.items

abbrev pub invariant-read_each-loop-ty : goal.invariant-read_each-loop-ty
invariant-read_each-loop-ty g l =
    let tree = g.V.Type.WasmType.tree in
    AllOf HasDistinctNames (denoted_all tree l.types)
    → (with_front (map g.V.WasmValue.tree l.vals.items) (each_at (denoted_all tree (drop l.ty-index l.types)) l.rest) ≡ each_at (denoted_all tree l.types) l.bytes)
    × Completes g.V.WasmValue.is_of (λ (x : Bor g.row.V-Type.Denot). tree x.now) l.types (drop l.ty-index l.types) l.vals.items

abbrev pub invariant-read_fields-loop-field : goal.invariant-read_fields-loop-field
invariant-read_fields-loop-field g l =
    let tree = g.V.Type.WasmType.tree in
    AllOf (λ (f : List ℕ × TypeTree). HasDistinctNames f.1) (denoted_fields tree l.fields)
    → (with_front (field_trees g.V.WasmValue.tree l.vals.items) (each_field_at (denoted_fields tree (drop l.field-index l.fields)) l.rest) ≡ each_field_at (denoted_fields tree l.fields) l.bytes)
    × CompletesFields g.V.WasmValue.is_of (λ (f : Bor (List ℕ) × Bor g.row.V-Type.Denot). (f.0.now, tree f.1.now)) l.fields (drop l.field-index l.fields) l.vals.items

abbrev pub invariant-read_entries-loop : goal.invariant-read_entries-loop
invariant-read_entries-loop g l =
    let K = g.V.Type.WasmType.tree l.key_ty in
    let V = g.V.Type.WasmType.tree l.val_ty in
    HasDistinctNames K → HasDistinctNames V
    → (with_front (entry_trees g.V.WasmValue.tree l.entries.items) (times (pair_at (value_at K) (value_at V)) (l.count - l.counter) l.rest) ≡ times (pair_at (value_at K) (value_at V)) l.count l.bytes)
    × AllOf (λ (e : g.row.V.Denot × g.row.V.Denot). g.V.WasmValue.is_of e.0 K × g.V.WasmValue.is_of e.1 V) l.entries.items
