-- What is left of the parts decides it.
use Rattle.std.proofs.Common.{ℕ, List, Option, ◌≡◌, ◌+◌, ◌*◌, map, drop}
use Rattle.std.specs.List.{list_all, list_any}
use Rattle.wave_wasm.specs.Borrowed.{denoted}
use Rattle.wave_wasm.specs.Types.{depth, depth_of_maybe, TypeTree, maybe_type}
use Rattle.wave.specs.Private.Inhabited.{inhabited, payload_inhabited}
use Rattle.wave.proofs.inhabited.+values.Given as goal

abbrev pub decreases-type_has_value : goal.decreases-type_has_value
decreases-type_has_value g l = 3 * depth (g.T.WasmType.tree l.ty.now) + 2

abbrev pub decreases-fields_have_value : goal.decreases-fields_have_value
decreases-fields_have_value g l = 3 * depth (g.T.WasmType.tree l.ty.now) + 1

abbrev pub decreases-items_have_value : goal.decreases-items_have_value
decreases-items_have_value g l = 3 * depth (g.T.WasmType.tree l.ty.now) + 1

abbrev pub decreases-some_case_has_value : goal.decreases-some_case_has_value
decreases-some_case_has_value g l = 3 * depth (g.T.WasmType.tree l.ty.now) + 1

abbrev pub decreases-payload_has_value : goal.decreases-payload_has_value
decreases-payload_has_value g l = 3 * depth_of_maybe (maybe_type (denoted g.T.WasmType.tree l.payload)) + 3

abbrev pub invariant-fields_have_value-loop-field : goal.invariant-fields_have_value-loop-field
invariant-fields_have_value-loop-field g l =
    inhabited (g.T.WasmType.tree l.ty) ≡ list_all (λ (f : List ℕ × TypeTree). inhabited f.1) (map (λ f. (f.0.now, g.T.WasmType.tree f.1.now)) (drop l.field-index l.field-items))

abbrev pub invariant-items_have_value-loop-item : goal.invariant-items_have_value-loop-item
invariant-items_have_value-loop-item g l =
    inhabited (g.T.WasmType.tree l.ty) ≡ list_all inhabited (map (λ t. g.T.WasmType.tree t.now) (drop l.item-index l.item-items))

abbrev pub invariant-some_case_has_value-loop-case : goal.invariant-some_case_has_value-loop-case
invariant-some_case_has_value-loop-case g l =
    inhabited (g.T.WasmType.tree l.ty) ≡ list_any (λ (c : List ℕ × Option TypeTree). payload_inhabited (maybe_type c.1)) (map (λ c. (c.0.now, denoted g.T.WasmType.tree c.1)) (drop l.case-index l.case-items))
