use Rattle.std.proofs.Common.{ℕ, ◌≡◌, ◌++◌, ◌+◌, ◌*◌, List, [], ◌∷◌, drop}
use Rattle.std.specs.List.{flat_map, list_all}
use Rattle.json.specs.Token.{Token}
use Rattle.wave_wasm.specs.Borrowed.{denoted, denoted_all, denoted_fields, denoted_pairs}
use Rattle.wave_wasm.specs.Text.{has_text}
use Rattle.wave_wasm.specs.Values.{Value, depth, depth_of_maybe, maybe_value}
use Rattle.wave_wasm.proofs.CanonicalText.Sequences.{depths}
use Rattle.wave_json.specs.Private.Writers.{array_tokens, object_tokens, value_tokens, field_tokens, member_tokens, entry_tokens, has_entry}
use Rattle.wave_json.proofs.Writing.{Writing}
use Rattle.wave_json.proofs.encode.+put.Given as goal

abbrev pub decreases-put_value : goal.decreases-put_value
decreases-put_value g l = 5 * depth (g.V.WasmValue.tree l.val.now) + 2

abbrev pub decreases-put_list : goal.decreases-put_list
decreases-put_list g l = 5 * depth (g.V.WasmValue.tree l.val.now) + 1

abbrev pub decreases-put_tuple : goal.decreases-put_tuple
decreases-put_tuple g l = 5 * depth (g.V.WasmValue.tree l.val.now) + 1

abbrev pub decreases-put_record : goal.decreases-put_record
decreases-put_record g l = 5 * depth (g.V.WasmValue.tree l.val.now) + 1

abbrev pub decreases-put_option : goal.decreases-put_option
decreases-put_option g l = 5 * depth (g.V.WasmValue.tree l.val.now) + 1

abbrev pub decreases-put_map : goal.decreases-put_map
decreases-put_map g l = 5 * depth (g.V.WasmValue.tree l.val.now) + 1

abbrev pub decreases-put_member : goal.decreases-put_member
decreases-put_member g l = 5 * depth (g.V.WasmValue.tree l.val.now) + 3

abbrev pub decreases-put_case : goal.decreases-put_case
decreases-put_case g l = 5 * depth_of_maybe (maybe_value (denoted g.V.WasmValue.tree l.payload)) + 4

abbrev pub decreases-put_items : goal.decreases-put_items
decreases-put_items g l = 5 * depths depth (denoted_all g.V.WasmValue.tree l.items.now) + 3

abbrev pub decreases-put_members : goal.decreases-put_members
decreases-put_members g l = 5 * depths (λ e. depth e.1) (denoted_pairs g.V.WasmValue.tree l.entries.now) + 3

abbrev pub decreases-put_pairs : goal.decreases-put_pairs
decreases-put_pairs g l = 5 * depths (λ e. depth e.1) (denoted_pairs g.V.WasmValue.tree l.entries.now) + 4

abbrev pub decreases-put_pair : goal.decreases-put_pair
decreases-put_pair g l = 5 * depth (g.V.WasmValue.tree l.val.now) + 3

abbrev pub decreases-put_field : goal.decreases-put_field
decreases-put_field g l = 5 * depth (g.V.WasmValue.tree l.val.now) + 3

abbrev pub invariant-put_items-loop-item : goal.invariant-put_items-loop-item
invariant-put_items-loop-item g l =
    let left = denoted_all g.V.WasmValue.tree (drop l.item-index l.items) in
    record {
      writing : Writing (array_tokens (flat_map value_tokens (denoted_all g.V.WasmValue.tree l.items))) (flat_map value_tokens left ++ Token.end_array ∷ []) l.fn.out l.out;
      has : list_all has_text left ≡ list_all has_text (denoted_all g.V.WasmValue.tree l.items);
    }

abbrev pub invariant-put_record-loop-field : goal.invariant-put_record-loop-field
invariant-put_record-loop-field g l =
    let left = denoted_fields g.V.WasmValue.tree (drop l.field-index l.field-items) in
    record {
      writing : Writing (value_tokens (g.V.WasmValue.tree l.val)) (flat_map field_tokens left ++ Token.end_object ∷ []) l.fn.out l.out;
      has : list_all (λ (f : List ℕ × Value). has_text f.1) left ≡ has_text (g.V.WasmValue.tree l.val);
    }

abbrev pub invariant-put_members-loop-entry : goal.invariant-put_members-loop-entry
invariant-put_members-loop-entry g l =
    let left = denoted_pairs g.V.WasmValue.tree (drop l.entry-index l.entries) in
    record {
      writing : Writing (object_tokens (flat_map member_tokens (denoted_pairs g.V.WasmValue.tree l.entries))) (flat_map member_tokens left ++ Token.end_object ∷ []) l.fn.out l.out;
      has : list_all has_entry left ≡ list_all has_entry (denoted_pairs g.V.WasmValue.tree l.entries);
    }

abbrev pub invariant-put_pairs-loop-entry : goal.invariant-put_pairs-loop-entry
invariant-put_pairs-loop-entry g l =
    let left = denoted_pairs g.V.WasmValue.tree (drop l.entry-index l.entries) in
    record {
      writing : Writing (array_tokens (flat_map entry_tokens (denoted_pairs g.V.WasmValue.tree l.entries))) (flat_map entry_tokens left ++ Token.end_array ∷ []) l.fn.out l.out;
      has : list_all has_entry left ≡ list_all has_entry (denoted_pairs g.V.WasmValue.tree l.entries);
    }
