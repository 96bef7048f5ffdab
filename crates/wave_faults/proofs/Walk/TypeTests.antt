-- What `a == b` and `a != b` say of two kinds of types, and of two types of nodes.
use Rattle.std.proofs.Common.{◌≡◌, ◌≢◌, ◌∙◌, sym, Bool, true, false, rules}
use Rattle.std.specs.Prelude.{not}
use denote.Enum.Bare.{sameb, same_true, same_false, differs_true, differs_false}
use Rattle.wave_wasm.specs.declared.wasm.WasmTypeKind.{WasmTypeKind}
use Rattle.wave_wasm.specs.contracts.wasm.WasmTypeKind as of_types
use Rattle.wave_grammar.specs.declared.form.NodeType.{NodeType}
use Rattle.wave_grammar.specs.contracts.form.NodeType as of_nodes

pub is_kind : (a b : WasmTypeKind) {r : Bool} → r ≡ sameb of_types.the_type a b → r ≡ true → a ≡ b
is_kind a b answer is = same_true of_types.the_type (search rules) a b (sym answer ∙ is)

pub is_other_kind : (a b : WasmTypeKind) {r : Bool} → r ≡ sameb of_types.the_type a b → r ≡ false → a ≢ b
is_other_kind a b answer is = same_false of_types.the_type a b (sym answer ∙ is)

pub is_other_node : (a b : NodeType) {r : Bool} → r ≡ not (sameb of_nodes.the_type a b) → r ≡ true → a ≢ b
is_other_node a b answer is = differs_true of_nodes.the_type a b (sym answer ∙ is)

pub is_node : (a b : NodeType) {r : Bool} → r ≡ not (sameb of_nodes.the_type a b) → r ≡ false → a ≡ b
is_node a b answer is = differs_false of_nodes.the_type (search rules) a b (sym answer ∙ is)
