use Rattle.std.proofs.Common.{◌∙◌, sym}
use Rattle.wave_wasm.specs.Types as type
use Rattle.wave_leaf.specs.Leaves.{leaf_node}
use Rattle.wave_leaf.proofs.LeafReading.SimpleTypes.{read_at_kind, whole_at_kind}
use Rattle.wave_leaf.proofs.leaf.LeafToken.read_simple.Goals as goal

pub returns-in-Bool : goal.returns-in-Bool
returns-in-Bool g c = λ expected o w source token here.
    read_at_kind g.V.WasmValue.tree g.V.WasmValue.is_of g.V.WasmValue.is_full o w type.bool (g.V.Type.WasmType.tree c.args.ty.now) source (leaf_node c.args.self.now) c.read_bool.result (sym c.in-Bool.is ∙ c.kind-kind.ensures) (c.read_bool.ensures o w source token here)

pub returns-in-Char : goal.returns-in-Char
returns-in-Char g c = λ expected o w source token here.
    read_at_kind g.V.WasmValue.tree g.V.WasmValue.is_of g.V.WasmValue.is_full o w type.char (g.V.Type.WasmType.tree c.args.ty.now) source (leaf_node c.args.self.now) c.read_char.result (sym c.in-Char.is ∙ c.kind-kind.ensures) (c.read_char.ensures o w source token here)

pub returns-in-String : goal.returns-in-String
returns-in-String g c = λ expected o w source token here.
    read_at_kind g.V.WasmValue.tree g.V.WasmValue.is_of g.V.WasmValue.is_full o w type.string (g.V.Type.WasmType.tree c.args.ty.now) source (leaf_node c.args.self.now) c.read_string.result (sym c.in-String.is ∙ c.kind-kind.ensures) (c.read_string.ensures o w source token here)

pub returns-in_default : goal.returns-in_default
returns-in_default g c = λ expected o w source token here.
    whole_at_kind g.V.WasmValue.tree g.V.WasmValue.is_of g.V.WasmValue.is_full o w (g.V.Type.WasmType.tree c.args.ty.now) c.kind-kind.result source (leaf_node c.args.self.now) c.read_whole.result c.kind-kind.ensures c.in_default.not-Bool c.in_default.not-Char c.in_default.not-String expected (c.read_whole.ensures source here)
