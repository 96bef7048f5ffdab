use Rattle.std.proofs.Common.{sym}
use Rattle.wave_leaf.specs.Leaves.{leaf_node}
use Rattle.wave_leaf.proofs.LeafReading.ReadAtOnce.{string_soon}
use Rattle.wave_leaf.proofs.leaf.LeafToken.read_run.Goals as goal

pub returns : goal.returns
returns g c = λ o w source here.
    string_soon g.V.WasmValue.tree g.V.WasmValue.is_of g.V.WasmValue.is_full o w (g.V.Type.WasmType.tree c.args.ty.now) source (leaf_node c.args.self.now) c.in_ok-run.field-0.now c.make_string.result c.if_built.result (sym c.requires) (c.in_ok-run.ensures source here) c.make_string.ensures.built c.make_string.ensures.full c.if_built.ensures
