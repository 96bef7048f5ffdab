use Rattle.wave_leaf.specs.Leaves.{leaf_node}
use Rattle.wave_read.proofs.PayloadReading.Options.{none_read}
use Rattle.wave_read.proofs.options.read_none.Goals as goal

pub returns : goal.returns
returns g c = λ o w source.
    none_read g.V.WasmValue.tree g.V.WasmValue.is_of g.V.WasmValue.is_full o w (g.V.Type.WasmType.tree c.args.ty.now) source (leaf_node c.args.leaf.now) c.make_option.result c.or_error_here.result c.requires.kind c.requires.form c.make_option.ensures.built c.make_option.ensures.full c.or_error_here.ensures
