use Rattle.wave_read.proofs.PayloadReading.FlatValues.{rejected_wrapped, none_flat_within, begun_wrapped, plain_begun}
use Rattle.wave_read.proofs.values.Frame+V+Type+V.new.Goals as goal

pub new-requires : goal.new-requires
new-requires g c = none_flat_within g.V.Type.WasmType.tree (g.V.Type.WasmType.tree c.args.ty.now) c.args.of c.wrapper_and_type.result.0 c.wrapper_and_type.result.1 c.wrapper_and_type.ensures

pub returns-clause-begun : goal.returns-clause-begun
returns-clause-begun g c = λ w source parts. (
  begun_wrapped g.V.Type.WasmType.tree (g.V.Type.WasmType.tree c.args.ty.now) c.args.of g.V.WasmValue.tree g.V.WasmValue.is_of g.V.WasmValue.is_full w source c.wrapper_and_type.result.0 c.wrapper_and_type.result.1 (record { wrapper = c.wrapper_and_type.result.0; parts = c.new.result }) c.wrapper_and_type.ensures (c.new.ensures.begun.begun w source parts),
  plain_begun g.V.Type.WasmType.tree (g.V.Type.WasmType.tree c.args.ty.now) c.args.of c.wrapper_and_type.result.0 c.wrapper_and_type.result.1 c.new.result c.wrapper_and_type.ensures c.new.ensures.plain,
)

pub returns-clause-rejected : goal.returns-clause-rejected
returns-clause-rejected g c =
    rejected_wrapped g.V.Type.WasmType.tree (g.V.Type.WasmType.tree c.args.ty.now) c.args.of g.V.WasmValue.tree g.V.WasmValue.is_of g.V.WasmValue.is_full c.wrapper_and_type.result.0 c.wrapper_and_type.result.1 c.new.result g.met.V.WasmValue.full_parts c.wrapper_and_type.ensures c.new.ensures.begun.rejected
