use Rattle.std.proofs.Common.{◌∙◌, sym}
use Rattle.wave_read.proofs.ItemReading.Tuples.{other_than_tuple}
use Rattle.wave_read.proofs.PartByPart.NoneRead.{sound, unasked, wrong}
use Rattle.wave_read.proofs.parts.Partial+V+Type+V.of_tuple.Goals as goal

pub returns-in-Ok : goal.returns-in-Ok
returns-in-Ok g c = sound g.V.Type.WasmType.tree g.V.WasmValue.tree g.V.WasmValue.is_of g.V.WasmValue.is_full _ c.args.of _ (λ f e. cc) (λ w source parts. (c.in-Tuple.is, c.in-Ok.ensures w source))

pub returns-in-Err : goal.returns-in-Err
returns-in-Err g c = unasked g.V.Type.WasmType.tree g.V.WasmValue.tree g.V.WasmValue.is_of g.V.WasmValue.is_full _ c.args.of c.refused.result c.refused.ensures

pub returns-in_default : goal.returns-in_default
returns-in_default g c = wrong g.V.Type.WasmType.tree g.V.WasmValue.tree g.V.WasmValue.is_of g.V.WasmValue.is_full _ c.args.of c.refused-in_default.result c.refused-in_default.ensures
    (λ o w source n e parts is refused. other_than_tuple g.V.WasmValue.tree g.V.WasmValue.is_of g.V.WasmValue.is_full o w _ source n e c.requires (λ f. c.in_default.not-Tuple (sym is ∙ f)) refused)
