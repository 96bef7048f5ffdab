use Rattle.std.proofs.Common.{◌∙◌, sym}
use Rattle.wave_read.proofs.ItemReading.Lists.{other_than_list}
use Rattle.wave_read.proofs.PartByPart.NoneRead.{sound, wrong}
use Rattle.wave_read.proofs.parts.Partial+V+Type+V.of_list.Goals as goal

pub returns-in-List : goal.returns-in-List
returns-in-List g c = sound g.V.Type.WasmType.tree g.V.WasmValue.tree g.V.WasmValue.is_of g.V.WasmValue.is_full _ c.args.of _ (λ f e. cc) (λ w source parts. (c.in-List.is, c.new.ensures w source))

pub returns-in_default : goal.returns-in_default
returns-in_default g c = wrong g.V.Type.WasmType.tree g.V.WasmValue.tree g.V.WasmValue.is_of g.V.WasmValue.is_full _ c.args.of c.refused.result c.refused.ensures
    (λ o w source n e parts is refused. other_than_list g.V.WasmValue.tree g.V.WasmValue.is_of g.V.WasmValue.is_full o w _ source n e c.requires (λ f. c.in_default.not-List (sym is ∙ f)) refused)
