use Rattle.std.proofs.Common.{◌∙◌, sym}
use Rattle.wave_read.proofs.PayloadReading.CaseNodes.{variant_other_form}
use Rattle.wave_read.proofs.PartByPart.NoneRead.{no_label, sound, wrong}
use Rattle.wave_read.proofs.parts.Partial+V+Type+V.of_variant.Goals as goal

pub returns-in-VariantWithPayload : goal.returns-in-VariantWithPayload
returns-in-VariantWithPayload g c = sound g.V.Type.WasmType.tree g.V.WasmValue.tree g.V.WasmValue.is_of g.V.WasmValue.is_full _ c.args.of _ (λ f e. cc) (λ w source parts. (c.in-VariantWithPayload.is, c.new.ensures w source))

pub returns-in_default : goal.returns-in_default
returns-in_default g c = wrong g.V.Type.WasmType.tree g.V.WasmValue.tree g.V.WasmValue.is_of g.V.WasmValue.is_full _ c.args.of c.refused.result c.refused.ensures
    (λ o w source n e parts is refused. variant_other_form g.V.WasmValue.tree g.V.WasmValue.is_of g.V.WasmValue.is_full o w _ source n e c.requires (λ f. no_label c.args.of parts (sym is ∙ f)) (λ f. c.in_default.not-VariantWithPayload (sym is ∙ f)) refused)
