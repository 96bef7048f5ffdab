use Rattle.std.proofs.Common.{◌∙◌, sym, ap, subst}
use Rattle.wave_grammar.specs.declared.form.NodeType.{NodeType}
use Rattle.wave_read.specs.Flat.{IsFlatAt}
use Rattle.wave_read.specs.Payloads.{result_node}
use Rattle.wave_read.proofs.PayloadReading.Results.{other_result}
use Rattle.wave_read.proofs.PartByPart.NoneRead.{sound, wrong}
use Rattle.wave_read.proofs.parts.Partial+V+Type+V.of_result.Goals as goal

pub returns-in-ResultOk : goal.returns-in-ResultOk
returns-in-ResultOk g c = sound g.V.Type.WasmType.tree g.V.WasmValue.tree g.V.WasmValue.is_of g.V.WasmValue.is_full _ c.args.of _ (λ f e. cc) (λ w source parts. (c.in-ResultOk.is ∙ ap result_node (sym c.new.ensures.case), c.new.ensures.parts w source))

pub returns-in-ResultErr : goal.returns-in-ResultErr
returns-in-ResultErr g c = sound g.V.Type.WasmType.tree g.V.WasmValue.tree g.V.WasmValue.is_of g.V.WasmValue.is_full _ c.args.of _ (λ f e. cc) (λ w source parts. (c.in-ResultErr.is ∙ ap result_node (sym c.new-in-ResultErr.ensures.case), c.new-in-ResultErr.ensures.parts w source))

pub returns-in_default : goal.returns-in_default
returns-in_default g c = wrong g.V.Type.WasmType.tree g.V.WasmValue.tree g.V.WasmValue.is_of g.V.WasmValue.is_full _ c.args.of c.refused.result c.refused.ensures
    (λ o w source n e parts is refused. other_result g.V.WasmValue.tree g.V.WasmValue.is_of g.V.WasmValue.is_full o w _ source n e c.requires.kind (λ f. c.in_default.not-ResultOk (sym is ∙ f)) (λ f. c.in_default.not-ResultErr (sym is ∙ f))
    (λ U flat. c.requires.flat U (subst (λ (k : NodeType). IsFlatAt (g.V.Type.WasmType.tree c.args.ty.now) k U) is flat)) refused)
