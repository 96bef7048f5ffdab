use Rattle.std.proofs.Common.{◌∙◌, sym, subst}
use Rattle.wave_grammar.specs.declared.form.NodeType.{NodeType}
use Rattle.wave_read.specs.Flat.{IsFlatAt}
use Rattle.wave_read.proofs.PayloadReading.Options.{other_option}
use Rattle.wave_read.proofs.PartByPart.NoneRead.{no_none, sound, wrong}
use Rattle.wave_read.proofs.parts.Partial+V+Type+V.of_option.Goals as goal

pub returns-in-OptionSome : goal.returns-in-OptionSome
returns-in-OptionSome g c = sound g.V.Type.WasmType.tree g.V.WasmValue.tree g.V.WasmValue.is_of g.V.WasmValue.is_full _ c.args.of _ (λ f e. cc) (λ w source parts. (c.in-OptionSome.is, c.new.ensures w source))

pub returns-in_default : goal.returns-in_default
returns-in_default g c = wrong g.V.Type.WasmType.tree g.V.WasmValue.tree g.V.WasmValue.is_of g.V.WasmValue.is_full _ c.args.of c.refused.result c.refused.ensures
    (λ o w source n e parts is refused. other_option g.V.WasmValue.tree g.V.WasmValue.is_of g.V.WasmValue.is_full o w _ source n e c.requires.kind (λ f. c.in_default.not-OptionSome (sym is ∙ f)) (λ f. no_none c.args.of parts (sym is ∙ f))
    (λ U flat. c.requires.flat U (subst (λ (k : NodeType). IsFlatAt (g.V.Type.WasmType.tree c.args.ty.now) k U) is flat)) refused)
