use Rattle.std.proofs.Common.{◌∙◌, refl, sym, subst}
use Rattle.wave_read.specs.PartsOfKinds.{TakesEmptySet}
use Rattle.wave_read.proofs.MapReading.Entries.{other_form, of_map_kind}
use Rattle.wave_read.proofs.PartByPart.NoneRead.{sound, wrong}
use Rattle.wave_read.proofs.parts.Partial+V+Type+V.of_map.Goals as goal

pub returns-in-TupleSet : goal.returns-in-TupleSet
returns-in-TupleSet g c = sound g.V.Type.WasmType.tree g.V.WasmValue.tree g.V.WasmValue.is_of g.V.WasmValue.is_full _ c.args.of _ (λ f e. cc) (λ w source parts. (c.in-TupleSet.is, c.new.ensures w source))

pub returns-in-EmptySet : goal.returns-in-EmptySet
returns-in-EmptySet g c =
    let (K, W, is) = of_map_kind (g.V.Type.WasmType.tree c.args.ty.now) c.requires in
    sound g.V.Type.WasmType.tree g.V.WasmValue.tree g.V.WasmValue.is_of g.V.WasmValue.is_full _ c.args.of _ (λ f e. cc) (λ w source parts. (c.in-EmptySet.is, refl, refl, subst TakesEmptySet (sym is) tt))

pub returns-in_default : goal.returns-in_default
returns-in_default g c = wrong g.V.Type.WasmType.tree g.V.WasmValue.tree g.V.WasmValue.is_of g.V.WasmValue.is_full _ c.args.of c.refused.result c.refused.ensures
    (λ o w source n e parts is refused. other_form g.V.WasmValue.tree g.V.WasmValue.is_of g.V.WasmValue.is_full o w _ source n e c.requires (λ f. c.in_default.not-TupleSet (sym is ∙ f)) (λ f. c.in_default.not-EmptySet (sym is ∙ f)) refused)
