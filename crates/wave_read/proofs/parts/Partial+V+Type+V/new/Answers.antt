use Rattle.std.proofs.Common.{◌∙◌, refl, sym}
use Rattle.wave_read.proofs.LeafReading.RefusedForms.{others_simple}
use Rattle.wave_read.proofs.LeafReading.Enums.{enum_other_form}
use Rattle.wave_read.proofs.FlagReading.ByNames as flag_reading
use Rattle.wave_read.proofs.PartByPart.NoneRead.{no_flags, no_label, sound, wrong}
use Rattle.wave_leaf.proofs.LeafReading.PlainTypes.{plain_parts}
use Rattle.wave_read.proofs.parts.Partial+V+Type+V.new.Goals as goal

pub returns-in-Enum-clause-begun : goal.returns-in-Enum-clause-begun
returns-in-Enum-clause-begun g c = wrong g.V.Type.WasmType.tree g.V.WasmValue.tree g.V.WasmValue.is_of g.V.WasmValue.is_full _ c.args.of c.refused-in-Enum.result c.refused-in-Enum.ensures
    (λ o w source n e parts is refused. enum_other_form g.V.WasmValue.tree g.V.WasmValue.is_of g.V.WasmValue.is_full o w _ source n e (sym c.kind.ensures ∙ c.in-Enum.is) (λ f. no_label c.args.of parts (sym is ∙ f)) refused)

pub returns-in-List-clause-begun : goal.returns-in-List-clause-begun
returns-in-List-clause-begun g c = c.of_list.ensures

pub returns-in-Tuple-clause-begun : goal.returns-in-Tuple-clause-begun
returns-in-Tuple-clause-begun g c = c.of_tuple.ensures

pub returns-in-Record-clause-begun : goal.returns-in-Record-clause-begun
returns-in-Record-clause-begun g c = c.of_record.ensures

pub returns-in-Map-clause-begun : goal.returns-in-Map-clause-begun
returns-in-Map-clause-begun g c = c.of_map.ensures

pub returns-in_default-of-clause-begun : goal.returns-in_default-of-clause-begun
returns-in_default-of-clause-begun g c = wrong g.V.Type.WasmType.tree g.V.WasmValue.tree g.V.WasmValue.is_of g.V.WasmValue.is_full _ c.args.of c.refused.result c.refused.ensures
    (λ o w source n e parts is refused. flag_reading.other_form g.V.WasmValue.tree g.V.WasmValue.is_of g.V.WasmValue.is_full o w _ source n e (sym (sym c.kind.ensures ∙ c.in-Flags.is)) (λ f. no_flags c.args.of parts (sym is ∙ f)) (λ f. c.in_default-of.not-EmptySet (sym is ∙ f)) refused)

pub returns-in-Variant-clause-begun : goal.returns-in-Variant-clause-begun
returns-in-Variant-clause-begun g c = c.of_variant.ensures

pub returns-in-Option-clause-begun : goal.returns-in-Option-clause-begun
returns-in-Option-clause-begun g c = c.of_option.ensures

pub returns-in-Result-clause-begun : goal.returns-in-Result-clause-begun
returns-in-Result-clause-begun g c = c.of_result.ensures

pub returns-in_default-clause-begun : goal.returns-in_default-clause-begun
returns-in_default-clause-begun g c = sound g.V.Type.WasmType.tree g.V.WasmValue.tree g.V.WasmValue.is_of g.V.WasmValue.is_full _ c.args.of _ (λ f e. cc) (λ w source parts.
    (refl, others_simple (g.V.Type.WasmType.tree c.args.ty.now) c.kind.result c.kind.ensures c.in_default.not-List c.in_default.not-FixedLengthList c.in_default.not-Record c.in_default.not-Tuple c.in_default.not-Variant c.in_default.not-Enum c.in_default.not-Option c.in_default.not-Result c.in_default.not-Flags c.in_default.not-Map, parts))

pub returns-in-Enum-clause-plain : goal.returns-in-Enum-clause-plain
returns-in-Enum-clause-plain g c = λ plain. absurd ((plain_parts (g.V.Type.WasmType.tree c.args.ty.now) plain).enum (sym c.kind.ensures ∙ c.in-Enum.is))

pub returns-in-Tuple-clause-plain : goal.returns-in-Tuple-clause-plain
returns-in-Tuple-clause-plain g c = λ plain. absurd ((plain_parts (g.V.Type.WasmType.tree c.args.ty.now) plain).tuple (sym c.kind.ensures ∙ c.in-Tuple.is))

pub returns-in-Record-clause-plain : goal.returns-in-Record-clause-plain
returns-in-Record-clause-plain g c = λ plain. absurd ((plain_parts (g.V.Type.WasmType.tree c.args.ty.now) plain).record_kind (sym c.kind.ensures ∙ c.in-Record.is))

pub returns-in-Map-clause-plain : goal.returns-in-Map-clause-plain
returns-in-Map-clause-plain g c = λ plain. absurd ((plain_parts (g.V.Type.WasmType.tree c.args.ty.now) plain).map (sym c.kind.ensures ∙ c.in-Map.is))

pub returns-in-EmptySet-clause-plain : goal.returns-in-EmptySet-clause-plain
returns-in-EmptySet-clause-plain g c = λ plain. absurd ((plain_parts (g.V.Type.WasmType.tree c.args.ty.now) plain).flags (sym c.kind.ensures ∙ c.in-Flags.is))

pub returns-in_default-of-clause-plain : goal.returns-in_default-of-clause-plain
returns-in_default-of-clause-plain g c = λ plain. absurd ((plain_parts (g.V.Type.WasmType.tree c.args.ty.now) plain).flags (sym c.kind.ensures ∙ c.in-Flags.is))

pub returns-in-Variant-clause-plain : goal.returns-in-Variant-clause-plain
returns-in-Variant-clause-plain g c = λ plain. absurd ((plain_parts (g.V.Type.WasmType.tree c.args.ty.now) plain).variant (sym c.kind.ensures ∙ c.in-Variant.is))

pub returns-in-Option-clause-plain : goal.returns-in-Option-clause-plain
returns-in-Option-clause-plain g c = λ plain. absurd ((plain_parts (g.V.Type.WasmType.tree c.args.ty.now) plain).option (sym c.kind.ensures ∙ c.in-Option.is))

pub returns-in-Result-clause-plain : goal.returns-in-Result-clause-plain
returns-in-Result-clause-plain g c = λ plain. absurd ((plain_parts (g.V.Type.WasmType.tree c.args.ty.now) plain).result (sym c.kind.ensures ∙ c.in-Result.is))
