use Rattle.std.proofs.Common.{inl, inr, sym, subst, ◌∙◌}
use Rattle.wave_grammar.specs.declared.form.NodeType.{NodeType}
use Rattle.wave_wasm.specs.Types.{TypeTree}
use Rattle.wave_read.specs.Flat.{IsFlatAt}
use Rattle.wave_read.proofs.LeafReading.RefusedForms.{flags_refused, others_simple}
use Rattle.wave_read.proofs.leaves.refuse_flags.Goals as goal

pub returns-in-Flags : goal.returns-in-Flags
returns-in-Flags g c = λ o w source n ty place.
    flags_refused g.V.WasmValue.tree g.V.WasmValue.is_of g.V.WasmValue.is_full o w (g.V.Type.WasmType.tree c.args.ty.now) c.kind.result c.kind.ensures source n c.new.result
    (record { is = c.new.ensures.is; stands = c.new.ensures.stands ∙ sym place }) ty
    (subst (λ (of : NodeType). (U : TypeTree) → IsFlatAt (g.V.Type.WasmType.tree c.args.ty.now) of U → ⊥) (sym ty) c.requires.flat)
    (elim c.in-Flags.is [ inl is ↦ absurd (c.requires.kind (sym c.kind.ensures ∙ is)) | inr other ↦ other ])

pub returns-in_default : goal.returns-in_default
returns-in_default g c = λ o w source n ty place.
    c.refuse_form.ensures.read o w source n place (inr ty) (others_simple (g.V.Type.WasmType.tree c.args.ty.now) c.kind.result c.kind.ensures c.in_default.not-List c.in_default.not-FixedLengthList c.in_default.not-Record c.in_default.not-Tuple c.in_default.not-Variant c.in_default.not-Enum c.in_default.not-Option c.in_default.not-Result c.in_default.not-Flags c.in_default.not-Map)
