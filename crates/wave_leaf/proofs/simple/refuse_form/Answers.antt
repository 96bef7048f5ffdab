use Rattle.std.proofs.Common.{ℕ, None, sym, ◌∙◌, subst}
use Rattle.std.specs.declared.ops.Range.{Range}
use Rattle.wave_lex.specs.Errors.{Says}
use Rattle.wave_lex.specs.declared.error.ParserErrorKind.TheVariants.{InvalidType}
use Rattle.wave_leaf.proofs.LeafReading.SimpleTypes.{plain_readable, unreadable_is, none_unreadable, form_refused, type_refused}
use Rattle.wave_leaf.proofs.simple.refuse_form.Goals as goal

pub returns-in-F32-clause-read : goal.returns-in-F32-clause-read
returns-in-F32-clause-read g c = λ o w source n there other expected.
    let k = unreadable_is c.kind-kind.result c.in-F32.is in
    type_refused g.V.WasmValue.tree g.V.WasmValue.is_of g.V.WasmValue.is_full o w (g.V.Type.WasmType.tree c.args.ty.now) c.kind-kind.result k.0 source n c.unsupported.result c.kind-kind.ensures k.1 expected (c.unsupported.ensures.cause n there) (c.unsupported.ensures.span ∙ sym there)

pub returns-in_default-clause-read : goal.returns-in_default-clause-read
returns-in_default-clause-read g c = λ o w source n there other expected.
    form_refused g.V.WasmValue.tree g.V.WasmValue.is_of g.V.WasmValue.is_full o w (g.V.Type.WasmType.tree c.args.ty.now) source n c.new.result (none_unreadable (g.V.Type.WasmType.tree c.args.ty.now) c.kind-kind.result c.kind-kind.ensures c.in_default.not-F32 c.in_default.not-F64 c.in_default.not-Unsupported) expected other (subst (λ (p : Range ℕ). Says c.new.result InvalidType p None) (sym there) c.new.ensures)

pub returns-in-F32-clause-plain : goal.returns-in-F32-clause-plain
returns-in-F32-clause-plain g c = λ plain.
    let k = unreadable_is c.kind-kind.result c.in-F32.is in
    absurd (plain_readable (g.V.Type.WasmType.tree c.args.ty.now) k.0 plain (sym c.kind-kind.ensures ∙ k.1))
