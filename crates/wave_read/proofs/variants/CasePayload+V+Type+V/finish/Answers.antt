use Rattle.wave_grammar.specs.FaultOrder.{in_text}
use Rattle.std.proofs.Common.{refl}
use Rattle.wave_grammar.specs.NodeTree.{node, node_trees}
use Rattle.wave_grammar.specs.declared.form.NodeType.TheVariants as kind
use Rattle.wave_read.proofs.PayloadReading.CaseAnswers.{finish_built, finish_typed}
use Rattle.wave_read.proofs.variants.CasePayload+V+Type+V.finish.Goals as goal

pub make_variant_unchecked-requires : goal.make_variant_unchecked-requires
make_variant_unchecked-requires g c =
    let (w, T, source, children, h) = c.requires in
    finish_typed g.V.Type.WasmType.tree g.V.WasmValue.tree g.V.WasmValue.is_of g.V.WasmValue.is_full in_text w T source children c.args.self (c.in-Some-Some.name, c.in-Some-Some.field-0-1-0) c.in-Some-Some.val c.in-Some-Some.is-0 c.in-Some-Some.is-1 h

pub returns : goal.returns
returns g c = λ w T source children h.
    finish_built g.V.Type.WasmType.tree g.V.WasmValue.tree g.V.WasmValue.is_of g.V.WasmValue.is_full in_text w T source children c.args.self c.args.span (c.in-Some-Some.name, c.in-Some-Some.field-0-1-0) c.in-Some-Some.val c.make_variant_unchecked.result c.or_error_at.result
    c.in-Some-Some.is-0 c.in-Some-Some.is-1 h c.make_variant_unchecked.ensures.built c.make_variant_unchecked.ensures.full (c.or_error_at.ensures (node kind.VariantWithPayload c.args.span (node_trees children)) refl)
