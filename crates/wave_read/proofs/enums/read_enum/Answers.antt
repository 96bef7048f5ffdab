use Rattle.std.proofs.Common.{◌≡◌, ap, ◌∙◌, rules}
use Rattle.wave_grammar.specs.LeafTokens.{name_of}
use Rattle.wave_grammar.specs.declared.form.NodeType.TheVariants as kind
use Rattle.wave_leaf.specs.Leaves.{leaf_node}
use Rattle.wave_read.proofs.LeafReading.Enums.{unknown_read, case_built, case_refused}
use Rattle.wave_read.proofs.enums.read_enum.Goals as goal

pub returns-in-Ok : goal.returns-in-Ok
returns-in-Ok g c = λ o w source token here.
    let label : c.args.leaf.now.ty ≡ kind.Label = search rules in
    case_built g.V.WasmValue.tree g.V.WasmValue.is_of g.V.WasmValue.is_full o w (g.V.Type.WasmType.tree c.args.ty.now) source (leaf_node c.args.leaf.now) c.label_name-name.result.now c.in-Ok.val
    c.requires label (c.label_name-name.ensures ∙ ap name_of here) c.in-Ok.ensures.built

pub returns-in-Ok-true : goal.returns-in-Ok-true
returns-in-Ok-true g c = λ o w source token here.
    let label : c.args.leaf.now.ty ≡ kind.Label = search rules in
    case_refused g.V.WasmValue.tree g.V.WasmValue.is_of g.V.WasmValue.is_full o w (g.V.Type.WasmType.tree c.args.ty.now) source (leaf_node c.args.leaf.now) c.label_name-name.result.now c.in-Ok-true.field-0 c.in-Err.cause c.refused.result
    c.requires label (c.label_name-name.ensures ∙ ap name_of here) c.in-Ok-true.ensures c.in-Ok-true.field-0-test c.in-Err.ensures.full c.refused.ensures.refusal c.refused.ensures.span

pub returns-in-Ok-false : goal.returns-in-Ok-false
returns-in-Ok-false g c = λ o w source token here.
    let label : c.args.leaf.now.ty ≡ kind.Label = search rules in
    unknown_read g.V.WasmValue.tree g.V.WasmValue.is_of g.V.WasmValue.is_full o w (g.V.Type.WasmType.tree c.args.ty.now) source (leaf_node c.args.leaf.now) c.label_name-name.result.now c.in-Ok-false.field-0 c.no_case.result
    c.requires label (c.label_name-name.ensures ∙ ap name_of here) c.in-Ok-false.ensures c.in-Ok-false.field-0-test c.no_case.ensures.cause c.no_case.ensures.span
