use Rattle.std.proofs.Common.{◌≡◌, Some, None, refl, ap, ◌∙◌, rules}
use Rattle.wave_grammar.specs.LeafTokens.{name_of}
use Rattle.wave_grammar.specs.declared.form.NodeType.TheVariants as kind
use Rattle.wave_leaf.specs.Leaves.{leaf_node}
use Rattle.wave_read.proofs.PayloadReading.CaseNodes.{no_case_read, no_payload_read, case_built, case_refused, case_named, none_named}
use Rattle.wave_read.proofs.variants.read_case.Goals as goal

pub returns-in-Ok : goal.returns-in-Ok
returns-in-Ok g c = λ o w source token here.
    let label : c.args.leaf.now.ty ≡ kind.Label = search rules in
    case_built g.V.WasmValue.tree g.V.WasmValue.is_of g.V.WasmValue.is_full o w (g.V.Type.WasmType.tree c.args.ty.now) source (leaf_node c.args.leaf.now) c.label_name-name.result.now c.in-Ok.val
    c.requires label (c.label_name-name.ensures ∙ ap name_of here) c.in-Ok.ensures.built

pub returns-in-Ok-Some-default-Some : goal.returns-in-Ok-Some-default-Some
returns-in-Ok-Some-default-Some g c = λ o w source token here.
    let label : c.args.leaf.now.ty ≡ kind.Label = search rules in
    let T = g.V.Type.WasmType.tree c.args.ty.now in
    let found = case_named g.V.Type.WasmType.tree T T c.label_name-name.result.now c.in-Ok-Some-default-Some.field-0 refl c.in-Ok-Some-default-Some.ensures c.in-Ok-Some-default-Some.field-0-0-0 c.in-Ok-Some-default-Some.field-0-0-1 (Some c.in-Ok-Some-default-Some.field-0-0-1-0) c.in-Ok-Some-default-Some.field-0-is c.in-Ok-Some-default-Some.field-0-0-1-is in
    no_payload_read g.V.WasmValue.tree g.V.WasmValue.is_of g.V.WasmValue.is_full o w T (g.V.Type.WasmType.tree c.in-Ok-Some-default-Some.field-0-0-1-0.now) source (leaf_node c.args.leaf.now) c.label_name-name.result.now c.no_payload.result
    g.met.V.WasmValue.full_parts c.requires label (c.label_name-name.ensures ∙ ap name_of here) found.1 c.no_payload.ensures.cause c.no_payload.ensures.span

pub returns-in-Ok-Some-default-None : goal.returns-in-Ok-Some-default-None
returns-in-Ok-Some-default-None g c = λ o w source token here.
    let label : c.args.leaf.now.ty ≡ kind.Label = search rules in
    let T = g.V.Type.WasmType.tree c.args.ty.now in
    let found = case_named g.V.Type.WasmType.tree T T c.label_name-name.result.now c.in-Ok-Some-default-None.field-0 refl c.in-Ok-Some-default-None.ensures c.in-Ok-Some-default-None.field-0-0-0 c.in-Ok-Some-default-None.field-0-0-1 None c.in-Ok-Some-default-None.field-0-is c.in-Ok-Some-default-None.field-0-0-1-is in
    case_refused g.V.WasmValue.tree g.V.WasmValue.is_of g.V.WasmValue.is_full o w T source (leaf_node c.args.leaf.now) c.label_name-name.result.now c.in-Err.cause c.refused.result
    c.requires label (c.label_name-name.ensures ∙ ap name_of here) found.1 c.in-Err.ensures.full c.refused.ensures.refusal c.refused.ensures.span

pub returns-in-Ok-None : goal.returns-in-Ok-None
returns-in-Ok-None g c = λ o w source token here.
    let label : c.args.leaf.now.ty ≡ kind.Label = search rules in
    let T = g.V.Type.WasmType.tree c.args.ty.now in
    no_case_read g.V.WasmValue.tree g.V.WasmValue.is_of g.V.WasmValue.is_full o w T source (leaf_node c.args.leaf.now) c.label_name-name.result.now c.no_case.result
    c.requires label (c.label_name-name.ensures ∙ ap name_of here) (none_named g.V.Type.WasmType.tree T T c.label_name-name.result.now c.in-Ok-None.field-0 refl c.in-Ok-None.ensures c.in-Ok-None.field-0-is) c.no_case.ensures.cause c.no_case.ensures.span
